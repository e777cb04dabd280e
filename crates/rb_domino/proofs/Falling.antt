-- What a fall leaves of a board.
use Rattle.std.proofs.Common.{◌≡◌, ◌≢◌, ℕ, ◌≤◌, ◌<◌, Bool, true, false, nat_lt, cond, ◌⊎◌, inl, inr, List, [], ◌∷◌, length, slice_get, slice_set, Option, Some, refl, ap, ◌∙◌, sym, subst, ⊎_elim, arith, get_or-set_other, get_or-set_same}
use Rattle.std.specs.List.{AllByRecursion}
use Rattle.std.proofs.lemmas.Bool.{cases_eq, ltb-true, ltb-false}
use Rattle.rb_domino.specs.declared.state.State.{State}
use Rattle.rb_domino.specs.History.{IsTakenAt, Story}
use Rattle.rb_domino.specs.Recovery.{IsOneOf, latest, left_to, message_at, stands, states_before}
use Rattle.rb_domino.specs.Board.{AreFalling, AreSplit, AreTakes, Pends, Unsends, list_at}

-- what is left after a place is dropped stands no later than it
before_up_to : (after : ℕ) (states : List State) → (latest (states_before after states)).place ≤ after
before_up_to after [] = omega arith
before_up_to after (state ∷ states) = by (nat_lt after state.place) refl (before_up_to after states)
  where
    by : (b : Bool) → nat_lt after state.place ≡ b → (latest (states_before after states)).place ≤ after
        → (latest (cond b (states_before after states) (state ∷ states))).place ≤ after
    by true later rest = rest
    by false earlier rest = let up : state.place ≤ after = ltb-false after state.place earlier in up

-- and no later than before
pub before_earlier : (after : ℕ) (states : List State) → (latest (states_before after states)).place ≤ (latest states).place
before_earlier after [] = omega arith
before_earlier after (state ∷ states) = by (nat_lt after state.place) refl
  where
    by : (b : Bool) → nat_lt after state.place ≡ b → (latest (cond b (states_before after states) (state ∷ states))).place ≤ state.place
    by true later = let high : after < state.place = ltb-true after state.place later in
        let low : (latest (states_before after states)).place ≤ after = before_up_to after states in omega arith
    by false earlier = omega arith

-- one list of many is another
pub list_same : {X : Type 0} (lists : List (List X)) (q : ℕ) (new : List X) → q < length lists → list_at (slice_set lists q new) q ≡ new
list_same lists q new within = get_or-set_same lists q new [] within

pub list_other : {X : Type 0} (lists : List (List X)) (q p : ℕ) (new : List X) → p ≢ q → list_at (slice_set lists q new) p ≡ list_at lists p
list_other lists q p new apart = get_or-set_other lists q p new [] apart

-- where a process stands that fell, and where the others do
pub stands_fallen : (left : List (List State)) (q : ℕ) (new : List State) → q < length left → stands (slice_set left q new) q ≡ latest new
stands_fallen left q new known = ap latest (list_same left q new known)

pub stands_else : (left : List (List State)) (q p : ℕ) (new : List State) → p ≢ q → stands (slice_set left q new) p ≡ stands left p
stands_else left q p new apart = ap latest (list_other left q p new apart)

-- nobody stands later than before
pub stands_earlier : (left : List (List State)) (q after p : ℕ) → q < length left
    → (stands (slice_set left q (states_before after (left_to left q))) p).place ≤ (stands left p).place
stands_earlier left q after p known = by (cases_eq p q)
  where
    by : (p ≡ q) ⊎ (p ≢ q) → (stands (slice_set left q (states_before after (left_to left q))) p).place ≤ (stands left p).place
    by (inl same) =
        subst (λ n. (stands (slice_set left q (states_before after (left_to left q))) n).place ≤ (stands left n).place) (sym same)
        (subst (λ s. s.place ≤ (stands left q).place) (sym (stands_fallen left q (states_before after (left_to left q)) known))
        (before_earlier after (left_to left q)))
    by (inr apart) =
        let e : (stands (slice_set left q (states_before after (left_to left q))) p).place ≡ (stands left p).place =
        ap (λ s. s.place) (stands_else left q p (states_before after (left_to left q)) apart) in omega arith

-- what falls is split as before
pub split_fallen : (story : Story) (takes : List (Option ℕ)) (left : List (List State)) (sends : List (List ℕ)) (pending now : ℕ → Bool)
    (q after : ℕ) (own : List ℕ) → q < length left → q < length sends → AreTakes story takes → AreSplit story left sends pending
    → Unsends story takes (latest (states_before after (left_to left q))).place (list_at sends q) own pending now
    → AreSplit story (slice_set left q (states_before after (left_to left q))) (slice_set sends q own) now
split_fallen story takes left sends pending now q after own known sending told split unsent =
    let new = states_before after (left_to left q) in
    let fallen = slice_set left q new in
    let lists = slice_set sends q own in
    let same : list_at lists q ≡ own = list_same sends q own sending in
    let other : (p : ℕ) → p ≢ q → list_at lists p ≡ list_at sends p = λ p apart. list_other sends q p own apart in
    let earlier : (p : ℕ) → (stands fallen p).place ≤ (stands left p).place = λ p. stands_earlier left q after p known in
    let here : (p : ℕ) → p ≡ q → list_at lists p ≡ own = λ p e. ap (list_at lists) e ∙ same in
    record {
      falling = λ p. each AreFalling p (λ e. subst AreFalling (sym (here p e)) unsent.falling)
          (λ apart. subst AreFalling (sym (other p apart)) (split.falling p));
      known = λ p. each (AllByRecursion (λ m. m < length story.messages)) p
          (λ e. subst (AllByRecursion (λ m. m < length story.messages)) (sym (here p e)) unsent.known)
          (λ apart. subst (AllByRecursion (λ m. m < length story.messages)) (sym (other p apart)) (split.known p));
      own = λ p m among. owned p m (cases_eq p q) among;
      before = λ p. up_to p (cases_eq p q);
      covers = λ m taken is. covered m taken is (cases_eq (message_at story m).sender q) (split.covers m taken is);
      sound = λ taken h. sounds taken (unsent.sound taken h);
    }
  where
    each : (P : List ℕ → Type 0) (p : ℕ) → (p ≡ q → P (list_at (slice_set sends q own) p))
        → (p ≢ q → P (list_at (slice_set sends q own) p)) → P (list_at (slice_set sends q own) p)
    each P p it others = ⊎_elim it others (cases_eq p q)

    owned : (p m : ℕ) → (p ≡ q) ⊎ (p ≢ q) → IsOneOf m (list_at (slice_set sends q own) p) → (message_at story m).sender ≡ p
    owned p m (inl e) among =
        split.own q m (unsent.within m (subst (IsOneOf m) (ap (list_at (slice_set sends q own)) e ∙ list_same sends q own sending) among)) ∙ sym e
    owned p m (inr apart) among = split.own p m (subst (IsOneOf m) (list_other sends q p own apart) among)

    up_to : (p : ℕ) → (p ≡ q) ⊎ (p ≢ q)
        → AllByRecursion (λ m. (message_at story m).sent ≤ (stands (slice_set left q (states_before after (left_to left q))) p).place)
        (list_at (slice_set sends q own) p)
    up_to p (inl e) =
        subst (λ n. AllByRecursion (λ m. (message_at story m).sent ≤ (stands (slice_set left q (states_before after (left_to left q))) n).place)
        (list_at (slice_set sends q own) n)) (sym e)
        (subst (λ s. AllByRecursion (λ m. (message_at story m).sent ≤ s.place) (list_at (slice_set sends q own) q))
        (sym (stands_fallen left q (states_before after (left_to left q)) known))
        (subst (AllByRecursion (λ m. (message_at story m).sent ≤ (latest (states_before after (left_to left q))).place))
        (sym (list_same sends q own sending)) unsent.kept))
    up_to p (inr apart) =
        subst (λ s. AllByRecursion (λ m. (message_at story m).sent ≤ s.place) (list_at (slice_set sends q own) p))
        (sym (stands_else left q p (states_before after (left_to left q)) apart))
        (subst (AllByRecursion (λ m. (message_at story m).sent ≤ (stands left p).place)) (sym (list_other sends q p own apart)) (split.before p))

    by_moved : (m taken : ℕ) → IsTakenAt story m taken → (message_at story m).sender ≡ q
        → IsOneOf m own ⊎ ((t : ℕ) → slice_get takes m ≡ Some (Some t) → now t ≡ true)
        → IsOneOf m (list_at (slice_set sends q own) (message_at story m).sender)
        ⊎ (taken < (stands (slice_set left q (states_before after (left_to left q))) (message_at story m).receiver).place → now taken ≡ true)
    by_moved m taken is e (inl among) =
        inl (subst (IsOneOf m) (sym (ap (list_at (slice_set sends q own)) e ∙ list_same sends q own sending)) among)
    by_moved m taken is e (inr all) = inr (λ lt. all taken (told.told m taken is))

    covered : (m taken : ℕ) → IsTakenAt story m taken → ((message_at story m).sender ≡ q) ⊎ ((message_at story m).sender ≢ q)
        → IsOneOf m (list_at sends (message_at story m).sender) ⊎ (taken < (stands left (message_at story m).receiver).place → pending taken ≡ true)
        → IsOneOf m (list_at (slice_set sends q own) (message_at story m).sender)
        ⊎ (taken < (stands (slice_set left q (states_before after (left_to left q))) (message_at story m).receiver).place → now taken ≡ true)
    covered m taken is (inl e) (inl among) =
        by_moved m taken is e (unsent.moved m (subst (λ p. IsOneOf m (list_at sends p)) e among))
    covered m taken is (inr apart) (inl among) =
        inl (subst (IsOneOf m) (sym (list_other sends q (message_at story m).sender own apart)) among)
    covered m taken is sender (inr pends) =
        let low : (stands (slice_set left q (states_before after (left_to left q))) (message_at story m).receiver).place
        ≤ (stands left (message_at story m).receiver).place =
        stands_earlier left q after (message_at story m).receiver known in
        inr (λ lt. unsent.keeps taken (pends (omega arith)))

    sounds : (taken : ℕ) → (pending taken ≡ true) ⊎ ((m : ℕ) × IsOneOf m (list_at sends q) × (slice_get takes m ≡ Some (Some taken))
        × ((latest (states_before after (left_to left q))).place < (message_at story m).sent))
        → Pends story (slice_set left q (states_before after (left_to left q))) taken
    sounds taken (inl h) =
        let old = split.sound taken h in
        let low : (stands (slice_set left q (states_before after (left_to left q))) (message_at story old.message).sender).place
        ≤ (stands left (message_at story old.message).sender).place =
        stands_earlier left q after (message_at story old.message).sender known in
        let was : (stands left (message_at story old.message).sender).place < (message_at story old.message).sent = old.behind in
        record { message = old.message; is_taken = old.is_taken; behind = omega arith }
    sounds taken (inr (m, among, is, behind)) = record {
      message = m;
      is_taken = told.sound m taken is;
      behind = subst (λ p. (stands (slice_set left q (states_before after (left_to left q))) p).place < (message_at story m).sent)
          (sym (split.own q m among))
          (subst (λ s. s.place < (message_at story m).sent) (sym (stands_fallen left q (states_before after (left_to left q)) known)) behind);
    }
