-- The first message that breaks the line is the first that is pending.
use Rattle.std.proofs.Common.{◌≡◌, ℕ, zero, suc, ◌+◌, ◌≤◌, ◌<◌, Bool, true, false, nat_lt, ◌&&◌, cond, ◌⊎◌, inl, inr, List, [], ◌∷◌, slice_get, Option, Some, None, refl, ap, ◌∙◌, sym, subst, arith, length, get_or, Bor, IfSome}
use Rattle.std.specs.List.{AllByRecursion, list_any}
use Rattle.std.specs.Ordering.{is_gt, nat_cmp}
use Rattle.std.specs.Option.{option_copied}
use Rattle.std.proofs.lemmas.Option.{get_or_from_slice_get, slice_get_read}
use Rattle.std.proofs.lemmas.Map.Keys.{le_from_not_gt}
use Rattle.std.specs.BTreeMap.{is_at}
use Rattle.std.specs.BTreeSet.{BTreeSet}
use Rattle.std.proofs.lemmas.Bool.{lt-ltb, ltb-true}
use Rattle.rb_domino.specs.declared.line.Line.{Line}
use Rattle.rb_domino.specs.declared.line.Line.TheVariants.{Begin, Point, Send, Take, Fail}
use Rattle.rb_domino.specs.declared.line.Message.{Message}
use Rattle.rb_domino.specs.declared.state.State.{State}
use Rattle.rb_domino.specs.History.{IsTakenAt, Story}
use Rattle.rb_domino.specs.Recovery.{IsOneOf, breaks, fall_at, fall_by, first_fall, first_fall_from, message_at, no_message, or_later, stands}
use Rattle.rb_domino.specs.Board.{AreSplit, IsOrderly, NamesKnown, Pends, is_in, list_at}
use Rattle.rb_domino.proofs.Pending.{IsRemoved}

-- what holds of all of a list holds of each
pub all_among : (P : ℕ → Type 0) (m : ℕ) (ms : List ℕ) → AllByRecursion P ms → IsOneOf m ms → P m
all_among P m [] all among = absurd among
all_among P m (n ∷ ns) all (inl same) = subst P (sym same) all.0
all_among P m (n ∷ ns) all (inr among) = all_among P m ns all.1 among

-- both halves of a test
pub breaks_both : (left : List (List State)) (taken : ℕ) (message : Message) → breaks left taken message ≡ true
    → (taken < (stands left message.receiver).place) × ((stands left message.sender).place < message.sent)
breaks_both left taken message e =
    by (nat_lt taken (stands left message.receiver).place) refl (nat_lt (stands left message.sender).place message.sent) refl e
  where
    by : (a : Bool) → nat_lt taken (stands left message.receiver).place ≡ a
        → (b : Bool) → nat_lt (stands left message.sender).place message.sent ≡ b → (a && b) ≡ true
        → (taken < (stands left message.receiver).place) × ((stands left message.sender).place < message.sent)
    by true one true two e = (ltb-true taken (stands left message.receiver).place one, ltb-true (stands left message.sender).place message.sent two)
    by true one false two e = absurd (cc)
    by false one b two e = absurd (cc)

pub breaks_from : (left : List (List State)) (taken : ℕ) (message : Message) → taken < (stands left message.receiver).place
    → (stands left message.sender).place < message.sent → breaks left taken message ≡ true
breaks_from left taken message one two = ap (λ a. a && nat_lt (stands left message.sender).place message.sent) (lt-ltb _ _ one) ∙ lt-ltb _ _ two

-- a message that breaks the line is pending
pub breaks_pend : (story : Story) (left : List (List State)) (sends : List (List ℕ)) (pending : ℕ → Bool) (m taken : ℕ)
    → AreSplit story left sends pending → IsTakenAt story m taken → breaks left taken (message_at story m) ≡ true → pending taken ≡ true
breaks_pend story left sends pending m taken split is e = by (breaks_both left taken (message_at story m) e) (split.covers m taken is)
  where
    by : (taken < (stands left (message_at story m).receiver).place) × ((stands left (message_at story m).sender).place < (message_at story m).sent)
        → IsOneOf m (list_at sends (message_at story m).sender) ⊎ (taken < (stands left (message_at story m).receiver).place → pending taken ≡ true)
        → pending taken ≡ true
    by both (inl among) =
        let sender = (message_at story m).sender in
        let early : (message_at story m).sent ≤ (stands left sender).place =
        all_among (λ n. (message_at story n).sent ≤ (stands left sender).place) m (list_at sends sender) (split.before sender) among in
        absurd (let late : (stands left sender).place < (message_at story m).sent = both.1 in let never : ⊥ = omega arith in never)
    by both (inr pends) = pends both.0

-- no line before it breaks the recovery line
no_fall : (story : Story) (left : List (List State)) (at : ℕ) (line : Line)
    → ((n : ℕ) → line ≡ Take n → breaks left at (message_at story n) ≡ false) → fall_at story left at line ≡ None
no_fall story left at (Begin p) h = refl
no_fall story left at (Point p) h = refl
no_fall story left at (Send m) h = refl
no_fall story left at (Take m) h = ap (λ b. cond b (Some (fall_by (message_at story m) m at)) None) (h m refl)
no_fall story left at (Fail p) h = refl

-- nothing breaks the line
first_none_from : (story : Story) (left : List (List State)) (at : ℕ) (lines : List Line)
    → ((j n : ℕ) → slice_get lines j ≡ Some (Take n) → breaks left (at + j) (message_at story n) ≡ false)
    → first_fall_from story left at lines ≡ None
first_none_from story left at [] h = refl
first_none_from story left at (line ∷ lines) h =
    let here : fall_at story left at line ≡ None = no_fall story left at line (λ n e.
    let zero_on : at + 0 ≡ at = omega arith in ap (λ k. breaks left k (message_at story n)) (sym zero_on) ∙ h zero n (ap (λ l. Some l) e)) in
    ap (λ o. or_later o (first_fall_from story left (at + 1) lines)) here
    ∙ first_none_from story left (at + 1) lines (λ j n e.
    let on : at + 1 + j ≡ at + suc j = omega arith in ap (λ k. breaks left k (message_at story n)) on ∙ h (suc j) n e)

pub first_none : (story : Story) (left : List (List State))
    → ((taken m : ℕ) → IsTakenAt story m taken → breaks left taken (message_at story m) ≡ false) → first_fall story left ≡ None
first_none story left h = first_none_from story left 0 story.lines (λ j n e.
    let on : 0 + j ≡ j = omega arith in ap (λ k. breaks left k (message_at story n)) on ∙ h j n e)

-- the first that breaks the line
first_is_from : (story : Story) (left : List (List State)) (at : ℕ) (lines : List Line) (i m : ℕ) → slice_get lines i ≡ Some (Take m)
    → breaks left (at + i) (message_at story m) ≡ true
    → ((j n : ℕ) → slice_get lines j ≡ Some (Take n) → breaks left (at + j) (message_at story n) ≡ true → i ≤ j)
    → first_fall_from story left at lines ≡ Some (fall_by (message_at story m) m (at + i))
first_is_from story left at [] i m is here first = absurd (cc)
first_is_from story left at (line ∷ lines) zero m is here first =
    let line_is : line ≡ Take m = cc in
    let zero_on : at + 0 ≡ at = omega arith in
    let test : breaks left at (message_at story m) ≡ true = ap (λ k. breaks left k (message_at story m)) (sym zero_on) ∙ here in
    ap (λ l. or_later (fall_at story left at l) (first_fall_from story left (at + 1) lines)) line_is
    ∙ ap (λ b. or_later (cond b (Some (fall_by (message_at story m) m at)) None) (first_fall_from story left (at + 1) lines)) test
    ∙ ap (λ k. Some (fall_by (message_at story m) m k)) (sym zero_on)
first_is_from story left at (line ∷ lines) (suc i) m is here first =
    let on : at + 1 + i ≡ at + suc i = omega arith in
    let none : fall_at story left at line ≡ None = no_fall story left at line (λ n e. by n e (breaks left at (message_at story n)) refl) in
    ap (λ o. or_later o (first_fall_from story left (at + 1) lines)) none
    ∙ first_is_from story left (at + 1) lines i m is (ap (λ k. breaks left k (message_at story m)) on ∙ here)
    (λ j n e h. let on_j : at + 1 + j ≡ at + suc j = omega arith in
    let up : suc i ≤ suc j = first (suc j) n e (ap (λ k. breaks left k (message_at story n)) (sym on_j) ∙ h) in omega arith)
    ∙ ap (λ k. Some (fall_by (message_at story m) m k)) on
  where
    by : (n : ℕ) → line ≡ Take n → (b : Bool) → breaks left at (message_at story n) ≡ b → breaks left at (message_at story n) ≡ false
    by n e true h =
        let zero_on : at + 0 ≡ at = omega arith in
        let never : suc i ≤ 0 = first zero n (ap (λ l. Some l) e) (ap (λ k. breaks left k (message_at story n)) zero_on ∙ h) in
        absurd (let no_way : ⊥ = omega arith in no_way)
    by n e false h = h

pub first_is : (story : Story) (left : List (List State)) (taken m : ℕ) → IsTakenAt story m taken
    → breaks left taken (message_at story m) ≡ true
    → ((k n : ℕ) → IsTakenAt story n k → breaks left k (message_at story n) ≡ true → taken ≤ k)
    → first_fall story left ≡ Some (fall_by (message_at story m) m taken)
first_is story left taken m is here first =
    let on : 0 + taken ≡ taken = omega arith in
    first_is_from story left 0 story.lines taken m is (ap (λ k. breaks left k (message_at story m)) on ∙ here)
    (λ j n e h. let on_j : 0 + j ≡ j = omega arith in first j n e (ap (λ k. breaks left k (message_at story n)) (sym on_j) ∙ h))
    ∙ ap (λ k. Some (fall_by (message_at story m) m k)) on

-- a message whose receiver stands before its `take` needs not be pending
pub split_without : (story : Story) (left : List (List State)) (sends : List (List ℕ)) (old new : BTreeSet ℕ) (m taken : ℕ)
    → AreSplit story left sends (is_in old) → IsTakenAt story m taken → (stands left (message_at story m).receiver).place ≤ taken
    → IsRemoved old new taken → AreSplit story left sends (is_in new)
split_without story left sends old new m taken split is up_to removed = record {
  falling = split.falling;
  known = split.known;
  own = split.own;
  before = split.before;
  covers = λ n k is_n. by n k is_n (split.covers n k is_n);
  sound = λ k h. split.sound k (removed.only k h);
}
  where
    kept : (n k : ℕ) → IsTakenAt story n k → k < (stands left (message_at story n).receiver).place
        → (is_in new k ≡ true) ⊎ (taken ≡ k) → is_in new k ≡ true
    kept n k is_n lt (inl h) = h
    kept n k is_n lt (inr same) =
        let one : Some (Take m) ≡ Some (Take n) = sym is ∙ ap (slice_get story.lines) same ∙ is_n in
        let number : m ≡ n = cc in
        let low : (stands left (message_at story n).receiver).place ≤ taken =
        subst (λ k. (stands left (message_at story k).receiver).place ≤ taken) number up_to in
        absurd (let never : ⊥ = omega arith in never)

    by : (n k : ℕ) → IsTakenAt story n k
        → IsOneOf n (list_at sends (message_at story n).sender) ⊎ (k < (stands left (message_at story n).receiver).place → is_in old k ≡ true)
        → IsOneOf n (list_at sends (message_at story n).sender) ⊎ (k < (stands left (message_at story n).receiver).place → is_in new k ≡ true)
    by n k is_n (inl among) = inl among
    by n k is_n (inr pends) = inr (λ lt. kept n k is_n lt (removed.keeps k (pends lt)))

-- the pending message of the least place breaks the line, if its receiver stands behind it
pub pending_first : (story : Story) (left : List (List State)) (sends : List (List ℕ)) (pending : BTreeSet ℕ) (m taken : ℕ)
    → AreSplit story left sends (is_in pending) → IsTakenAt story m taken → is_in pending taken ≡ true
    → ((q : ℕ) → is_in pending q ≡ true → taken ≤ q) → taken < (stands left (message_at story m).receiver).place
    → first_fall story left ≡ Some (fall_by (message_at story m) m taken)
pending_first story left sends pending m taken split is here least behind =
    let pends = split.sound taken here in
    let number : pends.message ≡ m = let one = sym pends.is_taken ∙ is in cc in
    let late : (stands left (message_at story m).sender).place < (message_at story m).sent =
    subst (λ n. (stands left (message_at story n).sender).place < (message_at story n).sent) number pends.behind in
    first_is story left taken m is (breaks_from left taken (message_at story m) behind late)
    (λ k n is_n e. least k (breaks_pend story left sends (is_in pending) n k split is_n e))

-- nothing is pending
pub pending_none : (story : Story) (left : List (List State)) (sends : List (List ℕ)) (pending : BTreeSet ℕ)
    → AreSplit story left sends (is_in pending) → pending.keys ≡ [] → first_fall story left ≡ None
pending_none story left sends pending split none = first_none story left (λ taken m is. by taken m is (breaks left taken (message_at story m)) refl)
  where
    by : (taken m : ℕ) → IsTakenAt story m taken → (b : Bool) → breaks left taken (message_at story m) ≡ b
        → breaks left taken (message_at story m) ≡ false
    by taken m is true e =
        let here : is_in pending taken ≡ true = breaks_pend story left sends (is_in pending) m taken split is e in
        let never : list_any (is_at (nat_cmp taken)) [] ≡ true = ap (list_any (is_at (nat_cmp taken))) (sym none) ∙ here in
        absurd (cc)
    by taken m is false e = e

-- a place that is in a set, and is the least there
pub record IsLeast (pending : BTreeSet ℕ) (taken : ℕ) : Type 0 where
  pub here : is_in pending taken ≡ true
  pub least : (q : ℕ) → is_in pending q ≡ true → taken ≤ q

pub least_first : (pending : BTreeSet ℕ) (o : Option (Bor ℕ)) (taken : ℕ) → Some taken ≡ option_copied o
    → IfSome o (λ k. is_in pending k.now ≡ true)
    → IfSome o (λ k. (q : ℕ) → is_in pending q ≡ true → is_gt (nat_cmp k.now q) ≡ false) → IsLeast pending taken
least_first pending None taken is member lower = absurd (cc)
least_first pending (Some k) taken is member lower =
    let same : k.now ≡ taken = cc in
    subst (IsLeast pending) same (record { here = member; least = λ q h. le_from_not_gt k.now q (lower q h) })

-- what holds of all of a list holds at each place
pub all_at : {X : Type 0} (P : X → Type 0) (xs : List X) (i : ℕ) (x : X) → AllByRecursion P xs → slice_get xs i ≡ Some x → P x
all_at P [] i x all is = absurd (cc)
all_at P (y ∷ ys) zero x all is = let same : y ≡ x = cc in subst P same all.0
all_at P (y ∷ ys) (suc i) x all is = all_at P ys i x all.1 is

-- the line at a pending place
pub line_taken : (story : Story) (left : List (List State)) (lines : List Line) (taken m : ℕ) (d : Line) → lines ≡ story.lines
    → Pends story left taken → get_or lines taken d ≡ Take m → IsTakenAt story m taken
line_taken story left lines taken m d same pends is =
    let there : get_or story.lines taken d ≡ Take pends.message = get_or_from_slice_get story.lines taken (Take pends.message) d pends.is_taken in
    let read : get_or story.lines taken d ≡ Take m = ap (λ ls. get_or ls taken d) (sym same) ∙ is in
    let number : pends.message ≡ m = let one = sym there ∙ read in cc in
    subst (λ n. IsTakenAt story n taken) number pends.is_taken

-- the message that is read
pub message_read : (story : Story) (messages : List Message) (taken m : ℕ) (message : Message) → messages ≡ story.messages → IsOrderly story
    → IsTakenAt story m taken → message ≡ get_or messages m message → message ≡ message_at story m
message_read story messages taken m message same orderly is read =
    let within : m < length story.messages =
    all_at (NamesKnown (length story.processes) (length story.messages)) story.lines taken (Take m) orderly.lines is in
    let there : slice_get story.messages m ≡ Some message =
    slice_get_read story.messages (length story.messages) m message refl within (read ∙ ap (λ ms. get_or ms m message) same) in
    sym (get_or_from_slice_get story.messages m message no_message there)
