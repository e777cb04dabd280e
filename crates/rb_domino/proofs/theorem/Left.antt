-- What each process has given up and what is left to it, from fall to fall.
use Rattle.std.proofs.Common.{◌≡◌, ◌≢◌, ℕ, ◌≤◌, ◌<◌, ◌==◌, Bool, true, false, cond, ◌⊎◌, inl, inr, List, [], ◌∷◌, ◌++◌, length, map, refl, ap, ◌∙◌, sym, subst, arith, append_assoc, length-set, eq-eqb}
use Rattle.std.proofs.lemmas.Bool.{cases_eq, eqb-true}
use Rattle.std.proofs.lemmas.List.{append-nil, map-append}
use Rattle.rb_domino.specs.declared.analysis.Dropped.{Dropped}
use Rattle.rb_domino.specs.declared.line.Line.TheVariants.{Begin}
use Rattle.rb_domino.specs.declared.state.State.{State}
use Rattle.rb_domino.specs.declared.state.Fall.{Fall}
use Rattle.rb_domino.specs.History.{FailsAt, IsTakenAt, Story}
use Rattle.rb_domino.specs.Recovery.{IsOneOf, all_states, breaks, drops_of, fall_by, left_after, left_to, message_at, stands, states_after, states_before, states_of}
use Rattle.rb_domino.specs.RecoveryLine.{AreForced, dropped_by, numbers}
use Rattle.rb_domino.specs.Board.{IsOrderly, NamesKnown}
use Rattle.rb_domino.proofs.FirstFall.{all_at, breaks_both}
use Rattle.rb_domino.proofs.Falling.{list_other, list_same}
use Rattle.rb_domino.proofs.GivenUp.{dropped_in}
use Rattle.rb_domino.proofs.theorem.Descending.{Descend, after_before, some_left}
use Rattle.rb_domino.proofs.theorem.StatesOf.{first_counted, first_left, now_first, point_is, states_descend}
use Rattle.rb_domino.proofs.theorem.Causes.{BeginsBefore, IsCausal, message_known}
use Rattle.rb_domino.proofs.theorem.Falls.{Breaks, failure}
use Rattle.rb_domino.proofs.theorem.Forced.{ForcesEach, forced_both, forced_fall, given_both, given_fall, given_up}

-- what one process has given up, and that something is left
pub record IsGivenUp (story : Story) (drops : List Dropped) (left : List (List State)) (p : ℕ) : Type 0 where
  pub given : List State
  pub whole : given ++ left_to left p ≡ states_of story p
  pub made : dropped_by p drops ≡ numbers given
  pub some : 0 < length (left_to left p)

-- what has been given up and what is left, of all
pub record IsLeft (story : Story) (drops : List Dropped) (left : List (List State)) : Type 0 where
  pub counted : length left ≡ length story.processes
  pub each : (p : ℕ) → p < length story.processes → IsGivenUp story drops left p
  pub forced : AreForced story (all_states story) drops
  pub gives : given_up drops (all_states story) ≡ left

-- before anything is given up
pub all_left : (story : Story) → IsLeft story [] (all_states story)
all_left story = record {
  counted = first_counted story;
  each = λ p below. record {
    given = [];
    whole = first_left story p below;
    made = refl;
    some = let first = now_first story p in omega (arith, ap (length {A = State}) (first_left story p below ∙ first.1));
  };
  forced = tt;
  gives = refl;
}

-- the drops of a process, of some drops and then others
dropped_both : (p : ℕ) (first then : List Dropped) → dropped_by p (first ++ then) ≡ dropped_by p first ++ dropped_by p then
dropped_both p [] then = refl
dropped_both p (d ∷ first) then = by (d.process == p) (dropped_both p first then)
  where
    by : (b : Bool) → dropped_by p (first ++ then) ≡ dropped_by p first ++ dropped_by p then
        → cond b (d.state ∷ dropped_by p (first ++ then)) (dropped_by p (first ++ then))
        ≡ cond b (d.state ∷ dropped_by p first) (dropped_by p first) ++ dropped_by p then
    by true rest = ap (λ (ns : List ℕ). d.state ∷ ns) rest
    by false rest = rest

-- one process gives up states in a fall
dropped_falling : (p : ℕ) (fall : Fall) (states : List State)
    → dropped_by p (map (dropped_in fall) states) ≡ cond (fall.process == p) (numbers states) []
dropped_falling p fall [] = by (fall.process == p)
  where
    by : (b : Bool) → [] ≡ cond b (numbers []) []
    by true = refl
    by false = refl
dropped_falling p fall (s ∷ states) = by (fall.process == p) (dropped_falling p fall states)
  where
    by : (b : Bool) → dropped_by p (map (dropped_in fall) states) ≡ cond b (numbers states) []
        → cond b (s.number ∷ dropped_by p (map (dropped_in fall) states)) (dropped_by p (map (dropped_in fall) states))
        ≡ cond b (numbers (s ∷ states)) []
    by true rest = ap (λ (ns : List ℕ). s.number ∷ ns) rest
    by false rest = rest

apart_false : (p q : ℕ) → p ≢ q → (q == p) ≡ false
apart_false p q apart = by (q == p) refl
  where
    by : (b : Bool) → (q == p) ≡ b → (q == p) ≡ false
    by true e = absurd (apart (sym (eqb-true q p e)))
    by false e = e

-- the process that falls
own_given : (story : Story) (fall : Fall) (drops : List Dropped) (left : List (List State)) (s : State) → fall.process < length left
    → IsGivenUp story drops left fall.process → IsOneOf s (states_of story fall.process) → s.place ≤ fall.after
    → IsGivenUp story (drops ++ drops_of fall left) (left_after fall left) fall.process
own_given story fall drops left s known was one low =
    let q = fall.process in
    let mine = left_to left q in
    let gone = states_after fall.after mine in
    let kept = states_before fall.after mine in
    let now : left_to (left_after fall left) q ≡ kept = list_same left q kept known in
    record {
      given = was.given ++ gone;
      whole = ap (λ (r : List State). (was.given ++ gone) ++ r) now ∙ append_assoc was.given gone kept
          ∙ ap (λ (r : List State). was.given ++ r) (after_before fall.after mine) ∙ was.whole;
      made = dropped_both q drops (drops_of fall left)
          ∙ ap (λ (ns : List ℕ). ns ++ dropped_by q (drops_of fall left)) was.made
          ∙ ap (λ (ns : List ℕ). numbers was.given ++ ns)
          (dropped_falling q fall gone ∙ ap (λ b. cond b (numbers gone) []) (eq-eqb q q refl))
          ∙ sym (map-append (λ (k : State). k.number) was.given gone);
      some = subst (λ (r : List State). 0 < length r) (sym now)
          (some_left fall.after s was.given mine (subst Descend (sym was.whole) (states_descend story q)) was.some
          (subst (IsOneOf s) (sym was.whole) one) low);
    }

-- and the others
other_given : (story : Story) (fall : Fall) (drops : List Dropped) (left : List (List State)) (p : ℕ) → p ≢ fall.process
    → IsGivenUp story drops left p → IsGivenUp story (drops ++ drops_of fall left) (left_after fall left) p
other_given story fall drops left p apart was =
    let gone = states_after fall.after (left_to left fall.process) in
    let kept = states_before fall.after (left_to left fall.process) in
    let now : left_to (left_after fall left) p ≡ left_to left p = list_other left fall.process p kept apart in
    record {
      given = was.given;
      whole = ap (λ (r : List State). was.given ++ r) now ∙ was.whole;
      made = dropped_both p drops (drops_of fall left)
          ∙ ap (λ (ns : List ℕ). dropped_by p drops ++ ns)
          (dropped_falling p fall gone ∙ ap (λ b. cond b (numbers gone) []) (apart_false p fall.process apart))
          ∙ append-nil (dropped_by p drops) ∙ was.made;
      some = subst (λ (r : List State). 0 < length r) (sym now) was.some;
    }

-- a fall behind a state of its process, each drop of which is forced
fallen : (story : Story) (fall : Fall) (drops : List Dropped) (left : List (List State)) (s : State) → IsLeft story drops left
    → fall.process < length story.processes → IsOneOf s (states_of story fall.process) → s.place ≤ fall.after → ForcesEach story fall left
    → IsLeft story (drops ++ drops_of fall left) (left_after fall left)
fallen story fall drops left s so_far below one low forces = record {
  counted = length-set left fall.process (states_before fall.after (left_to left fall.process)) ∙ so_far.counted;
  each = λ p under. by p under (cases_eq p fall.process);
  forced = forced_both story drops (drops_of fall left) (all_states story) so_far.forced
      (subst (λ l. AreForced story l (drops_of fall left)) (sym so_far.gives) (forced_fall story fall left known forces));
  gives = given_both drops (drops_of fall left) (all_states story) ∙ ap (given_up (drops_of fall left)) so_far.gives
      ∙ given_fall fall left known;
}
  where
    known : fall.process < length left
    known = omega (arith, so_far.counted)

    by : (p : ℕ) → p < length story.processes → (p ≡ fall.process) ⊎ (p ≢ fall.process)
        → IsGivenUp story (drops ++ drops_of fall left) (left_after fall left) p
    by p under (inl same) = subst (IsGivenUp story (drops ++ drops_of fall left) (left_after fall left)) (sym same)
        (own_given story fall drops left s known (so_far.each fall.process below) one low)
    by p under (inr apart) = other_given story fall drops left p apart (so_far.each p under)

-- where a process has begun, it has a state
begun_state : (story : Story) (p end : ℕ) → BeginsBefore story.lines p end → (s : State) × IsOneOf s (states_of story p) × (s.place < end)
begun_state story p end b =
    let h = point_is story p b.place (Begin p) b.is (eq-eqb p p refl) in
    (h.0, h.1, omega (arith, h.2, b.before))

-- the fall of the process that failed
pub failed_left : (story : Story) (p at : ℕ) → IsCausal story → FailsAt story p at → p < length story.processes
    → IsLeft story (drops_of (failure p at) (all_states story)) (left_after (failure p at) (all_states story))
failed_left story p at causal fails below =
    let s = begun_state story p at (causal.fails p at fails) in
    fallen story (failure p at) [] (all_states story) s.0 (all_left story) below s.1 (omega (arith, s.2)) (λ left state same late. (at, fails, late))

-- a message that breaks the line has a sender apart from its receiver
sender_apart : (story : Story) (left : List (List State)) (m at : ℕ) → IsCausal story → IsTakenAt story m at
    → breaks left at (message_at story m) ≡ true → (message_at story m).sender ≢ (message_at story m).receiver
sender_apart story left m at causal is broken same =
    let both = breaks_both left at (message_at story m) broken in
    let stand : (stands left (message_at story m).sender).place ≡ (stands left (message_at story m).receiver).place =
    ap (λ p. (stands left p).place) same in
    let never : ⊥ = omega (arith, stand, both.0, both.1, causal.sends m at is) in never

-- a fall by a message
pub message_left : (story : Story) → IsOrderly story → IsCausal story → (drops : List Dropped) (left : List (List State)) (fall : Fall)
    → Breaks story left fall → IsLeft story drops left → IsLeft story (drops ++ drops_of fall left) (left_after fall left)
message_left story orderly causal drops left fall b so_far =
    let message = message_at story b.message in
    let both = breaks_both left b.at message b.broken in
    let m_known = all_at (NamesKnown (length story.processes) (length story.messages)) story.lines b.at _ orderly.lines b.taken in
    let s = begun_state story message.receiver b.at (causal.takes b.message b.at b.taken) in
    subst (λ f. IsLeft story (drops ++ drops_of f left) (left_after f left)) (sym b.is)
    (fallen story (fall_by message b.message b.at) drops left s.0 so_far (message_known story b.message orderly m_known).receiver s.1
    (omega (arith, s.2))
    (λ l state same late. (
      refl,
      subst (λ (k : State). k.place < message.sent)
          (sym (same message.sender (sender_apart story left b.message b.at causal b.taken b.broken))) both.1,
      (b.at, b.taken, late),
    )))
