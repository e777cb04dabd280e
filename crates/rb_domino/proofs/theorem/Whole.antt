-- What a failure leaves is the greatest consistent line, and what was given up for it is its certificate.
use Rattle.std.proofs.Common.{◌≡◌, ℕ, zero, suc, ◌≤◌, ◌<◌, Bool, true, false, nat_lt, List, [], ◌∷◌, ◌++◌, length, map, None, refl, ap, ◌∙◌, sym, subst, arith, ext_get_or}
use Rattle.std.proofs.lemmas.Bool.{ltb-false, ltb-true}
use Rattle.std.proofs.lemmas.List.{get_or_past, length-map}
use Rattle.rb_domino.specs.declared.state.State.{State}
use Rattle.rb_domino.specs.declared.analysis.Dropped.{Dropped}
use Rattle.rb_domino.specs.History.{IsTakenAt, IsWhole, Story}
use Rattle.rb_domino.specs.Recovery.{IsOneOf, first_fall, latest, left_to, message_at, outcome_of, stands, states_after, states_of}
use Rattle.rb_domino.specs.RecoveryLine.{IsConsistent, IsGreatest, IsLine, IsRecovered, dropped_by, numbers, recovery_line, state_at}
use Rattle.rb_domino.proofs.FirstFall.{breaks_from}
use Rattle.rb_domino.proofs.theorem.Descending.{Descend, descend_right, given_after, latest_one, one_of_right, same_place, up_to_latest}
use Rattle.rb_domino.proofs.theorem.StatesOf.{states_descend}
use Rattle.rb_domino.proofs.theorem.Causes.{causal}
use Rattle.rb_domino.proofs.theorem.Falls.{unbroken}
use Rattle.rb_domino.proofs.theorem.Left.{IsGivenUp, IsLeft}
use Rattle.rb_domino.proofs.theorem.Outcomes.{FallsBehind, outcome_behind, outcome_ended}
use Rattle.rb_domino.proofs.theorem.Greatest.{line_within}

-- on the line each process is where it stands
line_at : (left : List (List State)) (p : ℕ) → state_at (map latest left) p ≡ stands left p
line_at [] p = refl
line_at (states ∷ left) zero = refl
line_at (states ∷ left) (suc p) = line_at left p

-- which is one of its states
stands_one : (story : Story) (drops : List Dropped) (left : List (List State)) (p : ℕ) → IsGivenUp story drops left p
    → IsOneOf (stands left p) (states_of story p)
stands_one story drops left p g =
    subst (IsOneOf (stands left p)) g.whole (one_of_right (stands left p) g.given (left_to left p) (latest_one (left_to left p) g.some))

line_is : (story : Story) (drops : List Dropped) (left : List (List State)) → IsWhole story → IsLeft story drops left → FallsBehind story left
    → IsLine story (map latest left)
line_is story drops left whole so_far behind = record {
  counted = length-map left latest ∙ so_far.counted;
  states = λ p below.
      subst (λ (s : State). IsOneOf s (states_of story p)) (sym (line_at left p)) (stands_one story drops left p (so_far.each p below));
  failed = λ p at fails is_now.
      let end : (stands left p).place ≡ length story.lines = ap (λ (s : State). s.place) (sym (line_at left p) ∙ is_now) in
      let never : ⊥ = omega (arith, end, behind p at fails, (causal whole.history).last p at fails) in never;
}

line_consistent : (story : Story) (left : List (List State))
    → ((m at : ℕ) → IsTakenAt story m at → at < (stands left (message_at story m).receiver).place
    → (message_at story m).sent ≤ (stands left (message_at story m).sender).place)
    → IsConsistent story (map latest left)
line_consistent story left h m at is first =
    subst (λ (s : State). (message_at story m).sent ≤ s.place) (sym (line_at left (message_at story m).sender))
    (h m at is (subst (λ (s : State). at < s.place) (line_at left (message_at story m).receiver) first))

-- where no message breaks the line it is consistent
sent_before : (story : Story) (left : List (List State)) (m at : ℕ) → IsTakenAt story m at → first_fall story left ≡ None
    → at < (stands left (message_at story m).receiver).place → (message_at story m).sent ≤ (stands left (message_at story m).sender).place
sent_before story left m at is none first =
    by (nat_lt (stands left (message_at story m).sender).place (message_at story m).sent) refl
  where
    by : (b : Bool) → nat_lt (stands left (message_at story m).sender).place (message_at story m).sent ≡ b
        → (message_at story m).sent ≤ (stands left (message_at story m).sender).place
    by true late =
        let behind : (stands left (message_at story m).sender).place < (message_at story m).sent = ltb-true _ _ late in
        let broken = breaks_from left at (message_at story m) first behind in
        let whole = unbroken story left none m at is in
        absurd (cc)
    by false early = ltb-false _ _ early

-- what is later than the latest of the others was given up
given_latest : (given states : List State) → Descend (given ++ states) → 0 < length states
    → states_after (latest states).place (given ++ states) ≡ given
given_latest given [] down some = absurd (let never : ⊥ = omega arith in never)
given_latest given (s ∷ states) down some = given_after given s states down

dropped_once : (story : Story) (drops : List Dropped) (left : List (List State)) (p : ℕ) → IsGivenUp story drops left p
    → dropped_by p drops ≡ numbers (states_after (state_at (map latest left) p).place (states_of story p))
dropped_once story drops left p g =
    let down = subst Descend (sym g.whole) (states_descend story p) in
    let all : states_after (stands left p).place (states_of story p) ≡ g.given =
    ap (states_after (stands left p).place) (sym g.whole) ∙ given_latest g.given (left_to left p) down g.some in
    g.made ∙ ap numbers (sym all ∙ ap (λ (s : State). states_after s.place (states_of story p)) (sym (line_at left p)))

-- no consistent line is later
line_greatest : (story : Story) (drops : List Dropped) (left : List (List State)) → IsLeft story drops left
    → ((other : List State) → IsLine story other → IsConsistent story other
    → (p : ℕ) → p < length story.processes → IsOneOf (state_at other p) (left_to left p))
    → IsGreatest story (map latest left)
line_greatest story drops left so_far within other is_line consistent p = by (nat_lt p (length story.processes)) refl
  where
    by : (b : Bool) → nat_lt p (length story.processes) ≡ b → (state_at other p).place ≤ (state_at (map latest left) p).place
    by true known =
        let below : p < length story.processes = ltb-true p (length story.processes) known in
        let g = so_far.each p below in
        let down = descend_right g.given (left_to left p) (subst Descend (sym g.whole) (states_descend story p)) in
        subst (λ (s : State). (state_at other p).place ≤ s.place) (sym (line_at left p))
        (up_to_latest (state_at other p) (left_to left p) down (within other is_line consistent p below))
    by false unknown =
        let past : length story.processes ≤ p = ltb-false p (length story.processes) unknown in
        let none : state_at other p ≡ record { number = 0; place = 0 } = get_or_past other p _ (omega (arith, past, is_line.counted)) in
        omega (arith, ap (λ (s : State). s.place) none)

-- the line that is left is the greatest consistent one, and the drops are its certificate
pub recovered : (story : Story) → IsWhole story → IsRecovered story (outcome_of story).drops (recovery_line story)
recovered story whole =
    let both = outcome_behind story whole in
    let drops = (outcome_of story).drops in
    let left = (outcome_of story).left in
    record {
      is_line = line_is story drops left whole both.0 both.1;
      consistent = line_consistent story left (λ m at is. sent_before story left m at is (outcome_ended story whole));
      greatest = line_greatest story drops left both.0 (λ other is_line consistent. line_within story other whole is_line consistent);
      each_once = λ p below. dropped_once story drops left p (both.0.each p below);
      forced = both.0.forced;
    }

-- only one line is the greatest
pub greatest_is_one : (story : Story) (line : List State) → IsWhole story → IsLine story line → IsConsistent story line → IsGreatest story line
    → line ≡ recovery_line story
greatest_is_one story line whole is_line consistent greatest =
    let r = recovered story whole in
    ext_get_or (record { number = 0; place = 0 }) line (recovery_line story) (is_line.counted ∙ sym r.is_line.counted) (λ p below.
    let known : p < length story.processes = omega (arith, below, is_line.counted) in
    let low : (state_at line p).place ≤ (state_at (recovery_line story) p).place = r.greatest line is_line consistent p in
    let high : (state_at (recovery_line story) p).place ≤ (state_at line p).place = greatest (recovery_line story) r.is_line r.consistent p in
    same_place (state_at line p) (state_at (recovery_line story) p) (states_of story p) (states_descend story p)
    (is_line.states p known) (r.is_line.states p known) (omega (arith, low, high)))
