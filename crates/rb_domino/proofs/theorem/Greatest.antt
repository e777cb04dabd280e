-- No consistent line is later than what a failure leaves.
use Rattle.std.proofs.Common.{◌≡◌, ◌≢◌, ℕ, ◌+◌, ◌≤◌, ◌<◌, Bool, true, false, nat_lt, ◌⊎◌, inl, inr, List, ◌∷◌, length, refl, sym, subst, arith}
use Rattle.std.proofs.lemmas.Bool.{cases_eq, ltb-false, ltb-true}
use Rattle.rb_domino.specs.declared.line.Line.TheVariants.{Take}
use Rattle.rb_domino.specs.declared.state.State.{State}
use Rattle.rb_domino.specs.declared.state.Fall.{Fall}
use Rattle.rb_domino.specs.declared.analysis.Dropped.{Dropped}
use Rattle.rb_domino.specs.History.{FailsAt, IsTakenAt, IsWhole, Story}
use Rattle.rb_domino.specs.Recovery.{IsOneOf, all_states, fall_by, left_after, left_to, message_at, outcome_of, stands, states_before, states_of}
use Rattle.rb_domino.specs.RecoveryLine.{IsConsistent, IsLine, now_of, state_at}
use Rattle.rb_domino.specs.Board.{IsBetween, NamesKnown}
use Rattle.rb_domino.proofs.FirstFall.{all_at, breaks_both}
use Rattle.rb_domino.proofs.Falling.{list_other, list_same}
use Rattle.rb_domino.proofs.Orderly.{orderly}
use Rattle.rb_domino.proofs.theorem.Descending.{Descend, descend_right, kept_before, one_of_all, up_to_latest}
use Rattle.rb_domino.proofs.theorem.StatesOf.{first_counted, first_left, now_first, states_descend}
use Rattle.rb_domino.proofs.theorem.Causes.{causal, message_known}
use Rattle.rb_domino.proofs.theorem.Falls.{Breaks, failure}
use Rattle.rb_domino.proofs.theorem.Left.{IsLeft}
use Rattle.rb_domino.proofs.theorem.Outcomes.{failed_known, outcome_keeps}

-- each state of a line is still left
abbrev pub IsWithin : Story → List State → List (List State) → Type 0
IsWithin story line left = (p : ℕ) → p < length story.processes → IsOneOf (state_at line p) (left_to left p)

-- a fall that drops no state of a line
within_after : (story : Story) (line : List State) (left : List (List State)) (fall : Fall) → fall.process < length left
    → IsWithin story line left → (state_at line fall.process).place ≤ fall.after → IsWithin story line (left_after fall left)
within_after story line left fall known was low p below = by (cases_eq p fall.process)
  where
    by : (p ≡ fall.process) ⊎ (p ≢ fall.process) → IsOneOf (state_at line p) (left_to (left_after fall left) p)
    by (inl same) =
        subst (λ r. IsOneOf (state_at line p) (left_to (left_after fall left) r)) (sym same)
        (subst (IsOneOf (state_at line p)) (sym (list_same left fall.process (states_before fall.after (left_to left fall.process)) known))
        (kept_before fall.after (state_at line p) (left_to left fall.process)
        (subst (λ r. (state_at line r).place ≤ fall.after) (sym same) low)
        (subst (λ r. IsOneOf (state_at line p) (left_to left r)) same (was p below))))
    by (inr apart) =
        subst (IsOneOf (state_at line p))
        (sym (list_other left fall.process p (states_before fall.after (left_to left fall.process)) apart)) (was p below)

-- all states of a process but `now` stand before its failure
before_now : (story : Story) (p at : ℕ) (s : State) → at + 1 ≡ length story.lines → IsOneOf s (states_of story p)
    → (s ≡ now_of story → ⊥) → s.place ≤ at
before_now story p at s last one other = by first.0 (subst Descend first.1 (states_descend story p)) (subst (IsOneOf s) first.1 one)
  where
    first : (rest : List State) × (states_of story p ≡ now_of story ∷ rest)
    first = now_first story p

    by : (rest : List State) → Descend (now_of story ∷ rest) → IsOneOf s (now_of story ∷ rest) → s.place ≤ at
    by rest down (inl same) = absurd (other same)
    by rest down (inr there) =
        let low : s.place < length story.lines = one_of_all (λ t. t.place < length story.lines) s rest down.0 there in omega arith

within_first : (story : Story) (line : List State) → IsWhole story → IsLine story line → (p at : ℕ) → FailsAt story p at
    → IsWithin story line (left_after (failure p at) (all_states story))
within_first story line whole is_line p at fails =
    let below = failed_known story p at (orderly whole.history) fails in
    within_after story line (all_states story) (failure p at) (omega (arith, below, first_counted story))
    (λ q under. subst (IsOneOf (state_at line q)) (sym (first_left story q under)) (is_line.states q under))
    (before_now story p at (state_at line p) ((causal whole.history).last p at fails) (is_line.states p below) (is_line.failed p at fails))

-- a message that breaks what is left was taken behind the receiver's state of a consistent line
taken_behind : (story : Story) (line : List State) (drops : List Dropped) (left : List (List State)) (m at : ℕ) → IsLeft story drops left
    → IsConsistent story line → IsWithin story line left → IsTakenAt story m at
    → IsBetween (length story.processes) (length story.lines) (message_at story m)
    → (stands left (message_at story m).sender).place < (message_at story m).sent → (state_at line (message_at story m).receiver).place ≤ at
taken_behind story line drops left m at so_far consistent was is between late =
    by (nat_lt at (state_at line (message_at story m).receiver).place) refl
  where
    up_to : (state_at line (message_at story m).sender).place ≤ (stands left (message_at story m).sender).place
    up_to =
        let each = so_far.each (message_at story m).sender between.sender in
        up_to_latest (state_at line (message_at story m).sender) (left_to left (message_at story m).sender)
        (descend_right each.given (left_to left (message_at story m).sender)
        (subst Descend (sym each.whole) (states_descend story (message_at story m).sender)))
        (was (message_at story m).sender between.sender)

    by : (b : Bool) → nat_lt at (state_at line (message_at story m).receiver).place ≡ b → (state_at line (message_at story m).receiver).place ≤ at
    by true over =
        let first : at < (state_at line (message_at story m).receiver).place = ltb-true at (state_at line (message_at story m).receiver).place over in
        absurd (let never : ⊥ = omega (arith, consistent m at is first, up_to, late) in never)
    by false under = ltb-false at (state_at line (message_at story m).receiver).place under

within_more : (story : Story) (line : List State) → IsWhole story → IsConsistent story line
    → (drops : List Dropped) (left : List (List State)) (fall : Fall)
    → Breaks story left fall → IsLeft story drops left → IsWithin story line left → IsWithin story line (left_after fall left)
within_more story line whole consistent drops left fall b so_far was =
    let message = message_at story b.message in
    let orderly_lines = (orderly whole.history).lines in
    let m_known = all_at (NamesKnown (length story.processes) (length story.messages)) story.lines b.at (Take b.message) orderly_lines b.taken in
    let between = message_known story b.message (orderly whole.history) m_known in
    let both = breaks_both left b.at message b.broken in
    subst (λ f. IsWithin story line (left_after f left)) (sym b.is)
    (within_after story line left (fall_by message b.message b.at) (omega (arith, between.receiver, so_far.counted)) was
    (taken_behind story line drops left b.message b.at so_far consistent was b.taken between both.1))

-- a consistent line is within what a failure leaves
pub line_within : (story : Story) (line : List State) → IsWhole story → IsLine story line → IsConsistent story line
    → IsWithin story line (outcome_of story).left
line_within story line whole is_line consistent =
    (outcome_keeps story whole (IsWithin story line) (within_first story line whole is_line) (within_more story line whole consistent)).1
