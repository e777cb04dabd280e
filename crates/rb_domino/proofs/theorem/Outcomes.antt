-- What holds of all that comes of a failure: what its fall brings, and each fall by a message keeps.
use Rattle.std.proofs.Common.{◌≡◌, ℕ, ◌≤◌, ◌<◌, List, length, slice_get, Some, None, ap, ◌∙◌, sym, subst, arith}
use Rattle.rb_domino.specs.declared.line.Line.TheVariants.{Fail, Take}
use Rattle.rb_domino.specs.declared.state.State.{State}
use Rattle.rb_domino.specs.declared.state.Fall.{Fall}
use Rattle.rb_domino.specs.declared.analysis.Dropped.{Dropped}
use Rattle.rb_domino.specs.History.{FailsAt, IsWhole, Story}
use Rattle.rb_domino.specs.Recovery.{Outcome, after_drops, all_states, drops_of, falls, falls_by_messages, first_fall, latest, left_after, left_to, outcome_of, stands, states_before}
use Rattle.rb_domino.specs.Board.{IsOrderly, NamesKnown}
use Rattle.rb_domino.proofs.FirstFall.{all_at}
use Rattle.rb_domino.proofs.Falling.{stands_earlier, stands_fallen}
use Rattle.rb_domino.proofs.Orderly.{orderly}
use Rattle.rb_domino.proofs.theorem.Descending.{before_up_to}
use Rattle.rb_domino.proofs.theorem.StatesOf.{first_counted}
use Rattle.rb_domino.proofs.theorem.Causes.{IsCausal, causal, message_known}
use Rattle.rb_domino.proofs.theorem.Falls.{Breaks, Fails, failing, failure, falls_keep}
use Rattle.rb_domino.proofs.theorem.Left.{IsLeft, failed_left, message_left}
use Rattle.rb_domino.proofs.theorem.Ends.{all_ended}

-- first the failure, then the messages
outcome_is : (story : Story) (f : Fails story) → outcome_of story
    ≡ after_drops (drops_of (failure f.process f.at) (all_states story))
    (falls_by_messages story (length story.lines) (left_after (failure f.process f.at) (all_states story)))
outcome_is story f = ap (λ o. falls (all_states story) o (falls_by_messages story (length story.lines))) f.is

-- who falls is known
pub failed_known : (story : Story) (p at : ℕ) → IsOrderly story → FailsAt story p at → p < length story.processes
failed_known story p at orderly fails =
    all_at (NamesKnown (length story.processes) (length story.messages)) story.lines at (Fail p) orderly.lines fails

-- what the failure's fall brings and each fall by a message keeps
pub outcome_keeps : (story : Story) → IsWhole story → (Q : List (List State) → Type 0)
    → ((p at : ℕ) → FailsAt story p at → Q (left_after (failure p at) (all_states story)))
    → ((drops : List Dropped) (left : List (List State)) (fall : Fall) → Breaks story left fall → IsLeft story drops left
    → Q left → Q (left_after fall left))
    → IsLeft story (outcome_of story).drops (outcome_of story).left × Q (outcome_of story).left
outcome_keeps story whole Q first step =
    let f = failing story whole.fails in
    let fall = failure f.process f.at in
    let known = failed_known story f.process f.at (orderly whole.history) f.fails in
    let end =
    falls_keep story (λ ds l. IsLeft story ds l × Q l)
    (λ ds l next b h. (message_left story (orderly whole.history) (causal whole.history) ds l next b h.0, step ds l next b h.0 h.1))
    (length story.lines) (drops_of fall (all_states story)) (left_after fall (all_states story))
    (failed_left story f.process f.at (causal whole.history) f.fails known, first f.process f.at f.fails) in
    subst (λ (o : Outcome). IsLeft story o.drops o.left × Q o.left) (sym (outcome_is story f)) end

-- no message breaks the line that is left
pub outcome_ended : (story : Story) → IsWhole story → first_fall story (outcome_of story).left ≡ None
outcome_ended story whole =
    let f = failing story whole.fails in
    let fall = failure f.process f.at in
    let known = failed_known story f.process f.at (orderly whole.history) f.fails in
    let start = failed_left story f.process f.at (causal whole.history) f.fails known in
    subst (λ (o : Outcome). first_fall story o.left ≡ None) (sym (outcome_is story f))
    (all_ended story (left_after fall (all_states story)) (orderly whole.history) start.counted)

-- only one process fails
fails_once : (story : Story) (p q at end : ℕ) → IsCausal story → FailsAt story p at → FailsAt story q end → (p ≡ q) × (at ≡ end)
fails_once story p q at end causes one other =
    let same : at ≡ end = omega (arith, causes.last p at one, causes.last q end other) in
    let line : Some (Fail p) ≡ Some (Fail q) = sym one ∙ ap (slice_get story.lines) same ∙ other in
    (cc, same)

-- the process that fails stands no later than its failure
abbrev pub FallsBehind : Story → List (List State) → Type 0
FallsBehind story left = (p at : ℕ) → FailsAt story p at → (stands left p).place ≤ at

behind_first : (story : Story) → IsWhole story → (q end : ℕ) → FailsAt story q end → FallsBehind story (left_after (failure q end) (all_states story))
behind_first story whole q end fails p at also =
    let same = fails_once story p q at end (causal whole.history) also fails in
    let known = failed_known story q end (orderly whole.history) fails in
    let fall = failure q end in
    let mine = left_to (all_states story) q in
    let here : stands (left_after fall (all_states story)) q ≡ latest (states_before end mine) =
    stands_fallen (all_states story) q (states_before end mine) (omega (arith, known, first_counted story)) in
    let low : (stands (left_after fall (all_states story)) q).place ≤ end =
    subst (λ (s : State). s.place ≤ end) (sym here) (before_up_to end mine) in
    let at_p : (stands (left_after fall (all_states story)) p).place ≤ end =
    subst (λ r. (stands (left_after fall (all_states story)) r).place ≤ end) (sym same.0) low in
    omega (arith, at_p, same.1)

falls_known : (story : Story) (left : List (List State)) (fall : Fall) → IsOrderly story → Breaks story left fall
    → fall.process < length story.processes
falls_known story left fall orderly b =
    let m_known = all_at (NamesKnown (length story.processes) (length story.messages)) story.lines b.at (Take b.message) orderly.lines b.taken in
    subst (λ (f : Fall). f.process < length story.processes) (sym b.is) (message_known story b.message orderly m_known).receiver

behind_more : (story : Story) → IsWhole story → (drops : List Dropped) (left : List (List State)) (fall : Fall) → Breaks story left fall
    → IsLeft story drops left → FallsBehind story left → FallsBehind story (left_after fall left)
behind_more story whole drops left fall b so_far was p at fails =
    let known : fall.process < length left = omega (arith, falls_known story left fall (orderly whole.history) b, so_far.counted) in
    omega (arith, stands_earlier left fall.process fall.after p known, was p at fails)

-- what comes of a failure
pub outcome_behind : (story : Story) → IsWhole story
    → IsLeft story (outcome_of story).drops (outcome_of story).left × FallsBehind story (outcome_of story).left
outcome_behind story whole = outcome_keeps story whole (FallsBehind story) (behind_first story whole) (behind_more story whole)
