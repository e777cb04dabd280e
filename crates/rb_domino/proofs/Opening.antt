-- The board before anything is given up.
use Rattle.std.proofs.Common.{◌≡◌, ℕ, zero, suc, ◌+◌, ◌≤◌, ◌<◌, true, cond, inl, inr, List, [], ◌∷◌, length, map, Vec, refl, ap, ◌∙◌, sym, subst, arith}
use Rattle.std.specs.List.{AllByRecursion, list_any}
use Rattle.std.specs.Ordering.{nat_cmp}
use Rattle.std.specs.BTreeMap.{is_at}
use Rattle.std.specs.BTreeSet.{BTreeSet}
use Rattle.std.proofs.lemmas.Option.{slice_get-get_or}
use Rattle.std.proofs.lemmas.List.{length-map}
use Rattle.rb_sched.specs.Schedule.{numbers_from}
use Rattle.rb_sched.proofs.TurnsLeft.{length-numbers_from}
use Rattle.rb_domino.specs.declared.analysis.TheConstants.{NOW}
use Rattle.rb_domino.specs.declared.line.Line.{Line}
use Rattle.rb_domino.specs.declared.line.Line.TheVariants.{Take}
use Rattle.rb_domino.specs.declared.state.State.{State}
use Rattle.rb_domino.specs.History.{IsTakenAt, Story}
use Rattle.rb_domino.specs.Recovery.{IsOneOf, all_states, is_point_of, latest, message_at, no_message, stands, states_from, states_of}
use Rattle.rb_domino.specs.Board.{AreSends, AreSplit, IsBetween, IsOrderly, NamesKnown, is_in, list_at, stack, stacks}
use Rattle.rb_domino.proofs.FirstFall.{all_at}

-- each process stands at `now`
latest_from : (p at : ℕ) (points : List State) (lines : List Line)
    → latest (states_from p at points lines) ≡ record { number = NOW; place = at + length lines }
latest_from p at points [] = let e : at ≡ at + 0 = omega arith in ap (λ n. record { number = NOW; place = n }) e
latest_from p at points (line ∷ lines) =
    let e : at + 1 + length lines ≡ at + length (line ∷ lines) = omega arith in
    latest_from p (at + 1) (cond (is_point_of p line) (record { number = length points; place = at } ∷ points) points) lines
    ∙ ap (λ n. record { number = NOW; place = n }) e

pub at_numbers : {X : Type 0} (f : ℕ → List X) (k n p : ℕ) → p < n → list_at (map f (numbers_from k n)) p ≡ f (k + p)
at_numbers f k zero p below = absurd (let never : ⊥ = omega arith in never)
at_numbers f k (suc n) zero below = let e : k ≡ k + 0 = omega arith in ap f e
at_numbers f k (suc n) (suc p) below = let e : k + 1 + p ≡ k + suc p = omega arith in at_numbers f (k + 1) n p (omega arith) ∙ ap f e

pub all_states_at : (story : Story) (p : ℕ) → p < length story.processes → list_at (all_states story) p ≡ states_of story p
all_states_at story p below = let e : 0 + p ≡ p = omega arith in at_numbers (states_of story) 0 (length story.processes) p below
    ∙ ap (states_of story) e

pub stands_now : (story : Story) (p : ℕ) → p < length story.processes
    → stands (all_states story) p ≡ record { number = NOW; place = length story.lines }
stands_now story p below =
    let e : 0 + length story.lines ≡ length story.lines = omega arith in
    ap latest (all_states_at story p below) ∙ latest_from p 0 [] story.lines ∙ ap (λ n. record { number = NOW; place = n }) e

-- what is known of a message
pub message_between : (story : Story) (m : ℕ) → IsOrderly story → m < length story.messages
    → IsBetween (length story.processes) (length story.lines) (message_at story m)
message_between story m orderly below =
    all_at (IsBetween (length story.processes) (length story.lines)) story.messages m (message_at story m) orderly.messages
    (slice_get-get_or story.messages m no_message below)

pub message_known : (story : Story) (m taken : ℕ) → IsOrderly story → IsTakenAt story m taken → m < length story.messages
message_known story m taken orderly is =
    all_at (NamesKnown (length story.processes) (length story.messages)) story.lines taken (Take m) orderly.lines is

-- what holds of each on a list holds of all
all_from : (P : ℕ → Type 0) (ms : List ℕ) → ((m : ℕ) → IsOneOf m ms → P m) → AllByRecursion P ms
all_from P [] each = tt
all_from P (m ∷ ms) each = (each m (inl refl), all_from P ms (λ n among. each n (inr among)))

-- all messages lie on the lists of their senders, and none is pending
pub split_opening : (story : Story) (sends : List (List ℕ)) (pending : BTreeSet ℕ) → IsOrderly story → AreSends story (length story.messages) sends
    → pending.keys ≡ [] → AreSplit story (all_states story) sends (is_in pending)
split_opening story sends pending orderly are none = record {
  falling = are.falling;
  known = λ p. all_from (λ m. m < length story.messages) (list_at sends p) (λ m among. are.below p m among);
  own = are.own;
  before = λ p. all_from (λ m. (message_at story m).sent ≤ (stands (all_states story) p).place) (list_at sends p) (early p);
  covers = λ m taken is. inl (are.all m (message_known story m taken orderly is));
  sound = λ taken h. absurd (let never : list_any (is_at (nat_cmp taken)) [] ≡ true = ap (list_any (is_at (nat_cmp taken))) (sym none) ∙ h in cc);
}
  where
    early : (p m : ℕ) → IsOneOf m (list_at sends p) → (message_at story m).sent ≤ (stands (all_states story) p).place
    early p m among =
        let between = message_between story m orderly (are.below p m among) in
        let mine : (message_at story m).sender ≡ p = are.own p m among in
        let known : p < length story.processes = subst (λ q. q < length story.processes) mine between.sender in
        let place : (stands (all_states story) p).place ≡ length story.lines = ap (λ (s : State). s.place) (stands_now story p known) in
        let sent : (message_at story m).sent < length story.lines = between.sent in
        omega arith

-- a list of states for each process
pub counted_states : (story : Story) (left : List (List State)) → left ≡ all_states story → length left ≡ length story.processes
counted_states story left is =
    ap length is ∙ length-map (numbers_from 0 (length story.processes)) (states_of story) ∙ length-numbers_from 0 (length story.processes)

pub counted_stacks : {X A : Type 0} (vectors : List (Vec X A)) (n : ℕ) → length (stacks vectors) ≡ n → length vectors ≡ n
counted_stacks vectors n e = sym (length-map vectors (λ v. stack v.items)) ∙ e
