-- A start that goes on has an alternate of its level's block, and who enters a conversation that lies in no other has no level.
-- Both are said of a process that stands at no test line, since there what stands first lies outside the innermost level; and
-- the first of one that runs, since one that failed has no level, whatever is left of its text.
use Rattle.std.proofs.Common.{◌≡◌, ◌≤◌, ℕ, ℤ, zero, suc, Bool, true, false, List, [], ◌∷◌, slice_get, Option, Some, None, refl, sym, ap, ◌∙◌, subst, arith, true≢false}
use Rattle.rb_syntax.specs.Tree.{Command, Assignment, Printing, Sending, Receiving, Conditional, Loop, Invocation, Failure, Recovering, Body, Otherwise, NoElse, Else, RecoveryBlock, Recovers, Alternates, NoAlternate, Alternate, Tree}
use Rattle.rb_world.specs.Kind.{Facts, Starts, Enters, Went}
use Rattle.rb_world.specs.World.{Level, ProcessStatus, Running, Process, last_of}
use Rattle.rb_world.specs.Reject.{parent_of}
use Rattle.rb_world.specs.Plain.{alternates_of}
use Rattle.rb_world.specs.Standing.{is_failed}
use Rattle.rb_world.proofs.ListFacts.{heads_same, none_some}
use Rattle.rb_meaning.specs.Environment.{Environment}
use Rattle.rb_meaning.specs.State.{Item, Perform, StartOf, TestOf, EndBlock, EndCall, State}
use Rattle.rb_meaning.specs.Groups.{channel_number, count_alternates, facts_of, groups_of}
use Rattle.rb_meaning.specs.Step.{alternate_number, alternates_in, goes, starts_body, step, step_items, wants, wants_first, wants_receipt}
use Rattle.rb_meaning.specs.Laws.{with_test}
use Rattle.rb_meaning.proofs.Nesting.RulesLeft.{AreClear}
use Rattle.rb_meaning.proofs.InsideOut.{onto, onto-some}
use Rattle.rb_meaning.proofs.Nesting.RecoveryPoints.{StartsFirst, facts_in, facts_left}
use Rattle.rb_meaning.proofs.Knowing.KnownOfProcess.{Known, RunsInside}
use Rattle.rb_meaning.proofs.Knowing.KnownFacts.{entered_block, left_away}
use Rattle.rb_meaning.proofs.Nesting.JoinsWell.{BeginWith, around_join, joins_well}

-- the start that stands first
receipt_starts : (d : ℕ) (otherwise : Otherwise) → wants_receipt d otherwise ≡ Starts → ⊥
receipt_starts d NoElse e = cc
receipt_starts d (Else body) e = cc

command_starts : (tree : Tree) (command : Command) → wants tree command ≡ Starts → ⊥
command_starts tree (Assignment to e) w = cc
command_starts tree (Printing items) w = cc
command_starts tree (Sending channel e) w = cc
command_starts tree (Receiving channel to otherwise) w = receipt_starts (channel_number tree channel.text) otherwise w
command_starts tree (Conditional test body otherwise) w = cc
command_starts tree (Loop test body) w = cc
command_starts tree (Invocation procedure arguments) w = cc
command_starts tree Failure w = cc
command_starts tree (Recovering block) w = cc

start_first : (tree : Tree) (items : List Item) → wants_first tree items ≡ Starts → StartsFirst items
start_first tree [] w = absurd cc
start_first tree (Perform command ∷ rest) w = absurd (command_starts tree command w)
start_first tree (StartOf block ∷ rest) w = record { block = block; rest = rest; is = refl }
start_first tree (TestOf block ∷ rest) w = absurd cc
start_first tree (EndBlock ∷ rest) w = absurd cc
start_first tree (EndCall ∷ rest) w = absurd cc

-- an alternate that a block has
alternate_there : (n : ℕ) (alternates : Alternates) (body : Body) → alternate_number n alternates ≡ Some body
    → (1 ≤ n) × (n ≤ count_alternates alternates)
alternate_there n NoAlternate body e = absurd (none_some e)
alternate_there zero (Alternate first others) body e = absurd (none_some e)
alternate_there (suc zero) (Alternate first others) body e = (omega arith, omega arith)
alternate_there (suc (suc n)) (Alternate first others) body e =
    let rest = alternate_there (suc n) others body e in
    (omega arith, omega (arith, rest.1))

block_there : (tree : Tree) (n : ℕ) (block : RecoveryBlock) (body : Body) → alternate_number n (alternates_in block) ≡ Some body
    → (1 ≤ n) × (n ≤ (facts_of tree block).alternates)
block_there tree n (Recovers number conversation place test bound alternates) body e = alternate_there n alternates body e

-- a start that went on found its alternate
start_there : (tree : Tree) (n : ℕ) (block : RecoveryBlock) (rest : List Item) (s t : State) (chosen : Option Body)
    → chosen ≡ alternate_number n (alternates_in block)
    → goes (starts_body tree.edition block rest s chosen) ≡ Went t tt → (1 ≤ n) × (n ≤ (facts_of tree block).alternates)
start_there tree n block rest s t None e went = absurd cc
start_there tree n block rest s t (Some body) e went = block_there tree n block body (sym e)

-- the innermost level, by the facts of what is left
last_facts : (outer : List Facts) (level : Level State) (levels : List (Level State)) (first : Facts) (facts : List Facts)
    → first ∷ facts ≡ onto outer (facts_in (level ∷ levels)) → alternates_of (last_of (level ∷ levels)) ≡ first.alternates
last_facts outer level [] first facts e = ap (λ (f : Facts). f.alternates) (sym (heads_same e))
last_facts outer level (l ∷ levels) first facts e = last_facts (level.facts ∷ outer) l levels first facts e

innermost_facts : (levels : List (Level State)) (first : Facts) (facts : List Facts) → first ∷ facts ≡ onto [] (facts_in levels)
    → alternates_of (last_of levels) ≡ first.alternates
innermost_facts [] first facts e = absurd cc
innermost_facts (level ∷ levels) first facts e = last_facts [] level levels first facts e

no_levels : (levels : List (Level State)) → [] ≡ onto [] (facts_in levels) → levels ≡ []
no_levels [] e = refl
no_levels (level ∷ levels) e = absurd (onto-some level.facts [] (facts_in levels) e)

-- who has failed has no level
failed_bare : (levels : List (Level State)) (status : ProcessStatus) → RunsInside levels status → is_failed status ≡ true → levels ≡ []
failed_bare [] status inside failed = refl
failed_bare (level ∷ levels) status inside failed = absurd (true≢false (sym failed ∙ ap is_failed inside))

module _ (tree : Tree) (p : ℕ) (q : Process State State) (known : Known tree p q) (away : q.at_line ≡ false) where
  -- the alternate that it starts is one of its level's block
  pub starts_there : (alternate : ℕ) (prior : Option Environment) (message : Option ℤ) (s : State) → q.status ≡ Running
      → wants_first tree q.state.items ≡ Starts
      → step tree alternate prior q.state message ≡ Went s tt → (1 ≤ alternate) × (alternate ≤ alternates_of (last_of q.levels))
  starts_there alternate prior message s running w went =
      let first = start_first tree q.state.items w in
      let chosen = alternate_number alternate (alternates_in first.block) in
      let left : facts_of tree first.block ∷ facts_left tree first.rest ≡ onto [] (facts_in q.levels) =
      ap (facts_left tree) (sym first.is) ∙ left_away tree p q known running away in
      subst (λ (n : ℕ). (1 ≤ alternate) × (alternate ≤ n))
      (sym (innermost_facts q.levels (facts_of tree first.block) (facts_left tree first.rest) left))
      (start_there tree alternate first.block first.rest q.state s chosen refl
      (ap (step_items tree alternate prior q.state message) (sym first.is) ∙ went))

  -- no block is left around the entry of a conversation that lies in no other
  none_around : (facts : Facts) (c : ℕ) → wants_first tree q.state.items ≡ Enters facts → facts.conversation ≡ Some c
      → parent_of (slice_get (groups_of tree) c) ≡ None → facts_left tree q.state.items ≡ []
  none_around facts c w of_c alone =
      let entry = entered_block tree q.state.items facts w in
      let clear = subst (λ (items : List Item). AreClear tree p items) entry.is known.own.clear in
      let well = joins_well tree p c entry.rest entry.block clear.0 (ap (λ (f : Facts). f.conversation) entry.facts_are ∙ of_c) in
      ap (facts_left tree) entry.is
      ∙ subst (λ (parent : Option ℕ). BeginWith parent (facts_left tree entry.rest)) alone (around_join tree p c entry.rest well)

  bare_if : (failed : Bool) → is_failed q.status ≡ failed → facts_left tree q.state.items ≡ [] → q.levels ≡ []
  bare_if true e none = failed_bare q.levels q.status known.inside e
  bare_if false e none =
      no_levels q.levels (sym none ∙ known.left e ∙ ap (λ line. onto [] (with_test line (facts_in q.levels))) away)

  -- who enters such a conversation has no level
  pub outermost_alone : (facts : Facts) (c : ℕ) → wants_first tree q.state.items ≡ Enters facts → facts.conversation ≡ Some c
      → parent_of (slice_get (groups_of tree) c) ≡ None → q.levels ≡ []
  outermost_alone facts c w of_c alone = bare_if (is_failed q.status) refl (none_around facts c w of_c alone)
