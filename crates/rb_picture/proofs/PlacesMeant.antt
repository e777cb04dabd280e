-- Before each turn the place that code tells is that of the statement which the meaning carries out.
use Rattle.std.proofs.Common.{◌≡◌, ℕ, Bool, true, false, cond, List, [], ◌∷◌, option_map, slice_get, Option, Some, None, refl, sym, ap, ◌∙◌, subst}
use Rattle.rb_syntax.specs.Tree.{RecoveryBlock, Recovers, Tree}
use Rattle.rb_world.specs.Kind.{Facts}
use Rattle.rb_world.specs.World.{Level, Process, ProcessStatus, Running, Finished, FailedWith, last_of}
use Rattle.rb_world.proofs.ListFacts.{heads_same}
use Rattle.rb_world.proofs.Relating.MarksMeet.{SameMark, SameMarks}
use Rattle.rb_world.proofs.Relating.Simulation.{copies_of}
use Rattle.rb_meaning.specs.Groups.{facts_of}
use Rattle.rb_meaning.specs.State.{Item, Perform, StartOf, TestOf, EndBlock, EndCall, State}
use Rattle.rb_meaning.proofs.Knowing.KnownOfProcess.{Known}
use Rattle.rb_meaning.proofs.Nesting.RecoveryPoints.{ArePoints, IsPoint, facts_left}
use Rattle.rb_scope.specs.Frames.{Shape}
use Rattle.rb_scope.specs.declared.slot.Slot.{Slot}
use Rattle.rb_code.specs.Instructions.Plain.{Block, Code}
use Rattle.rb_code.specs.Agreement.Forms.{Owner}
use Rattle.rb_code.specs.Agreement.Places.{block_place, places_told, processes_turns}
use Rattle.rb_code.specs.WordMachine.Turn.{Copy, Standing}
use Rattle.rb_code.specs.WordMachine.Workspace.{OpenCall}
use Rattle.rb_code.proofs.Agreeing.Settles.{command_turn, start_turn, test_turn}
use Rattle.rb_code.proofs.Agreeing.TextLeft.{IsSettled, Left, StartCode, owner_of}
use Rattle.rb_code.proofs.InWords.LaidOut.{stacks_of}
use Rattle.rb_code.proofs.Placing.TurnsCounted.{none_told}
use Rattle.rb_code.proofs.WholeRuns.Pairs.{Pairs}
use Rattle.rb_code.proofs.WholeRuns.StandTogether.{CopyTogether, StandTogether, Uprightness}
use Rattle.rb_picture.specs.Meant.{first_place, line_place, place_meant}
use Rattle.rb_picture.specs.Trace.{address_told, place_at, test_of}

module _ (tree : Tree) (slots : List Slot) (c : Code) where
  -- what is left of a text begins where its place is told
  left_told : (p : ℕ) (stacks : List (List Shape)) (items : List Item) (calls : List OpenCall) (a : ℕ) → Left tree slots c p stacks items calls a
      → IsSettled items → place_at (places_told tree c.instrs) (Some a) ≡ first_place items
  left_told p stacks [] calls a left settled = none_told 0 (processes_turns tree.processes) c.instrs a _ left.0 refl
  left_told p stacks (Perform command ∷ rest) calls a (b, code, inside, left) settled =
      (command_turn tree slots (owner_of tree p) c command a b code).1
  left_told p stacks (StartOf block ∷ rest) calls a (b, code, inside, left) settled = (start_turn tree slots (owner_of tree p) c block a b code).1
  left_told p stacks (TestOf block ∷ rest) calls a (b, code, inside, left) settled = (test_turn tree slots (owner_of tree p) c block a b code).1
  left_told p stacks (EndBlock ∷ rest) calls a left settled = absurd settled
  left_told p stacks (EndCall ∷ rest) calls a left settled = absurd settled

  -- the place of a recovery block is told at its acceptance test, by its number
  test_told : (owner : Owner) (block : RecoveryBlock) (a b n : ℕ) → StartCode tree slots owner block c a b → (facts_of tree block).number ≡ n
      → place_at (places_told tree c.instrs) (option_map (λ (one : Block). one.test) (slice_get c.blocks n)) ≡ Some (block_place block)
  test_told owner (Recovers number conversation place test bound alternates) a b n
      (blk, there, (d, tells, (e, at_restart, (f, turn1, (g, start, (h, code, (i, at_test, (j, turn2, more)))))))) same =
      let at : blk.test ≡ i = sym (at_test.1 ∙ at_test.0) in
      ap (λ (k : ℕ). place_at (places_told tree c.instrs) (option_map (λ (one : Block). one.test) (slice_get c.blocks k))) (sym same)
      ∙ ap (λ (o : Option Block). place_at (places_told tree c.instrs) (option_map (λ (one : Block). one.test) o)) there
      ∙ ap (λ (k : ℕ). place_at (places_told tree c.instrs) (Some k)) at
      ∙ turn2.2

  module _ (p r : ℕ) where
    -- of one recovery point, in which the start of its level's block stands first
    point_told : (outer : List Facts) (l : Level State) (m : Level Copy) → SameMark l m → CopyTogether tree slots c r l.copy m.copy
        → IsPoint tree p (l.facts ∷ outer) l.copy
        → place_at (places_told tree c.instrs) (test_of c (Some m)) ≡ line_place (Some l)
    point_told outer l m marks copy point =
        let block = point.first.block in
        let left =
        subst (λ (items : List Item). Left tree slots c r (stacks_of l.copy.environment.calls) items m.copy.calls m.copy.at) point.first.is
        copy.meets.left in
        let facts : facts_of tree block ≡ l.facts = heads_same (ap (facts_left tree) (sym point.first.is) ∙ point.left) in
        test_told (owner_of tree r) block m.copy.at left.0 m.facts.number left.1 (ap (λ (one : Facts). one.number) (facts ∙ marks.facts))
        ∙ sym (ap first_place point.first.is)

    -- of the innermost
    line_told : (outer : List Facts) (ls : List (Level State)) (ms : List (Level Copy)) → SameMarks ls ms
        → Pairs (CopyTogether tree slots c r) (copies_of ls) (copies_of ms) → ArePoints tree p outer ls
        → place_at (places_told tree c.instrs) (test_of c (last_of ms)) ≡ line_place (last_of ls)
    line_told outer [] [] marks copies points = refl
    line_told outer [] (m ∷ ms) marks copies points = absurd marks
    line_told outer (l ∷ ls) [] marks copies points = absurd marks
    line_told outer (l ∷ []) (m ∷ []) marks copies points = point_told outer l m marks.0 copies.0 points.0
    line_told outer (l ∷ []) (m ∷ m' ∷ ms) marks copies points = absurd marks.1
    line_told outer (l ∷ l' ∷ ls) (m ∷ []) marks copies points = absurd marks.1
    line_told outer (l ∷ l' ∷ ls) (m ∷ m' ∷ ms) marks copies points =
        line_told (l.facts ∷ outer) (l' ∷ ls) (m' ∷ ms) marks.1 copies.1 points.1

  -- of a process, where it stands together with that of the machine
  module _ (upright : Uprightness) (p : ℕ) (q : Process State State) (u : Process Standing Copy) (known : Known tree p q)
      (marks : SameMarks q.levels u.levels)
      (both : StandTogether tree slots c upright q.at_line (copies_of q.levels) q.state (copies_of u.levels) u.state) where
    running_told : (line : Bool) → q.at_line ≡ line
        → place_at (places_told tree c.instrs) (cond line (test_of c (last_of u.levels)) (Some u.state.at))
        ≡ cond line (line_place (last_of q.levels)) (first_place q.state.items)
    running_told true e = line_told p u.state.process [] q.levels u.levels marks both.copies known.points
    running_told false e =
        left_told u.state.process (stacks_of q.state.environment.calls) q.state.items u.state.calls u.state.at both.meets.left (both.settled e)

    status_told : (status : ProcessStatus) → place_at (places_told tree c.instrs) (address_told c status (record u { at_line = q.at_line })) ≡ place_meant status q
    status_told Running = running_told q.at_line refl
    status_told Finished = refl
    status_told (FailedWith cause) = refl

    pub process_told : q.at_line ≡ u.at_line → q.status ≡ u.status
        → place_at (places_told tree c.instrs) (address_told c u.status u) ≡ place_meant q.status q
    process_told lines statuses =
        ap (λ (status : ProcessStatus). place_at (places_told tree c.instrs) (address_told c status u)) (sym statuses)
        ∙ ap (λ (line : Bool). place_at (places_told tree c.instrs) (address_told c q.status (record u { at_line = line }))) (sym lines)
        ∙ status_told q.status
