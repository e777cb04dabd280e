-- What is known along every run of a nested tree with slots beside its lists: of each process, of kept turns, and of messages in their slots.
use Rattle.std.proofs.Common.{◌≡◌, ℕ, [], refl}
use Rattle.rb_syntax.specs.Tree.{Tree}
use Rattle.rb_world.specs.Slots.{Slots}
use Rattle.rb_world.specs.Standing.{Each}
use Rattle.rb_world.proofs.Keeping.EachProcess.{each_kept, settled_each}
use Rattle.rb_world.proofs.Relating.Simulation.{Knowing}
use Rattle.rb_world.proofs.Relating.RunsMeet.{KeepsKnown, WithPast, invariant_knows}
use Rattle.rb_world.proofs.Relating.Reread.{ReadsSame}
use Rattle.rb_world.proofs.Slots.UnderSlots.{bare, under_slots}
use Rattle.rb_world.proofs.Slots.SlotsTheorem.{SlotsKept, SlotsKnown, knows_slots, opening_both, reads_same}
use Rattle.rb_meaning.specs.State.{State}
use Rattle.rb_meaning.specs.Step.{Nothing}
use Rattle.rb_meaning.specs.Meaning.{opening_states, tree_kind}
use Rattle.rb_meaning.specs.Nesting.{IsNested}
use Rattle.rb_meaning.specs.Laws.{slot_opening}
use Rattle.rb_meaning.proofs.Knowing.KnownIsKept.{known_kept}
use Rattle.rb_meaning.proofs.Nesting.NestedProgram.{procedures_kept}
use Rattle.rb_meaning.proofs.Trees.TreeErasable.{erasable}
use Rattle.rb_meaning.proofs.Trees.TreeErasure.{each_opening}
use Rattle.rb_meaning.proofs.Trees.TreeSlots.{opens_with_slots}
use Rattle.rb_code.proofs.WholeRuns.PointsLie.{LiesWell, lies_kept, lies_opening}
use Rattle.rb_code.proofs.WholeRuns.TurnsInTime.{AreInTime, in_time_kept, opening_in_time}
use Rattle.rb_code.proofs.WholeRuns.WordsSimulate.{IsKnown, SlotWorld, read_slot, read_slot_then, slotted}

module _ (tree : Tree) (nested : IsNested tree) where
  -- each message that may be asked for lies in its slot
  abbrev pub reading : Knowing State State (Nothing × Slots)
  reading = SlotsKnown (known_kept tree (procedures_kept tree nested)) (erasable tree) (opens_with_slots tree nested)

  abbrev readable : ℕ → SlotWorld → Type 0
  readable = SlotsKept (known_kept tree (procedures_kept tree nested)) (erasable tree) (opens_with_slots tree nested)

  pub reads : ReadsSame (slotted tree) (read_slot tree) (read_slot_then tree) reading
  reads = reads_same (known_kept tree (procedures_kept tree nested)) (erasable tree) (opens_with_slots tree nested)

  reading_along : KeepsKnown (slotted tree) reading readable
  reading_along = knows_slots (known_kept tree (procedures_kept tree nested)) (erasable tree) (opens_with_slots tree nested)

  -- what is known of each process, and that kept turns are before the present one
  abbrev each_known : ℕ → SlotWorld → Type 0
  each_known = WithPast (λ t past w. Each (LiesWell tree) w.processes)

  known_along : KeepsKnown (slotted tree) (λ t p q w. LiesWell tree p q) each_known
  known_along = invariant_knows (under_slots (tree_kind tree) (each_kept (lies_kept tree nested)))
      (λ t past p q w holds may. holds p q may.runs.there)

  abbrev all_in_time : ℕ → SlotWorld → Type 0
  all_in_time = WithPast (λ t past w. AreInTime t (bare w))

  in_time_along : KeepsKnown (slotted tree) (λ t p q w. AreInTime t (bare w)) all_in_time
  in_time_along = invariant_knows (under_slots (tree_kind tree) (in_time_kept tree)) (λ t past p q w holds may. holds)

  -- all of it
  pub record KnownAlong (t : ℕ) (w : SlotWorld) : Type 0 where
    pub each : each_known t w
    pub in_time : all_in_time t w
    pub all_readable : readable t w

  pub along : KeepsKnown (slotted tree) (IsKnown tree reading) KnownAlong
  along = record {
    knows = λ t p w holds q at may. record {
      known = known_along.knows t p w holds.each q at may;
      in_time = in_time_along.knows t p w holds.in_time q at may;
      readable = reading_along.knows t p w holds.all_readable q at may;
    };
    stays = λ t p w holds. record {
      each = known_along.stays t p w holds.each;
      in_time = in_time_along.stays t p w holds.in_time;
      all_readable = reading_along.stays t p w holds.all_readable;
    };
  }

  pub known_first : KnownAlong 1 (slot_opening tree (slotted tree))
  known_first = record {
    each = ([], settled_each (tree_kind tree) (LiesWell tree) (opening_states tree 0 tree.processes) (lies_opening tree nested));
    in_time = (
      [],
      opening_in_time tree (opening_states tree 0 tree.processes)
          (each_opening tree (λ s. s.kept ≡ []) (λ n process. refl) 0 tree.processes),
    );
    all_readable = λ channel ends declared.
        ([], opening_both (known_kept tree (procedures_kept tree nested)) (erasable tree) (opens_with_slots tree nested) channel ends declared);
  }
