-- What is known of every world of a run of sound code: it holds at the opening, and each turn keeps it.
use Rattle.std.proofs.Common.{ℕ, ◌+◌, List, ◌∙◌}
use Rattle.rb_world.specs.Kind.{Kind, Membership}
use Rattle.rb_world.specs.Turn.{turn}
use Rattle.rb_world.proofs.Keeping.EachProcess.{KeepsEach}
use Rattle.rb_code.specs.Instructions.Plain.{Code}
use Rattle.rb_code.specs.WordMachine.Turn.{Common, Copy, Standing}
use Rattle.rb_code.specs.SoundCode.WellFormed.{IsSound}
use Rattle.rb_code.specs.WordMachine.WordKind.{word_kind}
use Rattle.rb_code.specs.WordMachine.WordRun.{WordWorld, opening_of}
use Rattle.rb_recovery.specs.Known.{IsKnown, IsPlaced}
use Rattle.rb_machine.proofs.Knowing.Alternates.AlternatesOfCode.{known_fits, word_opening_fits, word_turn_fits}
use Rattle.rb_machine.proofs.Knowing.CountedKept.{counted_turn, opening_counted}
use Rattle.rb_machine.proofs.Linking.LinkedTurns.{linked_turn, opening_linked}
use Rattle.rb_machine.proofs.Knowing.Placed.Kept.{placed_keeps, turn-placed}
use Rattle.rb_machine.proofs.Knowing.Placed.Opening.{opening-placed}
use Rattle.rb_machine.proofs.Knowing.Sizes.{opening-bare, opening-processes, opening-shallow, opening-talks, turn-bare, turn-processes, turn-shallow, turn-talks}

module _ (c : Code) (groups : List Membership) (counts : List ℕ) (sound : IsSound c groups counts) where
  abbrev Words : Kind Standing Copy Common
  Words = word_kind c groups

  keeps : KeepsEach Words (IsPlaced c groups sound.table)
  keeps = placed_keeps c groups sound.table sound.has sound.well.lists

  pub known_opening : IsKnown c groups counts sound.table 1 (opening_of c groups)
  known_opening =
      let fits = word_opening_fits c groups counts sound in
      record {
        processes = opening-processes c groups;
        talks = opening-talks c groups;
        shallow = opening-shallow c groups;
        bare = opening-bare c groups;
        placed = opening-placed c groups sound.table sound.has sound.well.lists;
        counted = opening_counted c groups sound.table sound.has sound.well.lists;
        tried = fits.tried;
        present = fits.present;
        talked = fits.talked;
        linked = opening_linked c groups;
      }

  pub known_turn : (t p : ℕ) (w : WordWorld) → IsKnown c groups counts sound.table t w
      → IsKnown c groups counts sound.table (t + 1) (turn Words t p w).0
  known_turn t p w known =
      let fits = word_turn_fits c groups counts sound keeps t p w known.placed (known_fits c groups counts sound t w known) in
      record {
        processes = turn-processes Words t p w ∙ known.processes;
        talks = turn-talks Words t p w ∙ known.talks;
        shallow = turn-shallow Words t p w known.shallow;
        bare = turn-bare Words t p w known.bare;
        placed = turn-placed c groups sound.table sound.has sound.well.lists t p w known.placed;
        counted = counted_turn c groups sound.table sound.has sound.well.lists (IsPlaced c groups sound.table)
            (λ r q placed. (placed.number, placed.stands)) keeps t p w known.placed known.counted;
        tried = fits.tried;
        present = fits.present;
        talked = fits.talked;
        linked = linked_turn c groups t p w known.linked;
      }
