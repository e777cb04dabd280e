-- How the code of an accepted source stands after turns is how its tree stands.
use Rattle.std.proofs.Common.{◌≡◌, ℕ, ◌+◌, List, [], length, sym, ap, ◌∙◌, map-id}
use Rattle.rb_syntax.specs.Tree.{Tree}
use Rattle.rb_world.specs.Slots.{zero_slots}
use Rattle.rb_world.specs.Text.{Naming}
use Rattle.rb_world.specs.Turn.{Told, opening, run}
use Rattle.rb_world.proofs.Relating.Image.{turn_image, world_image}
use Rattle.rb_world.proofs.Relating.ImageRuns.{image_simulates, meets_image, opening_run-image}
use Rattle.rb_world.proofs.Relating.RunsMeet.{RunsMeet, opening_run_meets}
use Rattle.rb_world.proofs.Slots.SlotsTheorem.{slots_image}
use Rattle.rb_meaning.specs.Groups.{channels_of, groups_of}
use Rattle.rb_meaning.specs.Laws.{run_with_slots, slot_opening}
use Rattle.rb_meaning.specs.Meaning.{TreeWorld, naming_of, opening_states, run_of, tree_kind}
use Rattle.rb_meaning.specs.Nesting.{IsNested}
use Rattle.rb_meaning.specs.State.{State}
use Rattle.rb_meaning.specs.Step.{Nothing}
use Rattle.rb_world.specs.Slots.{Slots}
use Rattle.rb_scope.specs.declared.slot.Slot.{Slot}
use Rattle.rb_judge.proofs.Accepted.{accepted_are_nested, accepted_are_within_limits}
use Rattle.rb_code.specs.Instructions.Plain.{Code}
use Rattle.rb_code.specs.Agreement.StandsFor.{StandsFor}
use Rattle.rb_code.specs.WordMachine.Turn.{Common}
use Rattle.rb_code.specs.WordMachine.WordKind.{word_kind}
use Rattle.rb_code.specs.WordMachine.WordRun.{opening_standings, word_run}
use Rattle.rb_code.proofs.Agreeing.Callees.{has_callees}
use Rattle.rb_code.proofs.Tables.CodeTables.{code_has_table}
use Rattle.rb_code.proofs.Agreeing.StepComes.{steps_come}
use Rattle.rb_code.proofs.WholeRuns.Agreeing.{IsAgreeing, Meeting}
use Rattle.rb_code.proofs.WholeRuns.BothAgree.{Agreed, SameSlots}
use Rattle.rb_code.proofs.WholeRuns.ChannelsOfProcesses.{has_cursors, lists_channels}
use Rattle.rb_code.proofs.WholeRuns.Openings.{all_openings_agree}
use Rattle.rb_code.proofs.WholeRuns.TogetherLaws.{together_agrees}
use Rattle.rb_code.proofs.WholeRuns.UprightByTable.{StandsInTable, table_upright}
use Rattle.rb_code.proofs.WholeRuns.WhatIsKnown.{along, known_first, reading, reads}
use Rattle.rb_code.proofs.WholeRuns.WordsSimulate.{SlotWorld, slotted, words_simulate}
use Rattle.rb_prepare.proofs.Operands.RoomFound.{accepted_find_room}
use Rattle.rb_stuck.specs.Laws.{CodeStandsAsMeant}
use Rattle.rb_stuck.specs.Stuck.{standing_text}
use Rattle.rb_stuck.proofs.Meets.{known_at_end, same_standing_text}

-- slots beside the lists of a tree's run are not seen
without_slots : (tree : Tree) (turns : List ℕ)
    → run_of tree turns ≡ turn_image (λ (s : State). s) (λ (copy : State). copy) (λ (m : Nothing × Slots). m.0) (run_with_slots tree turns)
without_slots tree turns =
    ap (λ (states : List State). run (tree_kind tree) 1 turns (opening (tree_kind tree) states tt))
    (sym (map-id (opening_states tree 0 tree.processes)))
    ∙ opening_run-image (slots_image (tree_kind tree)) turns (opening_states tree 0 tree.processes) (tt, zero_slots (channels_of tree))

module _ (tree : Tree) (slots : List Slot) (c : Code) (meets : Meeting) (laws : IsAgreeing tree c meets) (nested : IsNested tree)
    (stands : StandsFor tree slots c) (turns : List ℕ) (names : Naming) where
  abbrev opening_memory : Common
  opening_memory = record { slots = zero_slots c.channels; links = [] }

  -- the run of the meaning and that of the machine
  both_run : RunsMeet SameSlots (Agreed meets) (run_with_slots tree turns) (word_run c (groups_of tree) turns)
  both_run =
      opening_run_meets (words_simulate tree c meets laws stands.channels_are (reading tree nested) (reads tree nested)) (along tree nested) turns
      (tt, zero_slots (channels_of tree)) opening_memory (opening_states tree 0 tree.processes) (opening_standings 0 c.processes)
      (known_first tree nested) (ap zero_slots (sym stands.channels_are)) (all_openings_agree tree c meets laws slots stands)

  abbrev ends : SlotWorld
  ends = (run_with_slots tree turns).0

  words_as_slots : standing_text (slotted tree) names (length turns + 1) ends
      ≡ standing_text (word_kind c (groups_of tree)) names (length turns + 1) (word_run c (groups_of tree) turns).0
  words_as_slots =
      same_standing_text (words_simulate tree c meets laws stands.channels_are (reading tree nested) (reads tree nested)) names (length turns + 1)
      ends (word_run c (groups_of tree) turns).0
      (λ p. (along tree nested).knows (length turns + 1) p ends
      (known_at_end (along tree nested) 1 turns (slot_opening tree (slotted tree)) (known_first tree nested)))
      both_run.worlds

  slots_as_tree : standing_text (slotted tree) names (length turns + 1) ends
      ≡ standing_text (tree_kind tree) names (length turns + 1) (run_of tree turns).0
  slots_as_tree =
      same_standing_text (image_simulates (slots_image (tree_kind tree))) names (length turns + 1) ends
      (world_image (λ (s : State). s) (λ (copy : State). copy) (λ (m : Nothing × Slots). m.0) ends) (λ p q runs may. tt)
      (meets_image (λ (s : State). s) (λ (copy : State). copy) (λ (m : Nothing × Slots). m.0) ends)
      ∙ ap (λ (end : TreeWorld × List Told). standing_text (tree_kind tree) names (length turns + 1) end.0) (sym (without_slots tree turns))

  pub stands_same : standing_text (word_kind c (groups_of tree)) names (length turns + 1) (word_run c (groups_of tree) turns).0
      ≡ standing_text (tree_kind tree) names (length turns + 1) (run_of tree turns).0
  stands_same = sym words_as_slots ∙ slots_as_tree

pub code_stands : CodeStandsAsMeant
code_stands source tree slots c accepted resolved stands turns =
    let limits = accepted_are_within_limits source tree accepted in
    let nested = accepted_are_nested source tree accepted in
    let tabled = code_has_table c tree slots resolved limits nested (accepted_find_room source tree accepted) stands in
    let lists = lists_channels tree slots c stands nested resolved in
    let cursors = has_cursors tree slots c stands nested resolved in
    let come = steps_come tree slots c cursors stands.edition_is stands.channels_are (has_callees tree slots c stands resolved) in
    ap (λ (names : Naming).
    standing_text (word_kind c (groups_of tree)) names (length turns + 1) (word_run c (groups_of tree) turns).0) stands.names_are
    ∙ stands_same tree slots c _
    (together_agrees tree slots c resolved limits nested stands cursors come (StandsInTable c (groups_of tree) tabled.0 tabled.1 lists)
    (table_upright c (groups_of tree) tabled.0 tabled.1 lists))
    nested stands turns (naming_of tree)
