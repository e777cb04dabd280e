-- The run of the word machine agrees with the run of the meaning, over every list of turns, where processes agree within a turn.
use Rattle.std.proofs.Common.{◌≡◌, ◌≤◌, ◌<◌, ℕ, List, [], ◌∷◌, ◌++◌, length, map, slice_get, Some, refl, sym, ap, ap₂, ◌∙◌, map-id}
use Rattle.rb_syntax.specs.Tree.{Tree}
use Rattle.rb_world.specs.Kind.{Ends}
use Rattle.rb_world.specs.World.{Level, Process}
use Rattle.rb_world.specs.Channels.{room_from}
use Rattle.rb_world.specs.Turn.{Told, opening, run, told_at_opening}
use Rattle.rb_world.specs.Slots.{Slots, slot_of, zero_slots}
use Rattle.rb_world.specs.Text.{all_told, end_text, told_text}
use Rattle.rb_world.proofs.Relating.Image.{process_image, turn_image}
use Rattle.rb_world.proofs.Relating.ImageRuns.{opening_run-image}
use Rattle.rb_world.proofs.Relating.ProcessesMeet.{WorldsMeet}
use Rattle.rb_world.proofs.Relating.RunsMeet.{RunsMeet, opening_meets, opening_run_meets, same_told_at_opening}
use Rattle.rb_world.proofs.Slots.SlotsTheorem.{slots_image}
use Rattle.rb_meaning.specs.State.{State}
use Rattle.rb_meaning.specs.Step.{Nothing}
use Rattle.rb_meaning.specs.Groups.{channels_of, groups_of}
use Rattle.rb_meaning.specs.Meaning.{TreeWorld, final_of, message_number, opening_states, opening_world, run_of, run_text, sent_on, tree_kind}
use Rattle.rb_meaning.specs.Nesting.{IsNested}
use Rattle.rb_meaning.specs.Laws.{run_with_slots, slot_opening}
use Rattle.rb_meaning.proofs.Trees.TreeSlots.{slots_hold_messages}
use Rattle.rb_scope.specs.declared.slot.Slot.{Slot}
use Rattle.rb_code.specs.Instructions.Plain.{Code}
use Rattle.rb_code.specs.Agreement.Laws.{Agrees}
use Rattle.rb_code.specs.Agreement.StandsFor.{StandsFor}
use Rattle.rb_code.specs.WordMachine.Turn.{Common}
use Rattle.rb_code.specs.WordMachine.WordRun.{WordWorld, opening_of, opening_standings, word_final, word_run, word_text}
use Rattle.rb_code.proofs.WholeRuns.Agreeing.{Meeting, IsAgreeing}
use Rattle.rb_code.proofs.WholeRuns.BothAgree.{Agreed, SameSlots}
use Rattle.rb_code.proofs.WholeRuns.EndsAgree.{each_agrees, same_number, sent_same, statuses_same, taken_same, words_same}
use Rattle.rb_code.proofs.WholeRuns.Openings.{all_openings_agree}
use Rattle.rb_code.proofs.WholeRuns.WhatIsKnown.{along, known_first, reading, reads}
use Rattle.rb_code.proofs.WholeRuns.WordsSimulate.{SlotWorld, slotted, words_simulate}

-- the run with slots beside its lists is the run, but for the slots
own_processes : (qs : List (Process State State)) → map (process_image (λ (s : State). s) (λ (copy : State). copy)) qs ≡ qs
own_processes [] = refl
own_processes (q ∷ qs) =
    ap₂ ◌∷◌
    (ap (λ (ls : List (Level State)). record { state = q.state; levels = ls; at_line = q.at_line; status = q.status }) (map-id q.levels))
    (own_processes qs)

module _ (tree : Tree) (turns : List ℕ) where
  without_slots : run_of tree turns
      ≡ turn_image (λ (s : State). s) (λ (copy : State). copy) (λ (m : Nothing × Slots). m.0) (run_with_slots tree turns)
  without_slots =
      ap (λ (states : List State). run (tree_kind tree) 1 turns (opening (tree_kind tree) states tt))
      (sym (map-id (opening_states tree 0 tree.processes)))
      ∙ opening_run-image (slots_image (tree_kind tree)) turns (opening_states tree 0 tree.processes) (tt, zero_slots (channels_of tree))

  pub same_told : (run_of tree turns).1 ≡ (run_with_slots tree turns).1
  same_told = ap (λ (end : TreeWorld × List Told). end.1) without_slots

  pub same_talks : (run_of tree turns).0.talks ≡ (run_with_slots tree turns).0.talks
  same_talks = ap (λ (end : TreeWorld × List Told). end.0.talks) without_slots

  pub same_processes : (run_of tree turns).0.processes ≡ (run_with_slots tree turns).0.processes
  same_processes = ap (λ (end : TreeWorld × List Told). end.0.processes) without_slots ∙ own_processes (run_with_slots tree turns).0.processes

module _ (tree : Tree) (slots : List Slot) (c : Code) (meets : Meeting) (laws : IsAgreeing tree c meets)
    (nested : IsNested tree) (stands : StandsFor tree slots c) where
  abbrev opening_memory : Common
  opening_memory = record { slots = zero_slots c.channels; links = [] }

  slots_first : SameSlots (tt, zero_slots (channels_of tree)) opening_memory
  slots_first = ap zero_slots (sym stands.channels_are)

  openings : WorldsMeet SameSlots (Agreed meets) (slot_opening tree (slotted tree)) (opening_of c (groups_of tree))
  openings =
      opening_meets (words_simulate tree c meets laws stands.channels_are (reading tree nested) (reads tree nested)).plain
      (tt, zero_slots (channels_of tree)) opening_memory (opening_states tree 0 tree.processes) (opening_standings 0 c.processes)
      slots_first (all_openings_agree tree c meets laws slots stands)

  module _ (turns : List ℕ) where
    pub both_run : RunsMeet SameSlots (Agreed meets) (run_with_slots tree turns) (word_run c (groups_of tree) turns)
    both_run =
        opening_run_meets (words_simulate tree c meets laws stands.channels_are (reading tree nested) (reads tree nested)) (along tree nested) turns
        (tt, zero_slots (channels_of tree)) opening_memory (opening_states tree 0 tree.processes) (opening_standings 0 c.processes)
        (known_first tree nested) slots_first (all_openings_agree tree c meets laws slots stands)

    abbrev ends : SlotWorld
    ends = (run_with_slots tree turns).0

    abbrev word_ends : WordWorld
    word_ends = (word_run c (groups_of tree) turns).0

    told_same : (word_run c (groups_of tree) turns).1 ≡ (run_of tree turns).1
    told_same = sym both_run.same_told ∙ sym (same_told tree turns)

    final_same : word_final c word_ends ≡ final_of tree (run_of tree turns).0
    final_same =
        let all = both_run.worlds.processes in
        let final : word_final c word_ends ≡ final_of tree ends =
        λ i. record {
          statuses = statuses_same tree c meets laws ends.memory word_ends.memory ends.processes word_ends.processes all i;
          words = words_same tree c meets laws ends.memory word_ends.memory ends.processes word_ends.processes all i;
          sent = sent_same tree c meets laws ends.memory word_ends.memory ends.processes word_ends.processes all stands.channels_are i;
          taken = taken_same tree c meets laws ends.memory word_ends.memory ends.processes word_ends.processes all stands.channels_are i;
        } in
        final
        ∙ ap
        (λ (qs : List (Process State State)). final_of tree (record { processes = qs; talks = ends.talks; memory = ends.memory }))
        (sym (same_processes tree turns))

    text_same : word_text c (groups_of tree) turns ≡ run_text tree turns
    text_same =
        let first : told_at_opening (opening_of c (groups_of tree)) ≡ told_at_opening (opening_world tree) =
        sym (same_told_at_opening (slot_opening tree (slotted tree)) (opening_of c (groups_of tree)) openings) in
        λ i. told_text (stands.names_are i) 0 (first i)
        ++ (all_told (stands.names_are i) 1 (told_same i) ++ end_text (stands.names_are i) (length turns) (final_same i))

    messages_lie : (channel n : ℕ) (two : Ends) (sender receiver : Process State State) → slice_get c.channels channel ≡ Some two
        → slice_get (run_of tree turns).0.processes two.sender ≡ Some sender
        → slice_get (run_of tree turns).0.processes two.receiver ≡ Some receiver
        → room_from (tree_kind tree) receiver.state receiver.levels channel ≤ n → n < length (sent_on sender.state channel)
        → slot_of c.channels word_ends.memory.slots channel n ≡ message_number sender.state channel n
    messages_lie channel n two sender receiver declared there here least below =
        ap₂ (λ (channels : List Ends) (all : Slots). slot_of channels all channel n) stands.channels_are (sym both_run.worlds.memories)
        ∙ (slots_hold_messages tree nested turns channel two sender receiver
        (ap (λ (channels : List Ends). slice_get channels channel) (sym stands.channels_are) ∙ declared)
        (ap (λ (qs : List (Process State State)). slice_get qs two.sender) (sym (same_processes tree turns)) ∙ there)
        (ap (λ (qs : List (Process State State)). slice_get qs two.receiver) (sym (same_processes tree turns)) ∙ here)).lie n least below

    -- They agree, in all that the law says.
    pub runs_agree : Agrees tree c turns
    runs_agree = record {
      told = told_same;
      text = text_same;
      talks = sym both_run.worlds.talks ∙ sym (same_talks tree turns);
      as_many = same_number tree c meets laws ends.memory word_ends.memory ends.processes word_ends.processes both_run.worlds.processes
          ∙ ap length (sym (same_processes tree turns));
      processes = λ p q r there here.
          each_agrees tree c meets laws ends.memory word_ends.memory ends.processes word_ends.processes both_run.worlds.processes p q r
          (ap (λ (qs : List (Process State State)). slice_get qs p) (sym (same_processes tree turns)) ∙ there) here;
      slots = messages_lie;
    }
