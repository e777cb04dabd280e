-- In the word machine no receipt stands of a message that was taken back: its cursors count what the meaning's lists hold, in the present
-- and in each copy, and a receiver sees the copy of the same level.
use Rattle.std.proofs.Common.{◌≡◌, ◌≤◌, ℕ, suc, List, [], ◌∷◌, length, slice_get, Option, Some, None, refl, sym, ap, ap₂, ◌∙◌, subst}
use Rattle.rb_syntax.specs.Tree.{Tree}
use Rattle.rb_world.specs.Channels.{seen_copy, seen_count}
use Rattle.rb_world.specs.Kind.{Ends, Facts}
use Rattle.rb_world.specs.Slots.{zero_slots}
use Rattle.rb_world.specs.World.{Level, Process, is_shared}
use Rattle.rb_world.proofs.ListFacts.{none_some, some_same}
use Rattle.rb_world.proofs.Relating.MarksMeet.{OptionsMeet, SameMarks}
use Rattle.rb_world.proofs.Relating.ProcessesMeet.{ProcessesMeet, cond_meets, get_meets}
use Rattle.rb_world.proofs.Relating.RunsMeet.{RunsMeet, opening_run_meets}
use Rattle.rb_world.proofs.Relating.Simulation.{copies_of}
use Rattle.rb_meaning.specs.Groups.{channels_of, groups_of}
use Rattle.rb_meaning.specs.Laws.{TakesNothingBack, run_with_slots}
use Rattle.rb_meaning.specs.Meaning.{opening_states, run_of, sent_on, taken_on, tree_kind}
use Rattle.rb_meaning.specs.Nesting.{IsNested}
use Rattle.rb_meaning.specs.State.{State}
use Rattle.rb_meaning.proofs.Trees.TreeErasure.{nothing_taken_back}
use Rattle.rb_scope.specs.declared.slot.Slot.{Slot}
use Rattle.rb_judge.proofs.Accepted.{accepted_are_nested, accepted_are_within_limits}
use Rattle.rb_code.specs.Instructions.Plain.{Code}
use Rattle.rb_code.specs.Agreement.StandsFor.{StandsFor}
use Rattle.rb_code.specs.WordMachine.Turn.{Common, Copy, Standing}
use Rattle.rb_code.specs.WordMachine.WordKind.{sent_by, taken_by, word_kind}
use Rattle.rb_code.specs.WordMachine.WordRun.{WordWorld, opening_standings, word_run}
use Rattle.rb_code.proofs.Agreeing.Callees.{has_callees}
use Rattle.rb_code.proofs.Tables.CodeTables.{code_has_table}
use Rattle.rb_code.proofs.Agreeing.StepComes.{steps_come}
use Rattle.rb_code.proofs.WholeRuns.Agreeing.{IsAgreeing, Meeting}
use Rattle.rb_code.proofs.WholeRuns.BothAgree.{Agreed, SameSlots}
use Rattle.rb_code.proofs.WholeRuns.ChannelsOfProcesses.{has_cursors, lists_channels}
use Rattle.rb_code.proofs.WholeRuns.Openings.{all_openings_agree}
use Rattle.rb_code.proofs.WholeRuns.RunsAgree.{same_processes}
use Rattle.rb_code.proofs.WholeRuns.TogetherLaws.{together_agrees}
use Rattle.rb_code.proofs.WholeRuns.UprightByTable.{StandsInTable, table_upright}
use Rattle.rb_code.proofs.WholeRuns.WhatIsKnown.{along, known_first, reading, reads}
use Rattle.rb_code.proofs.WholeRuns.WordsSimulate.{SlotWorld, words_simulate}
use Rattle.rb_prepare.proofs.Operands.RoomFound.{accepted_find_room}
use Rattle.rb_run.specs.Laws.{NothingTakenBack}

-- what one of two options has the other has
found_there : {A B : Type 0} (R : A → B → Type 0) (o : Option A) (o' : Option B) (y : B) → OptionsMeet R o o' → o' ≡ Some y
    → (x : A) × (o ≡ Some x) × R x y
found_there R None None y both e = absurd (none_some e)
found_there R None (Some z) y both e = absurd both
found_there R (Some x) None y both e = absurd both
found_there R (Some x) (Some z) y both e = (x, refl, subst (R x) (some_same e) both)

module _ (tree : Tree) (c : Code) (channel : ℕ) where
  -- as many are seen, where as many were sent in the present and in copies of one number
  AsMany : State → Standing → Option State → Option Copy → Type 0
  AsMany s u x y = seen_count (tree_kind tree) s x channel ≡ seen_count (word_kind c (groups_of tree)) u y channel

  seen_same : (s : State) (u : Standing) (ls : List (Level State)) (ms : List (Level Copy)) (ls' : List (Level State)) (ms' : List (Level Copy))
      → SameMarks ls ms → SameMarks ls' ms' → length (sent_on s channel) ≡ sent_by c u.process u.words channel (slice_get c.channels channel)
      → ((j : ℕ) (x : State) (y : Copy) → slice_get (copies_of ls) j ≡ Some x → slice_get (copies_of ms) j ≡ Some y
      → length (sent_on x channel) ≡ sent_by c u.process y.words channel (slice_get c.channels channel))
      → AsMany s u (seen_copy ls ls') (seen_copy ms ms')
  unfolding AsMany
  seen_same s u [] [] ls' ms' e f now then = now
  seen_same s u [] (m ∷ ms) ls' ms' e f now then = absurd e
  seen_same s u (l ∷ ls) [] ls' ms' e f now then = absurd e
  seen_same s u (l ∷ ls) (m ∷ ms) [] [] e f now then = then 0 l.copy m.copy refl refl
  seen_same s u (l ∷ ls) (m ∷ ms) [] (m' ∷ ms') e f now then = absurd f
  seen_same s u (l ∷ ls) (m ∷ ms) (l' ∷ ls') [] e f now then = absurd f
  seen_same s u (l ∷ ls) (m ∷ ms) (l' ∷ ls') (m' ∷ ms') e f now then =
      cond_meets (AsMany s u) (is_shared l.facts.conversation l'.facts.conversation) (is_shared m.facts.conversation m'.facts.conversation)
      (ap₂ (λ (x y : Facts). is_shared x.conversation y.conversation) e.0.facts f.0.facts)
      (λ _. seen_same s u ls ms ls' ms' e.1 f.1 now (λ j. then (suc j)))
      (λ _. then 0 l.copy m.copy refl refl)

module _ (tree : Tree) (slots : List Slot) (c : Code) (meets : Meeting) (laws : IsAgreeing tree c meets) (nested : IsNested tree)
    (stands : StandsFor tree slots c) (turns : List ℕ) where
  abbrev opening_memory : Common
  opening_memory = record { slots = zero_slots c.channels; links = [] }

  -- the run of the meaning and that of the machine
  both_run : RunsMeet SameSlots (Agreed meets) (run_with_slots tree turns) (word_run c (groups_of tree) turns)
  both_run =
      opening_run_meets (words_simulate tree c meets laws stands.channels_are (reading tree nested) (reads tree nested)) (along tree nested) turns
      (tt, zero_slots (channels_of tree)) opening_memory (opening_states tree 0 tree.processes) (opening_standings 0 c.processes)
      (known_first tree nested) (ap zero_slots (sym stands.channels_are)) (all_openings_agree tree c meets laws slots stands)

  abbrev ends_of_tree : SlotWorld
  ends_of_tree = (run_with_slots tree turns).0

  abbrev word_ends : WordWorld
  word_ends = (word_run c (groups_of tree) turns).0

  abbrev Meet : Process State State → Process Standing Copy → Type 0
  Meet q r = ProcessesMeet (Agreed meets) ends_of_tree.memory word_ends.memory q r

  -- the process of the meaning for each of the machine
  meets_at : (p : ℕ) (r : Process Standing Copy) → slice_get word_ends.processes p ≡ Some r
      → (q : Process State State) × (slice_get ends_of_tree.processes p ≡ Some q) × Meet q r
  meets_at p r e =
      found_there Meet (slice_get ends_of_tree.processes p) (slice_get word_ends.processes p) r
      (get_meets (Agreed meets) ends_of_tree.memory word_ends.memory ends_of_tree.processes word_ends.processes p both_run.worlds.processes) e

  in_tree : (p : ℕ) (q : Process State State) → slice_get ends_of_tree.processes p ≡ Some q → slice_get (run_of tree turns).0.processes p ≡ Some q
  in_tree p q e = ap (λ (qs : List (Process State State)). slice_get qs p) (same_processes tree turns) ∙ e

  -- what is taken and seen in the one is taken and seen in the other
  module _ (channel : ℕ) (q q' : Process State State) (r r' : Process Standing Copy) (one : Meet q r) (other : Meet q' r') where
    taken_same : taken_on q'.state channel ≡ taken_by c r'.state.process r'.state.words channel (slice_get c.channels channel)
    taken_same = laws.taken q'.at_line (copies_of q'.levels) q'.state (copies_of r'.levels) r'.state channel other.states.they_meet

    counts_same : AsMany tree c channel q.state r.state (seen_copy q.levels q'.levels) (seen_copy r.levels r'.levels)
    counts_same =
        seen_same tree c channel q.state r.state q.levels r.levels q'.levels r'.levels one.marks other.marks
        (laws.sent q.at_line (copies_of q.levels) q.state (copies_of r.levels) r.state channel one.states.they_meet)
        (λ j x y. laws.sent_then q.at_line (copies_of q.levels) q.state (copies_of r.levels) r.state channel j x y one.states.they_meet)

    receipts_same : taken_on q'.state channel ≤ seen_count (tree_kind tree) q.state (seen_copy q.levels q'.levels) channel
        → taken_by c r'.state.process r'.state.words channel (slice_get c.channels channel)
        ≤ seen_count (word_kind c (groups_of tree)) r.state (seen_copy r.levels r'.levels) channel
    unfolding AsMany
    receipts_same h =
        subst (λ (n : ℕ). taken_by c r'.state.process r'.state.words channel (slice_get c.channels channel) ≤ n) counts_same
        (subst (λ (n : ℕ). n ≤ seen_count (tree_kind tree) q.state (seen_copy q.levels q'.levels) channel) taken_same h)

  receipts : (channel : ℕ) (ends : Ends) (sender receiver : Process Standing Copy) → slice_get c.channels channel ≡ Some ends
      → slice_get word_ends.processes ends.sender ≡ Some sender → slice_get word_ends.processes ends.receiver ≡ Some receiver
      → taken_by c receiver.state.process receiver.state.words channel (slice_get c.channels channel)
      ≤ seen_count (word_kind c (groups_of tree)) sender.state (seen_copy sender.levels receiver.levels) channel
  receipts channel ends sender receiver declared there here =
      let sends = meets_at ends.sender sender there in
      let receives = meets_at ends.receiver receiver here in
      let law : TakesNothingBack tree = nothing_taken_back tree nested in
      receipts_same channel sends.0 receives.0 sender receiver sends.2 receives.2
      (law turns channel ends sends.0 receives.0
      (ap (λ (channels : List Ends). slice_get channels channel) (sym stands.channels_are) ∙ declared)
      (in_tree ends.sender sends.0 sends.1) (in_tree ends.receiver receives.0 receives.1))

-- so it is of the code of every accepted source
pub receipts_stand : NothingTakenBack
receipts_stand source tree slots c accepted resolved stands turns =
    let limits = accepted_are_within_limits source tree accepted in
    let nested = accepted_are_nested source tree accepted in
    let tabled = code_has_table c tree slots resolved limits nested (accepted_find_room source tree accepted) stands in
    let lists = lists_channels tree slots c stands nested resolved in
    let cursors = has_cursors tree slots c stands nested resolved in
    let come = steps_come tree slots c cursors stands.edition_is stands.channels_are (has_callees tree slots c stands resolved) in
    receipts tree slots c _
    (together_agrees tree slots c resolved limits nested stands cursors come (StandsInTable c (groups_of tree) tabled.0 tabled.1 lists)
    (table_upright c (groups_of tree) tabled.0 tabled.1 lists))
    nested stands turns
