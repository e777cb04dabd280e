-- The trace of the code of a tree is that of the tree's meaning.
use Rattle.std.proofs.Common.{◌≡◌, ℕ, List, [], ◌∷◌, ◌++◌, length, map, slice_get, Option, Some, None, refl, sym, ap, ◌∙◌, subst₂}
use Rattle.rb_base.specs.declared.place.Place.{Place}
use Rattle.rb_syntax.specs.Tree.{Tree}
use Rattle.rb_world.specs.Slots.{Slots}
use Rattle.rb_world.specs.Text.{Naming, end_text}
use Rattle.rb_world.specs.World.{Level, Process}
use Rattle.rb_world.proofs.ListFacts.{heads_same as first_same, tails_same}
use Rattle.rb_world.proofs.Relating.ImageRuns.{Imaged}
use Rattle.rb_world.proofs.Relating.MarksMeet.{OptionsMeet, SameMarks}
use Rattle.rb_world.proofs.Relating.ProcessesMeet.{ProcessesMeet, get_meets}
use Rattle.rb_world.proofs.Relating.Simulation.{copies_of}
use Rattle.rb_meaning.specs.Groups.{groups_of}
use Rattle.rb_meaning.specs.Laws.{run_with_slots}
use Rattle.rb_meaning.specs.Meaning.{final_of, naming_of, opening_world, run_of}
use Rattle.rb_meaning.specs.Nesting.{IsNested}
use Rattle.rb_meaning.specs.State.{State}
use Rattle.rb_meaning.specs.Step.{Nothing}
use Rattle.rb_meaning.proofs.Trees.TreeLaws.{run_known}
use Rattle.rb_scope.specs.declared.slot.Slot.{Slot}
use Rattle.rb_code.specs.Agreement.Places.{places_told}
use Rattle.rb_code.specs.Agreement.StandsFor.{StandsFor}
use Rattle.rb_code.specs.Instructions.Plain.{Code}
use Rattle.rb_code.specs.WordMachine.Turn.{Copy, Standing}
use Rattle.rb_code.specs.WordMachine.WordRun.{WordWorld, opening_of, word_final, word_run}
use Rattle.rb_code.proofs.Agreeing.Callees.{has_callees}
use Rattle.rb_code.proofs.Agreeing.StepComes.{steps_come}
use Rattle.rb_code.proofs.Tables.CodeTables.{code_has_table}
use Rattle.rb_code.proofs.WholeRuns.Agreeing.{IsAgreeing, Meeting}
use Rattle.rb_code.proofs.WholeRuns.BothAgree.{Agreed}
use Rattle.rb_code.proofs.WholeRuns.ChannelsOfProcesses.{has_cursors, lists_channels}
use Rattle.rb_code.proofs.WholeRuns.EndsAgree.{sent_same, statuses_same, taken_same, words_same}
use Rattle.rb_code.proofs.WholeRuns.RunsAgree.{both_run, same_processes}
use Rattle.rb_code.proofs.WholeRuns.StandTogether.{StandTogether, Uprightness}
use Rattle.rb_code.proofs.WholeRuns.TogetherLaws.{together_agrees}
use Rattle.rb_code.proofs.WholeRuns.UprightByTable.{StandsInTable, table_upright}
use Rattle.rb_code.proofs.WholeRuns.WordsSimulate.{SlotWorld}
use Rattle.rb_picture.specs.Head.{head_text}
use Rattle.rb_picture.specs.Laws.{AreCounts, IsCodeOf, PlacesAreMeant, TraceIsMeant, TraceIsMeantWhere, TraceIsToldAsMeant}
use Rattle.rb_picture.specs.Meant.{before_run, place_meant, tree_head}
use Rattle.rb_picture.specs.Trace.{address_told, before_opening, opening_text, place_at, trace_from, trace_text, turn_texts, word_reading}
use Rattle.rb_picture.proofs.MeantHead.{before_same, heads_same}
use Rattle.rb_picture.proofs.MeantTurns.{list_reading, opening_unread, slots_unread}
use Rattle.rb_picture.proofs.MeantWords.{opening_is_slots, words_are_slots}
use Rattle.rb_picture.proofs.PlacesMeant.{process_told}

-- a process and its image are the same, and so have one place
levels_are : (ls ms : List (Level State)) → SameMarks ls ms → map (λ (copy : State). copy) (copies_of ls) ≡ copies_of ms → ls ≡ ms
levels_are [] [] e f = refl
levels_are [] (m ∷ ms) e f = absurd e
levels_are (l ∷ ls) [] e f = absurd e
levels_are (l ∷ ls) (m ∷ ms) e f = λ i.
    record { facts = e.0.facts i; alternate = e.0.alternate i; used = e.0.used i; copy = first_same f i } ∷ levels_are ls ms e.1 (tails_same f) i

same_image : (m : Nothing × Slots) (n : Nothing) (q u : Process State State)
    → ProcessesMeet (Imaged (λ (s : State). s) (λ (copy : State). copy) (λ (m : Nothing × Slots). m.0)) m n q u → q ≡ u
same_image m n q u e = λ i. record {
  state = e.states.state i;
  levels = levels_are q.levels u.levels e.marks e.states.copies i;
  at_line = e.lines i;
  status = e.statuses i;
}

module _ (tree : Tree) (slots : List Slot) (c : Code) (meets : Meeting) (laws : IsAgreeing tree c meets) (nested : IsNested tree)
    (stands : StandsFor tree slots c) (turns : List ℕ) where
  -- how both runs end
  abbrev ends : SlotWorld
  ends = (run_with_slots tree turns).0

  abbrev word_ends : WordWorld
  word_ends = (word_run c (groups_of tree) turns).0

  final_same : word_final c word_ends ≡ final_of tree (run_of tree turns).0
  final_same =
      let all = (both_run tree slots c meets laws nested stands turns).worlds.processes in
      let final : word_final c word_ends ≡ final_of tree ends =
      λ i. record {
        statuses = statuses_same tree c meets laws ends.memory word_ends.memory ends.processes word_ends.processes all i;
        words = words_same tree c meets laws ends.memory word_ends.memory ends.processes word_ends.processes all i;
        sent = sent_same tree c meets laws ends.memory word_ends.memory ends.processes word_ends.processes all stands.channels_are i;
        taken = taken_same tree c meets laws ends.memory word_ends.memory ends.processes word_ends.processes all stands.channels_are i;
      } in
      final
      ∙ ap (λ (qs : List (Process State State)). final_of tree (record { processes = qs; talks = ends.talks; memory = ends.memory }))
      (sym (same_processes tree turns))

  module _ (place : Process State State → Option Place) (places : List (Option Place))
      (agree : (before after : List ℕ) (p : ℕ) (q : Process State State) (u : Process Standing Copy)
      → turns ≡ before ++ p ∷ after → slice_get (run_of tree before).0.processes p ≡ Some q
      → slice_get (word_run c (groups_of tree) before).0.processes p ≡ Some u → place_at places (address_told c u.status u) ≡ place q) where
    same_place : (q : Process State State) (m : Nothing × Slots) (n : Nothing) (u : Process State State)
        → ProcessesMeet (Imaged (λ (s : State). s) (λ (copy : State). copy) (λ (m : Nothing × Slots). m.0)) m n q u → place q ≡ place u
    same_place q m n u e = ap place (same_image m n q u e)

    texts : turn_texts (word_reading c (groups_of tree) places) c.names 1 (opening_of c (groups_of tree)) turns
        ≡ turn_texts (list_reading tree place) (naming_of tree) 1 (opening_world tree) turns
    texts =
        ap (λ (names : Naming). turn_texts (word_reading c (groups_of tree) places) names 1 (opening_of c (groups_of tree)) turns) stands.names_are
        ∙ sym (words_are_slots tree slots c meets laws nested stands place places turns agree (naming_of tree))
        ∙ slots_unread tree place same_place (naming_of tree) turns

    opening_same : opening_text (word_reading c (groups_of tree) places) c.names (before_opening c (groups_of tree)) (opening_of c (groups_of tree))
        ≡ opening_text (list_reading tree place) (naming_of tree) (before_run tree) (opening_world tree)
    opening_same =
        (λ i. opening_text (word_reading c (groups_of tree) places) (stands.names_are i) (before_same tree slots c stands i) (opening_of c (groups_of tree)))
        ∙ sym (opening_is_slots tree slots c meets laws nested stands place places turns agree (naming_of tree) (before_run tree))
        ∙ opening_unread tree place same_place (naming_of tree) (before_run tree)

    pub traces_same : (head head' : List ℕ) → head ≡ head'
        → trace_from (word_reading c (groups_of tree) places) c.names head (before_opening c (groups_of tree)) (word_final c)
        (opening_of c (groups_of tree)) turns
        ≡ trace_from (list_reading tree place) (naming_of tree) head' (before_run tree) (final_of tree) (opening_world tree) turns
    traces_same head head' heads =
        λ i. heads i ++ (opening_same i ++ (texts i ++ end_text (stands.names_are i) (length turns) (final_same i)))

-- By what the runs of a tree and of its code stand together.
pub record Simulated (tree : Tree) (slots : List Slot) (c : Code) : Type 1 where
  pub upright : Uprightness
  pub laws : IsAgreeing tree c (StandTogether tree slots c upright)

simulated : (tree : Tree) (slots : List Slot) (c : Code) → IsCodeOf tree slots c → Simulated tree slots c
simulated tree slots c of =
    let tabled = code_has_table c tree slots of.resolved of.limits of.nested of.operands of.stands in
    let lists = lists_channels tree slots c of.stands of.nested of.resolved in
    let cursors = has_cursors tree slots c of.stands of.nested of.resolved in
    let come = steps_come tree slots c cursors of.stands.edition_is of.stands.channels_are (has_callees tree slots c of.stands of.resolved) in
    record {
      upright = StandsInTable c (groups_of tree) tabled.0 tabled.1 lists;
      laws = together_agrees tree slots c of.resolved of.limits of.nested of.stands cursors come (StandsInTable c (groups_of tree) tabled.0 tabled.1 lists)
          (table_upright c (groups_of tree) tabled.0 tabled.1 lists);
    }

-- the places that are told of the code of a tree are those that are meant
module _ (tree : Tree) (slots : List Slot) (c : Code) (of : IsCodeOf tree slots c) (before : List ℕ) where
  abbrev at_end : SlotWorld
  at_end = (run_with_slots tree before).0

  abbrev word_end : WordWorld
  word_end = (word_run c (groups_of tree) before).0

  met : (s : Simulated tree slots c) (p : ℕ) (q : Process State State) (u : Process Standing Copy) → slice_get (run_of tree before).0.processes p ≡ Some q
      → slice_get word_end.processes p ≡ Some u
      → ProcessesMeet (Agreed (StandTogether tree slots c s.upright)) at_end.memory word_end.memory q u
  met s p q u there here =
      let both = (both_run tree slots c (StandTogether tree slots c s.upright) s.laws of.nested of.stands before).worlds.processes in
      subst₂ (OptionsMeet (ProcessesMeet (Agreed (StandTogether tree slots c s.upright)) at_end.memory word_end.memory))
      (ap (λ (qs : List (Process State State)). slice_get qs p) (sym (same_processes tree before)) ∙ there) here
      (get_meets (Agreed (StandTogether tree slots c s.upright)) at_end.memory word_end.memory at_end.processes word_end.processes p both)

  pub place_told : (p : ℕ) (q : Process State State) (u : Process Standing Copy) → slice_get (run_of tree before).0.processes p ≡ Some q
      → slice_get word_end.processes p ≡ Some u
      → place_at (places_told tree c.instrs) (address_told c u.status u) ≡ place_meant q.status q
  place_told p q u there here =
      let s = simulated tree slots c of in
      let both = met s p q u there here in
      process_told tree slots c s.upright p q u (run_known tree of.nested before p q there) both.marks both.states.they_meet both.lines both.statuses

pub places_meant : PlacesAreMeant
places_meant tree slots c turns of before after p q u is there here = place_told tree slots c of before p q u there here

-- of a code of a tree, where the places agree
code_traced : (tree : Tree) (slots : List Slot) (c : Code) (counts turns : List ℕ) → IsCodeOf tree slots c → AreCounts tree counts
    → (place : Process State State → Option Place) (places : List (Option Place))
    → ((before after : List ℕ) (p : ℕ) (q : Process State State) (u : Process Standing Copy)
    → turns ≡ before ++ p ∷ after → slice_get (run_of tree before).0.processes p ≡ Some q
    → slice_get (word_run c (groups_of tree) before).0.processes p ≡ Some u → place_at places (address_told c u.status u) ≡ place q)
    → trace_text c (groups_of tree) counts places turns
    ≡ trace_from (list_reading tree place) (naming_of tree) (tree_head tree (length turns)) (before_run tree) (final_of tree) (opening_world tree) turns
code_traced tree slots c counts turns of are place places agree =
    traces_same tree slots c _ (simulated tree slots c of).laws of.nested of.stands turns place places agree (head_text c (groups_of tree) counts (length turns)) (tree_head tree (length turns))
    (heads_same tree slots c counts (length turns) of.numbered of.stands are)

pub trace_meant_where : TraceIsMeantWhere
trace_meant_where tree slots c counts places turns of are tells =
    code_traced tree slots c counts turns of are (λ q. place_meant q.status q) places tells

pub trace_told_as_meant : TraceIsToldAsMeant
trace_told_as_meant tree slots c counts turns of are =
    trace_meant_where tree slots c counts (places_told tree c.instrs) turns of are (places_meant tree slots c turns of)

-- by no place
no_place : (address : Option ℕ) → place_at [] address ≡ None
no_place None = refl
no_place (Some a) = refl

pub trace_meant : TraceIsMeant
trace_meant tree slots c counts turns of are =
    code_traced tree slots c counts turns of are (λ q. None) [] (λ before after p q u e there here. no_place (address_told c u.status u))
