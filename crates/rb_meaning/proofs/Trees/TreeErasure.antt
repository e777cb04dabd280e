-- Erasure for trees: what survived a run of a nested program, run alone, ends the same; and no receipt stands whose message was
-- taken back.
use Rattle.std.proofs.Common.{◌≡◌, ◌+◌, ℕ, zero, suc, true, not, List, [], ◌∷◌, map, replicate, slice_get, unwrap_or, Some, refl, sym, ap, ◌∙◌, subst, true≢false}
use Rattle.std.proofs.lemmas.Bool.{eq-eqb}
use Rattle.std.proofs.lemmas.Simd.{map-map}
use Rattle.std.specs.List.{list_all}
use Rattle.rb_syntax.specs.Tree.{ProcessDeclaration, Tree}
use Rattle.rb_world.specs.Kind.{Ends}
use Rattle.rb_world.specs.World.{Process, World}
use Rattle.rb_world.specs.Turn.{opening}
use Rattle.rb_world.specs.Plain.{Ended, plain_run, survivors_of}
use Rattle.rb_world.specs.Erased.{Rises}
use Rattle.rb_world.proofs.Erasing.SurvivorsRunAlone.{OpensErasably, RunsAlone}
use Rattle.rb_world.proofs.Erasing.ErasureOfEveryKind.{receipts_stand, survivors_run_alone}
use Rattle.rb_world.proofs.ListFacts.{first_holds, none_some, second_holds, some_same}
use Rattle.rb_world.proofs.Erasing.ReceiptsStand.{AreBetweenTwo}
use Rattle.rb_meaning.specs.State.{State}
use Rattle.rb_meaning.specs.Groups.{channels_of}
use Rattle.rb_meaning.specs.Meaning.{TreeWorld, opening_state, opening_states, run_of, survivors, taken_on}
use Rattle.rb_meaning.specs.PlainRun.{plain_kind}
use Rattle.rb_meaning.specs.Nesting.{IsNested, keeps_n12}
use Rattle.rb_meaning.specs.Laws.{Erasure, NothingTakenBack}
use Rattle.rb_meaning.proofs.Knowing.KnownOfProcess.{Known}
use Rattle.rb_meaning.proofs.Knowing.KnownIsKept.{known_kept}
use Rattle.rb_meaning.proofs.Nesting.NestedProgram.{known_opening, procedures_kept}
use Rattle.rb_meaning.proofs.Trees.TreeErasable.{erasable}
use Rattle.rb_meaning.proofs.Trees.TreeParts.{parts_of}

-- what is true of each opening state
pub each_opening : (tree : Tree) (P : State → Type 0) → ((n : ℕ) (process : ProcessDeclaration) → P (opening_state tree n process))
    → (p : ℕ) (processes : List ProcessDeclaration) (r : ℕ) (s : State) → slice_get (opening_states tree p processes) r ≡ Some s → P s
each_opening tree P one p [] r s e = absurd (none_some e)
each_opening tree P one p (process ∷ processes) zero s e = subst P (some_same e) (one p process)
each_opening tree P one p (process ∷ processes) (suc r) s e = each_opening tree P one (p + 1) processes r s e

pub none_taken : (n c : ℕ) → unwrap_or (slice_get (replicate n zero) c) zero ≡ zero
none_taken zero c = refl
none_taken (suc n) zero = refl
none_taken (suc n) (suc c) = none_taken n c

-- what is known of the opening states of a nested program
pub opens_erasably : (tree : Tree) → IsNested tree → OpensErasably (parts_of tree) (Known tree) (opening_states tree 0 tree.processes)
opens_erasably tree nested = record {
  known = known_opening tree nested;
  kept = each_opening tree (λ s. s.kept ≡ []) (λ n process. refl) 0 tree.processes;
  held = each_opening tree (λ s. s.held ≡ []) (λ n process. refl) 0 tree.processes;
  taken = each_opening tree (λ s. (c : ℕ) → taken_on s c ≡ 0) (λ n process c. none_taken _ c) 0 tree.processes;
}

-- the kept turns of all processes, read at once or by their states
survivors_are : {C M : Type 0} (w : World State C M) → survivors_of (map (λ q. q.state.kept) w.processes) ≡ survivors w
survivors_are w = ap survivors_of (sym (map-map (λ (s : State). s.kept) (λ (q : Process State _). q.state) w.processes))

-- what survived a run, run alone, ends the same
pub erasure : Erasure
erasure tree nested turns =
    let w : TreeWorld = (run_of tree turns).0 in
    let alone : RunsAlone (parts_of tree) (opening_states tree 0 tree.processes) (run_of tree turns).1 w =
    survivors_run_alone (known_kept tree (procedures_kept tree nested)) (erasable tree) (opens_erasably tree nested) turns in
    record {
      world = alone.world;
      lines = alone.lines;
      ran = subst (λ (kept : List _). plain_run (plain_kind tree) kept (opening (plain_kind tree) (opening_states tree 0 tree.processes) tt)
          ≡ Ended alone.world alone.lines)
          (survivors_are w) alone.ran;
      states = alone.same_states;
      released = alone.released;
      rises = subst Rises (survivors_are w) alone.rises;
    }

-- each channel has two different ends
channel_kept : (channels : List Ends) (c : ℕ) (ends : Ends) → list_all keeps_n12 channels ≡ true
    → slice_get channels c ≡ Some ends → keeps_n12 ends ≡ true
channel_kept [] c ends all e = absurd (none_some e)
channel_kept (first ∷ channels) zero ends all e =
    subst (λ (x : Ends). keeps_n12 x ≡ true) (some_same e) (first_holds (keeps_n12 first) (list_all keeps_n12 channels) all)
channel_kept (first ∷ channels) (suc c) ends all e =
    channel_kept channels c ends (second_holds (keeps_n12 first) (list_all keeps_n12 channels) all) e

between_two : (tree : Tree) → IsNested tree → AreBetweenTwo (channels_of tree)
between_two tree nested c ends at same =
    true≢false (sym (channel_kept (channels_of tree) c ends nested.n12 at) ∙ ap not (eq-eqb ends.sender ends.receiver (sym same)))

-- a receiver has never taken more than it can see
pub nothing_taken_back : NothingTakenBack
nothing_taken_back tree nested turns c ends sender receiver channel there there' =
    receipts_stand (known_kept tree (procedures_kept tree nested)) (erasable tree) (between_two tree nested) (opens_erasably tree nested) turns
    c ends sender receiver channel there there'
