-- The opening states of a tree and the processes of code that stands for it, before the first turn.
use Rattle.std.proofs.Common.{◌≡◌, ℕ, ◌+◌, suc, false, List, [], ◌∷◌, slice_get, Some, None, refl, sym, subst, arith}
use Rattle.rb_syntax.specs.Tree.{ProcessDeclaration, Tree}
use Rattle.rb_world.specs.Slots.{Slots, zero_slots}
use Rattle.rb_world.proofs.Relating.RunsMeet.{OpeningsMeet}
use Rattle.rb_meaning.specs.State.{settle}
use Rattle.rb_meaning.specs.Step.{Nothing}
use Rattle.rb_meaning.specs.Groups.{channels_of, groups_of}
use Rattle.rb_meaning.specs.Meaning.{opening_state, opening_states}
use Rattle.rb_scope.specs.declared.slot.Slot.{Slot}
use Rattle.rb_code.specs.Instructions.Plain.{Code, Part}
use Rattle.rb_code.specs.Agreement.StandsFor.{ProcessesCode, StandsFor}
use Rattle.rb_code.specs.WordMachine.Turn.{Common, settle as settles}
use Rattle.rb_code.specs.WordMachine.WordKind.{word_kind}
use Rattle.rb_code.specs.WordMachine.WordRun.{opening_standing, opening_standings}
use Rattle.rb_code.proofs.WholeRuns.KeptTurns.{LeadTo, none_kept}
use Rattle.rb_code.proofs.WholeRuns.Pairs.{Pairs}
use Rattle.rb_code.proofs.WholeRuns.Agreeing.{Meeting, IsAgreeing}
use Rattle.rb_code.proofs.WholeRuns.BothAgree.{Agreed, BothAgree}
use Rattle.rb_code.proofs.WholeRuns.MachineSteps.{IsSameProcess, settle_same}
use Rattle.rb_code.proofs.WholeRuns.WordsSimulate.{slotted}

-- as many parts as processes
abbrev pub AsMany : List ProcessDeclaration → List Part → Type 0
AsMany processes parts = Pairs (λ process part. Unit {0}) processes parts

pub parts_stand : (tree : Tree) (slots : List Slot) (c : Code) (p a b : ℕ) (processes : List ProcessDeclaration) (parts : List Part)
    → ProcessesCode tree slots p processes parts c a b → AsMany processes parts
parts_stand tree slots c p a b [] parts stands = subst (AsMany []) (sym stands.0) tt
parts_stand tree slots c p a b (process ∷ processes) parts (part, more, same, (m, one, others)) =
    subst (AsMany (process ∷ processes)) (sym same) (tt, parts_stand tree slots c (p + 1) m b processes more others)

module _ (tree : Tree) (c : Code) (meets : Meeting) (laws : IsAgreeing tree c meets) where
  abbrev opening_slots : Nothing × Slots
  opening_slots = (tt, zero_slots (channels_of tree))

  abbrev opening_common : Common
  opening_common = record { slots = zero_slots c.channels; links = [] }

  opening_agrees : (p : ℕ) (process : ProcessDeclaration) (part : Part) → slice_get tree.processes p ≡ Some process
      → slice_get c.processes p ≡ Some part
      → BothAgree meets false [] [] (settle (opening_state tree p process)) [] (settles c None (opening_standing p part))
  opening_agrees p process part at at' =
      let same : IsSameProcess (opening_standing p part) (settles c None (opening_standing p part)) = settle_same c None (opening_standing p part) in
      record {
        they_meet = laws.opens p process part at at';
        lines = laws.opens_empty p process part at at';
        grow = tt;
        kept = subst (λ (last : ℕ). LeadTo [] last []) (sym same.last_kept) none_kept;
        kept_then = tt;
      }

  -- the processes from number p on
  abbrev StandAt : List ProcessDeclaration → List Part → ℕ → Type 0
  StandAt processes parts p =
      (r n : ℕ) (process : ProcessDeclaration) (part : Part) → n ≡ p + r → slice_get processes r ≡ Some process → slice_get parts r ≡ Some part
      → (slice_get tree.processes n ≡ Some process) × (slice_get c.processes n ≡ Some part)

  openings_agree : (p : ℕ) (processes : List ProcessDeclaration) (parts : List Part) → AsMany processes parts → StandAt processes parts p
      → OpeningsMeet (slotted tree) (word_kind c (groups_of tree)) (Agreed meets) opening_slots opening_common
      (opening_states tree p processes) (opening_standings p parts)
  openings_agree p [] [] as_many at = tt
  openings_agree p [] (part ∷ parts) as_many at = absurd as_many
  openings_agree p (process ∷ processes) [] as_many at = absurd as_many
  openings_agree p (process ∷ processes) (part ∷ parts) as_many at =
      let here = at 0 p process part (omega arith) refl refl in (
        opening_agrees p process part here.0 here.1,
        openings_agree (p + 1) processes parts as_many.1 (λ r n one other same. at (suc r) n one other (omega (arith, same))),
      )

  pub all_openings_agree : (slots : List Slot) → StandsFor tree slots c
      → OpeningsMeet (slotted tree) (word_kind c (groups_of tree)) (Agreed meets) opening_slots opening_common
      (opening_states tree 0 tree.processes) (opening_standings 0 c.processes)
  all_openings_agree slots stands =
      openings_agree 0 tree.processes c.processes (parts_stand tree slots c 0 0 _ tree.processes c.processes stands.instrs_are)
      (λ r n process part same at at'.
      let e : r ≡ n = omega (arith, same) in
      (subst (λ (i : ℕ). slice_get tree.processes i ≡ Some process) e at, subst (λ (i : ℕ). slice_get c.processes i ≡ Some part) e at'))
