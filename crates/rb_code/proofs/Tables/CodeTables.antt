-- The code of a tree that is resolved, within the limits and nested, whose expressions need few operands, has a table.
use Rattle.std.proofs.Common.{◌≡◌, inl, inr, ℕ, zero, suc, List, [], ◌∷◌, option_map, slice_get, unwrap_or, Some, refl, ap, sym, ◌∙◌, subst}
use Rattle.rb_syntax.specs.Tree.{ProcedureDeclaration, ProcessDeclaration, Tree}
use Rattle.rb_world.proofs.ListFacts.{none_some, some_same}
use Rattle.rb_meaning.specs.Groups.{groups_of, procedures_of}
use Rattle.rb_meaning.specs.Nesting.{IsNested}
use Rattle.rb_scope.specs.InFrames.{Resolved}
use Rattle.rb_scope.specs.Limits.{IsWithinLimits}
use Rattle.rb_scope.specs.declared.slot.Slot.{Slot}
use Rattle.rb_code.specs.Instructions.Plain.{Code, Procedure}
use Rattle.rb_code.specs.WordMachine.Workspace.{part_of}
use Rattle.rb_code.specs.Agreement.Forms.{procedure_start}
use Rattle.rb_code.specs.Agreement.RoomInTree.{FewOperands}
use Rattle.rb_code.specs.SoundCode.Sound.{BeginsAs, Changed, HasTable, IsProcedureAt, LeadsTo, Table, Within}
use Rattle.rb_code.specs.Agreement.StandsFor.{StandsFor}
use Rattle.rb_code.proofs.Tables.ProcessTables.{ProceduresBegin, call_words, in_procedure, owner_by}
use Rattle.rb_code.proofs.Tables.Resting.{resting, rests_as}
use Rattle.rb_code.proofs.Tables.SimpleTables.{KnowsProcedures, simple_are_tabled, taken_is_tabled, tests_are_tabled}
use Rattle.rb_code.proofs.Tables.WholeTables.{CallsFind, tree_has_table}

module _ (c : Code) (tree : Tree) (slots : List Slot) where
  -- where an entry of a list of procedures stands
  abbrev start_in : List Procedure → ℕ → ℕ
  start_in entries number = unwrap_or (option_map (λ one. one.start) (slice_get entries number)) 0

  -- a procedure by its number
  procedure_begins : (t : Table) (p : ℕ) (procedures : List ProcedureDeclaration) (entries : List Procedure) (number : ℕ)
      (procedure : ProcedureDeclaration)
      → ProceduresBegin c tree p procedures entries t → slice_get procedures number ≡ Some procedure
      → LeadsTo c (groups_of tree) t (start_in entries number) (resting (in_procedure p (start_in entries number)) (call_words procedure) [] Changed)
      × IsProcedureAt entries (start_in entries number)
  procedure_begins t p [] entries number procedure all at = absurd (none_some at)
  procedure_begins t p (one ∷ others) [] number procedure all at = absurd all
  procedure_begins t p (one ∷ others) (entry ∷ more) zero procedure all at = (
    subst (λ each. LeadsTo c (groups_of tree) t entry.start (resting (in_procedure p entry.start) (call_words each) [] Changed))
        (some_same at) all.0,
    inl refl,
  )
  procedure_begins t p (one ∷ others) (entry ∷ more) (suc number) procedure all at =
      let later = procedure_begins t p others more number procedure all.1 at in
      (later.0, inr later.1)

  begins_as : (t : Table) (p a words : ℕ) → LeadsTo c (groups_of tree) t a (resting (in_procedure p a) words [] Changed)
      → BeginsAs (t a) p a words
  begins_as t p a words h =
      subst (λ o. BeginsAs o p a words) (sym (rests_as c (groups_of tree) t a (in_procedure p a) words [] h)) refl

  calls_known : (p : ℕ) (process : ProcessDeclaration) (within : Within) → slice_get tree.processes p ≡ Some process → within.process ≡ p
      → KnowsProcedures tree slots c (owner_by p process) (CallsFind c tree) within
  calls_known p process within at is = record {
    own = ap procedures_of (sym at) ∙ ap (λ n. procedures_of (slice_get tree.processes n)) (sym is);
    there = λ t finds number procedure known.
        subst (λ n. IsProcedureAt (part_of c n).procedures (procedure_start c p number)) (sym is)
        (procedure_begins t p process.procedures (part_of c p).procedures number procedure (finds p process at) known).1;
    enters = λ t finds number procedure known.
        subst (λ n. BeginsAs (t (procedure_start c p number)) n (procedure_start c p number) (call_words procedure)) (sym is)
        (begins_as t p (procedure_start c p number) (call_words procedure)
        (procedure_begins t p process.procedures (part_of c p).procedures number procedure (finds p process at) known).0);
  }

  pub code_has_table : Resolved tree slots → IsWithinLimits tree → IsNested tree → FewOperands tree → StandsFor tree slots c
      → (t : Table) × HasTable c (groups_of tree) t
  code_has_table resolved limits nested few stands =
      tree_has_table c tree slots stands.channels_are
      (λ p process within at is. tests_are_tabled tree slots c (owner_by p process) (CallsFind c tree) within)
      (λ p process within at is.
      simple_are_tabled tree slots c (owner_by p process) (CallsFind c tree) within stands.channels_are (calls_known p process within at is))
      (λ p process within at is. taken_is_tabled tree slots c (owner_by p process) (CallsFind c tree) within)
      resolved limits nested few stands
