-- Two lists of slots by which a tree is resolved say the same of each name that is used in it.
use Rattle.std.proofs.Common.{◌≡◌, ℕ, zero, suc, ◌+◌, List, [], ◌∷◌, ◌++◌, slice_get, Option, Some, None, refl, ap, sym, ◌∙◌, arith}
use Rattle.std.specs.List.{AllByRecursion}
use Rattle.std.proofs.lemmas.List.Elements.{recursion_from_All}
use Rattle.rb_syntax.specs.Tree.{Identifier, ProcedureDeclaration, ProcessDeclaration, Tree}
use Rattle.rb_meaning.specs.Groups.{procedures_of}
use Rattle.rb_world.proofs.ListFacts.{some_same}
use Rattle.rb_scope.specs.Frames.{Frames, array_slot, counter_among, scalar_slot}
use Rattle.rb_scope.specs.InFrames.{IsArray, IsChannel, IsProcedure, IsScalar, IsValue, IsValueBy}
use Rattle.rb_scope.specs.Scopes.{Declared, procedures_from, process_scope, variables_from}
use Rattle.rb_scope.specs.Sites.{in_program, process_sites, scope_sites, tree_sites}
use Rattle.rb_scope.specs.Slots.{AreSlots, HasItsSlot}
use Rattle.rb_scope.specs.declared.slot.Slot.{Slot}
use Rattle.rb_scope.specs.declared.slot.Slot.TheVariants.{Global, Procedure}
use Rattle.rb_scope.proofs.EachSite.{all_at, all_parts, all_split}
use Rattle.rb_scope.proofs.PartsOfTrees.{tree_parts}

-- what is declared has its slot
abbrev HasDeclaredSlot : List Slot → Declared → Type 0
HasDeclaredSlot slots one = slice_get slots one.name.id ≡ Some one.slot

scope_slots : (slots : List Slot) (earlier scope : List Declared) → AllByRecursion (HasItsSlot slots) (scope_sites earlier scope)
    → AllByRecursion (HasDeclaredSlot slots) scope
scope_slots slots earlier [] all = tt
scope_slots slots earlier (one ∷ others) all = (all.0, scope_slots slots (earlier ++ one ∷ []) others all.1)

procedure_at : (slots : List Slot) (k i : ℕ) (procedures : List ProcedureDeclaration) (procedure : ProcedureDeclaration)
    → AllByRecursion (HasDeclaredSlot slots) (procedures_from k procedures) → slice_get procedures i ≡ Some procedure
    → slice_get slots procedure.name.id ≡ Some (Procedure (k + i))
procedure_at slots k i [] procedure all there = absurd (cc)
procedure_at slots k zero (one ∷ others) procedure all there =
    let number : k ≡ k + zero = omega arith in
    ap (λ z. slice_get slots z.name.id) (sym (some_same there)) ∙ all.0 ∙ ap (λ n. Some (Procedure n)) number
procedure_at slots k (suc i) (one ∷ others) procedure all there =
    let number : k + 1 + i ≡ k + suc i = omega arith in
    procedure_at slots (k + 1) i others procedure all.1 there ∙ ap (λ n. Some (Procedure n)) number

module _ (tree : Tree) (slots : List Slot) (are : AreSlots tree slots) where
  -- the slot of a procedure that is declared is its number
  declared_process : (p : ℕ) (process : ProcessDeclaration) → slice_get tree.processes p ≡ Some process
      → AllByRecursion (HasDeclaredSlot slots) (procedures_from 0 process.procedures)
  declared_process p process there =
      let P = HasItsSlot slots in
      let sites = process_sites tree.edition (in_program tree) in
      let Each : ProcessDeclaration → Type 0 = λ one. AllByRecursion P (sites one) in
      let all = (tree_parts P tree (recursion_from_All P (tree_sites tree) are.each)).processes in
      let own = all_at Each tree.processes p process (all_parts P sites Each tree.processes (λ one h. h) all) there in
      let scope = scope_slots slots [] (process_scope process) (all_split P (scope_sites [] (process_scope process)) _ own).0 in
      (all_split (HasDeclaredSlot slots) (variables_from Global 0 process.variables) (procedures_from 0 process.procedures) scope).1

  declared_procedure : (o : Option ProcessDeclaration) (p i : ℕ) (procedure : ProcedureDeclaration) → slice_get tree.processes p ≡ o
      → slice_get (procedures_of o) i ≡ Some procedure → slice_get slots procedure.name.id ≡ Some (Procedure i)
  declared_procedure None p i procedure there found = absurd (cc)
  declared_procedure (Some process) p i procedure there found =
      let number : 0 + i ≡ i = omega arith in
      procedure_at slots 0 i process.procedures procedure (declared_process p process there) found ∙ ap (λ n. Some (Procedure n)) number

  -- so one declaration has one number
  pub one_number : (p i j : ℕ) (procedure other : ProcedureDeclaration) → procedure ≡ other
      → slice_get (procedures_of (slice_get tree.processes p)) i ≡ Some procedure
      → slice_get (procedures_of (slice_get tree.processes p)) j ≡ Some other → Some (Procedure i) ≡ Some (Procedure j)
  one_number p i j procedure other same first second =
      sym (declared_procedure (slice_get tree.processes p) p i procedure refl first)
      ∙ ap (λ z. slice_get slots z.name.id) same
      ∙ declared_procedure (slice_get tree.processes p) p j other refl second

module _ (slots others : List Slot) where
  -- both lists say the same of a name
  abbrev pub SameSlot : Identifier → Type 0
  SameSlot name = slice_get slots name.id ≡ slice_get others name.id

  pub scalar_slot_same : (frames : Frames) (name : Identifier) → IsScalar slots frames name → IsScalar others frames name → SameSlot name
  scalar_slot_same frames name is it =
      is.slot ∙ ap (λ at. Some (scalar_slot at)) (some_same (sym is.found ∙ it.found)) ∙ sym it.slot

  pub array_slot_same : (frames : Frames) (name : Identifier) → IsArray slots frames name → IsArray others frames name → SameSlot name
  array_slot_same frames name is it =
      is.slot ∙ ap (λ at. Some (array_slot at)) (some_same (sym is.found ∙ it.found)) ∙ sym it.slot

  value_by : (o : Option ℕ) (frames : Frames) (name : Identifier) → IsValueBy o slots frames name → IsValueBy o others frames name → SameSlot name
  value_by None frames name is it = scalar_slot_same frames name is it
  value_by (Some k) frames name is it = is.0 ∙ sym it.0

  pub value_slot_same : (frames : Frames) (name : Identifier) → IsValue slots frames name → IsValue others frames name → SameSlot name
  value_slot_same frames name is it = value_by (counter_among frames.counters name.text) frames name is it

  pub channel_slot_same : (tree : Tree) (name : Identifier) → IsChannel tree slots name → IsChannel tree others name → SameSlot name
  channel_slot_same tree name is it = is.slot ∙ sym it.slot

  pub procedure_slot_same : (tree : Tree) (p n : ℕ) (name : Identifier) → AreSlots tree slots → IsProcedure tree slots p name n
      → IsProcedure tree others p name n → SameSlot name
  procedure_slot_same tree p n name are is it =
      is.slot ∙ one_number tree slots are p is.number it.number is.procedure it.procedure (some_same (sym is.found ∙ it.found)) is.there it.there
      ∙ sym it.slot
