-- In code that stands for a resolved tree each procedure stands at its first address.
use Rattle.std.proofs.Common.{◌≡◌, ℕ, zero, suc, List, [], ◌∷◌, length, option_map, slice_get, unwrap_or, Option, Some, None, refl, sym, ap, ◌∙◌, subst}
use Rattle.rb_world.proofs.ListFacts.{none_some, some_same}
use Rattle.rb_syntax.specs.Tree.{ProcedureDeclaration, ProcessDeclaration, Tree}
use Rattle.rb_meaning.specs.Environment.{frame_of}
use Rattle.rb_meaning.specs.Groups.{procedures_of}
use Rattle.rb_meaning.specs.Step.{commands_of}
use Rattle.rb_scope.specs.Frames.{Frames, call_shape, procedure_frames, shape_of}
use Rattle.rb_scope.specs.InFrames.{CommandsInFrames, ProcedureInFrames, Resolved}
use Rattle.rb_scope.specs.declared.slot.Slot.{Slot}
use Rattle.rb_code.specs.Instructions.Plain.{Code, Part, Procedure}
use Rattle.rb_code.specs.WordMachine.Workspace.{no_part}
use Rattle.rb_code.specs.Agreement.Forms.{Owner, procedure_start}
use Rattle.rb_code.specs.Agreement.StandsFor.{StandsFor}
use Rattle.rb_code.specs.declared.instr.Instr.TheVariants.{Return}
use Rattle.rb_code.proofs.Agreeing.Placed.{CommandsPlaced, ProceduresPlaced}
use Rattle.rb_code.proofs.Agreeing.TextLeft.{frames_at, owner_of, variables_of_process}
use Rattle.rb_code.proofs.Agreeing.Calls.{IsCallee}
use Rattle.rb_code.proofs.Agreeing.StepComes.{HasCallees}
use Rattle.rb_code.proofs.WholeRuns.Openings.{AsMany, parts_stand}
use Rattle.rb_code.proofs.WholeRuns.ProcessesBegin.{all_there, stands_at}

-- where one list has an element, the other has one
part_for : (processes : List ProcessDeclaration) (parts : List Part) (p : ℕ) (process : ProcessDeclaration)
    → AsMany processes parts → slice_get processes p ≡ Some process
    → (part : Part) × (slice_get parts p ≡ Some part)
part_for [] parts p process many e = absurd (none_some e)
part_for (one ∷ processes) [] p process many e = absurd many
part_for (one ∷ processes) (part ∷ parts) zero process many e = (part, refl)
part_for (one ∷ processes) (part ∷ parts) (suc p) process many e = part_for processes parts p process many.1 e

-- a procedure of a list stands at the address of its entry
pub record StandsThere (tree : Tree) (slots : List Slot) (owner : Owner) (c : Code) (entries : List Procedure) (number : ℕ)
    (procedure : ProcedureDeclaration) : Type 0 where
  pub entry : Procedure
  pub listed : slice_get entries number ≡ Some entry
  pub end : ℕ
  pub commands : CommandsPlaced tree slots owner (commands_of procedure.body) c entry.start end
  pub return : slice_get c.instrs end ≡ Some Return

procedure_there : (tree : Tree) (slots : List Slot) (owner : Owner) (c : Code) (procedures : List ProcedureDeclaration)
    (entries : List Procedure) (a b number : ℕ)
    (procedure : ProcedureDeclaration) → ProceduresPlaced tree slots owner procedures entries c a b → slice_get procedures number ≡ Some procedure
    → StandsThere tree slots owner c entries number procedure
procedure_there tree slots owner c [] entries a b number procedure code e = absurd (none_some e)
procedure_there tree slots owner c (one ∷ others) entries a b zero procedure (more, is, (d, commands, (f, return, rest))) e =
    let first : Procedure = record { name = one.name.text; start = a } in
    record {
      entry = first;
      listed = ap (λ (list : List Procedure). slice_get list 0) is;
      end = d;
      commands = subst (λ (x : ProcedureDeclaration). CommandsPlaced tree slots owner (commands_of x.body) c a d) (some_same e) commands;
      return = return.0;
    }
procedure_there tree slots owner c (one ∷ others) entries a b (suc number) procedure (more, is, (d, commands, (f, return, rest))) e =
    let there = procedure_there tree slots owner c others more f b number procedure rest e in
    record {
      entry = there.entry;
      listed = ap (λ (list : List Procedure). slice_get list (suc number)) is ∙ there.listed;
      end = there.end;
      commands = there.commands;
      return = there.return;
    }

module _ (tree : Tree) (slots : List Slot) (c : Code) (stands : StandsFor tree slots c) (resolved : Resolved tree slots) where
  callee : (p number : ℕ) (procedure : ProcedureDeclaration) (o : Option ProcessDeclaration) → slice_get tree.processes p ≡ o
      → slice_get (procedures_of o) number ≡ Some procedure → IsCallee tree slots c p number procedure
  callee p number procedure None there e = absurd (none_some e)
  callee p number procedure (Some process) there e =
      let part = part_for tree.processes c.processes p process
      (parts_stand tree slots c 0 0 (length c.instrs) tree.processes c.processes stands.instrs_are) there in
      let at = stands_at tree slots c stands p process part.0 there part.1 in
      let mine : Owner = record { number = p; procedures = process.procedures } in
      let owner_is : owner_of tree p ≡ mine = ap (λ o. let one : Owner = record { number = p; procedures = procedures_of o } in one) there in
      let frames_are : frames_at tree p (call_shape procedure ∷ []) ≡ procedure_frames process procedure =
      ap (λ o. record (procedure_frames process procedure) { globals = shape_of (frame_of (variables_of_process o)) }) there in
      let code = at.code.1 in
      let found = procedure_there tree slots mine c process.procedures part.0.procedures code.2.0 at.to number procedure code.2.2 e in
      let start : procedure_start c p number ≡ found.entry.start =
      ap (λ o. unwrap_or (option_map (λ (one : Procedure). one.start) (slice_get (unwrap_or o no_part).procedures number)) 0) part.1
      ∙ ap (λ o. unwrap_or (option_map (λ (one : Procedure). one.start) o) 0) found.listed in
      let inside : ProcedureInFrames tree slots p process procedure =
      all_there (ProcedureInFrames tree slots p process) process.procedures number procedure (resolved.processes p process there).procedures e in
      record {
        end = found.end;
        commands = subst (λ (a : ℕ). CommandsPlaced tree slots (owner_of tree p) (commands_of procedure.body) c a found.end) (sym start)
            (subst
            (λ (owner : Owner). CommandsPlaced tree slots owner (commands_of procedure.body) c found.entry.start found.end)
            (sym owner_is) found.commands);
        return = found.return;
        in_frames = subst (λ (frames : Frames). CommandsInFrames tree slots p frames (commands_of procedure.body)) (sym frames_are) inside;
      }

  pub has_callees : HasCallees tree slots c
  has_callees p number procedure e = callee p number procedure (slice_get tree.processes p) refl e
