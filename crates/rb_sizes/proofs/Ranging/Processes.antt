-- The numbers in the code of all processes of a tree without faults are small.
use Rattle.std.proofs.Common.{◌≡◌, ℕ, zero, suc, ◌+◌, ◌<◌, ◌≤◌, ◌^◌, List, [], ◌∷◌, length, slice_get, Some, arith}
use Rattle.std.specs.List.{flat_map}
use Rattle.rb_syntax.specs.Tree.{Identifier, Body, Scope, Declaration, ProcedureDeclaration, ProcessDeclaration, Tree}
use Rattle.rb_meaning.specs.Environment.{frame_of, frame_words}
use Rattle.rb_meaning.specs.Step.{commands_of, variables_of}
use Rattle.rb_scope.specs.Resolved.{IsResolved}
use Rattle.rb_scope.specs.Scopes.{parameters_from, variables_from, variables_in}
use Rattle.rb_scope.specs.Sites.{Spot, in_program, procedure_sites, process_sites, size_sites}
use Rattle.rb_scope.specs.declared.slot.Slot.{Slot}
use Rattle.rb_scope.specs.declared.slot.Slot.TheVariants.{Local}
use Rattle.rb_scope.proofs.EachSite.{AreSettled, IsSettled, all_append, all_settled, all_split}
use Rattle.rb_scope.proofs.PartsOfTrees.{procedure_parts, process_parts, tree_parts, within_procedure, within_process}
use Rattle.rb_code.specs.Instructions.Plain.{Code, Part, Procedure}
use Rattle.rb_code.specs.Agreement.Forms.{CommandsCode, Owner, ProceduresCode, procedure_words}
use Rattle.rb_code.specs.Agreement.StandsFor.{ProcessCode, ProcessesCode, StandsFor}
use Rattle.rb_code.specs.declared.instr.Instr.{Instr}
use Rattle.rb_code.specs.declared.instr.Instr.TheVariants as instr
use Rattle.rb_image.specs.Ranges.{IsNatural}
use Rattle.rb_sizes.proofs.Weighing.Weights.{body_weight, procedures_weight, process_weight, processes_weight, weight}
use Rattle.rb_sizes.proofs.Ranging.Kept.{IsSmall, Keeps, one, ◌then◌}
use Rattle.rb_sizes.proofs.Ranging.Slots.{AreFew, DeclaresFew, locals_few, parameters_few, process_few, program_few, words_in_few}
use Rattle.rb_sizes.proofs.Ranging.Statements.{OwnerFits, block_words, commands_keep}

-- the words of each procedure
procedures_fit : (slots : List Slot) (spot : Spot) (procedures : List ProcedureDeclaration)
    → AreSettled slots (flat_map (procedure_sites spot) procedures) → procedures_weight procedures ≤ 2 ^ 20
    → (number : ℕ) → IsNatural (procedure_words procedures number)
procedures_fit slots spot [] settled light number = omega arith
procedures_fit slots spot (procedure ∷ others) settled light zero =
    let parts = all_split (IsSettled slots) (procedure_sites spot procedure) _ settled in
    own procedure.body (procedure_parts (IsSettled slots) spot procedure parts.0).sizes (omega arith)
  where
    own : (body : Body) → AreSettled slots (flat_map (λ (one : Declaration). size_sites one.size) (variables_in body)) → body_weight body ≤ 2 ^ 20
        → frame_words (frame_of (variables_of body)) < 2 ^ 32
    own (Scope variables commands) sizes light = let words = block_words slots variables sizes in omega arith
procedures_fit slots spot (procedure ∷ others) settled light (suc number) =
    let parts = all_split (IsSettled slots) (procedure_sites spot procedure) (flat_map (procedure_sites spot) others) settled in
    procedures_fit slots spot others parts.1 (omega arith) number

module _ {c : Code} (tree : Tree) (slots : List Slot) where
  -- the statements of a procedure: its parameters and its variables are one scope
  procedure_keeps : (owner : Owner) → OwnerFits owner → (spot : Spot) → AreFew spot.scopes → spot.taken ≡ 0
      → (name : Identifier) (parameters : List Identifier) (body : Body)
      → AreSettled slots (procedure_sites spot (record { name = name; parameters = parameters; body = body })) → length parameters + body_weight body ≤ 2 ^ 20
      → Keeps c (CommandsCode tree slots owner (commands_of body))
  procedure_keeps owner fits spot around start name parameters (Scope variables commands) settled light =
      let procedure : ProcedureDeclaration = record { name = name; parameters = parameters; body = Scope variables commands } in
      let parts = procedure_parts (IsSettled slots) spot procedure settled in
      let words = words_in_few variables in
      let own =
      all_append DeclaresFew (parameters_from 0 parameters) (variables_from Local (length parameters) variables)
      (parameters_few 0 parameters (omega arith)) (locals_few (length parameters) variables (omega arith)) in
      commands_keep tree slots owner fits commands (within_procedure procedure spot) parts.commands (own, around) (omega arith)

  procedures_keep : (owner : Owner) → OwnerFits owner → (spot : Spot) → AreFew spot.scopes → spot.taken ≡ 0
      → (procedures : List ProcedureDeclaration) (entries : List Procedure)
      → AreSettled slots (flat_map (procedure_sites spot) procedures) → procedures_weight procedures ≤ 2 ^ 20
      → Keeps c (ProceduresCode tree slots owner procedures entries)
  procedures_keep owner fits spot around start [] entries settled light = record {
    up = λ a b p. (let e = p.1 in omega arith);
    each = λ a b p k i low high there. absurd (let e = p.1 in omega arith);
  }
  procedures_keep owner fits spot around start (procedure ∷ others) entries settled light =
      let parts = all_split (IsSettled slots) (procedure_sites spot procedure) (flat_map (procedure_sites spot) others) settled in
      let first = procedure_keeps owner fits spot around start procedure.name procedure.parameters procedure.body parts.0 (omega arith) in record {
        up = λ a b (more, is, p).
            (first then one instr.Return tt then procedures_keep owner fits spot around start others more parts.1 (omega arith)).up a b p;
        each = λ a b (more, is, p).
            (first then one instr.Return tt then procedures_keep owner fits spot around start others more parts.1 (omega arith)).each a b p;
      }

  process_keeps : (p : ℕ) (process : ProcessDeclaration) (part : Part)
      → AreSettled slots (process_sites tree.edition (in_program tree) process) → process_weight process ≤ 2 ^ 20
      → Keeps c (ProcessCode tree slots p process part)
  process_keeps p process part settled light =
      let owner : Owner = record { number = p; procedures = process.procedures } in
      let spot = within_process process (in_program tree) in
      let parts = process_parts (IsSettled slots) tree.edition (in_program tree) process settled in
      let around : AreFew spot.scopes = (process_few process (omega arith), (program_few tree, tt)) in
      let fits = procedures_fit slots spot process.procedures parts.procedures (omega arith) in
      let all =
      commands_keep {c = c} tree slots owner fits process.commands spot parts.commands around (omega arith) then one instr.Done tt
      then procedures_keep owner fits spot around (omega arith) process.procedures part.procedures parts.procedures (omega arith) in record {
        up = λ a b (tells, code). all.up a b code;
        each = λ a b (tells, code). all.each a b code;
      }

  processes_keep : (p : ℕ) (processes : List ProcessDeclaration) (parts : List Part)
      → AreSettled slots (flat_map (process_sites tree.edition (in_program tree)) processes) → processes_weight processes ≤ 2 ^ 20
      → Keeps c (ProcessesCode tree slots p processes parts)
  processes_keep p [] parts settled light = record {
    up = λ a b q. (let e = q.1 in omega arith);
    each = λ a b q k i low high there. absurd (let e = q.1 in omega arith);
  }
  processes_keep p (process ∷ others) parts settled light =
      let split =
      all_split (IsSettled slots) (process_sites tree.edition (in_program tree) process) (flat_map (process_sites tree.edition (in_program tree)) others)
      settled in record {
        up = λ a b (part, more, is, q).
            (process_keeps p process part split.0 (omega arith) then processes_keep (p + 1) others more split.1 (omega arith)).up a b q;
        each = λ a b (part, more, is, q).
            (process_keeps p process part split.0 (omega arith) then processes_keep (p + 1) others more split.1 (omega arith)).each a b q;
      }

-- all instructions of the code of a tree whose names have slots
pub all_small : (tree : Tree) (slots : List Slot) (c : Code) → IsResolved tree slots → weight tree ≤ 2 ^ 20 → StandsFor tree slots c
    → (k : ℕ) (i : Instr) → slice_get c.instrs k ≡ Some i → k < length c.instrs → IsSmall i
all_small tree slots c resolved light stands k i there within_code =
    let parts = tree_parts (IsSettled slots) tree (all_settled tree slots resolved) in
    (processes_keep {c = c} tree slots 0 tree.processes c.processes parts.processes (omega arith)).each 0 (length c.instrs) stands.instrs_are k i
    (omega arith) within_code there
