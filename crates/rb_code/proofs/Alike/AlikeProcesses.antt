-- The code of processes determines what it is, the list of processes, and the entries of the recovery blocks.
use Rattle.std.proofs.Common.{◌≡◌, ℕ, ◌+◌, List, [], ◌∷◌, refl, ap, sym, ◌∙◌, arith}
use Rattle.rb_syntax.specs.Tree.{Body, Scope, ProcedureDeclaration, ProcessDeclaration, Tree}
use Rattle.rb_syntax.specs.Numbered.{BodyNumbered, ProceduresNumbered, ProcessNumbered, ProcessesNumbered, blocks_in, blocks_in_body, blocks_in_procedures, blocks_in_process, blocks_in_processes}
use Rattle.rb_meaning.specs.Step.{commands_of}
use Rattle.rb_scope.specs.declared.slot.Slot.{Slot}
use Rattle.rb_code.specs.Instructions.Plain.{Code, Part, Procedure}
use Rattle.rb_code.specs.Agreement.Template.{Template, One, ◌⨾◌}
use Rattle.rb_code.specs.Agreement.Forms.{CommandsCode, Owner, ProceduresCode}
use Rattle.rb_code.specs.Agreement.StandsFor.{ProcessCode, ProcessesCode}
use Rattle.rb_code.specs.declared.instr.Instr.TheVariants as instr
use Rattle.rb_code.proofs.Alike.AlikeCode.{Same, fixed_one, same_closed, same_entries, same_only, same_then}
use Rattle.rb_code.proofs.Alike.AlikeParts.{SameStarts}
use Rattle.rb_code.proofs.Alike.AlikeStatements.{SameBlocks, Statement, both_blocks, commands_alike, no_blocks}

-- two entries with the same fields are the same
process_entry : ℕ → ℕ → List ℕ → List Procedure → Part
process_entry start words channels procedures = record { start = start; words = words; channels = channels; procedures = procedures }

part_same : (one other : Part) → one.start ≡ other.start → one.words ≡ other.words → one.channels ≡ other.channels
    → one.procedures ≡ other.procedures → one ≡ other
unfolding process_entry
part_same one other start words channels procedures =
    ap (λ x. process_entry x one.words one.channels one.procedures) start
    ∙ ap (λ x. process_entry other.start x one.channels one.procedures) words
    ∙ ap (λ x. process_entry other.start other.words x one.procedures) channels
    ∙ ap (λ x. process_entry other.start other.words other.channels x) procedures

module _ (c d : Code) (tree : Tree) (slots : List Slot) where
  -- the statements of a procedure
  procedure_alike : (owner : Owner) (n : ℕ) (body : Body) → BodyNumbered n body
      → Statement c d n (n + blocks_in_body body) (CommandsCode tree slots owner (commands_of body))
  procedure_alike owner n (Scope variables commands) numbered = commands_alike c d tree slots owner n commands numbered

  -- procedures, and the list of them
  procedures_alike : (owner : Owner) (n : ℕ) (procedures : List ProcedureDeclaration) → ProceduresNumbered n procedures
      → (entries others : List Procedure)
      → Same c d (SameStarts c d) ((entries ≡ others) × SameBlocks c d n (n + blocks_in_procedures procedures))
      (ProceduresCode tree slots owner procedures entries) (ProceduresCode tree slots owner procedures others)
  procedures_alike owner n [] numbered entries others =
      same_closed c d (same_only c d (entries ≡ []) (others ≡ []) (λ e f. e ∙ sym f))
      (λ starts t. tt) (λ e. (e, no_blocks c d n (n + 0) (omega arith)))
  procedures_alike owner n (procedure ∷ rest) numbered entries others =
      same_entries c d (λ a. record { name = procedure.name.text; start = a }) entries others
      (λ more. CommandsCode tree slots owner (commands_of procedure.body) ⨾ One instr.Return ⨾ ProceduresCode tree slots owner rest more)
      (λ more. CommandsCode tree slots owner (commands_of procedure.body) ⨾ One instr.Return ⨾ ProceduresCode tree slots owner rest more)
      (λ more less.
      same_closed c d
      (same_then c d (procedure_alike owner n procedure.body numbered.0)
      (same_then c d (fixed_one c d instr.Return refl)
      (procedures_alike owner (n + blocks_in_body procedure.body) rest numbered.1 more less)))
      (λ starts t. (starts, (tt, starts)))
      (λ (these, (t1, (e, those))). (e, both_blocks c d n (blocks_in_body procedure.body) (blocks_in_procedures rest) these those)))

  -- a process, and its entry
  process_alike : (n p : ℕ) (process : ProcessDeclaration) → ProcessNumbered n process → (one other : Part)
      → Same c d (SameStarts c d) ((one ≡ other) × SameBlocks c d n (n + blocks_in_process process))
      (ProcessCode tree slots p process one) (ProcessCode tree slots p process other)
  process_alike n p process numbered one other = record {
    ends = λ a b x y at (t, code) (u, other_code). parts.ends a b x y at code other_code;
    told = λ a b x y at (t, code) (u, other_code).
        let told = parts.told a b x y at code other_code in (
          part_same one other (t.start_is ∙ at ∙ sym u.start_is) (t.words_are ∙ sym u.words_are) (t.channels_are ∙ sym u.channels_are) told.0,
          told.1,
        );
    alike = λ starts a b x y at (t, code) (u, other_code). parts.alike starts a b x y at code other_code;
  }
    where
      owner : Owner
      owner = record { number = p; procedures = process.procedures }

      parts : Same c d (SameStarts c d) ((one.procedures ≡ other.procedures) × SameBlocks c d n (n + blocks_in_process process))
          (CommandsCode tree slots owner process.commands ⨾ One instr.Done ⨾ ProceduresCode tree slots owner process.procedures one.procedures)
          (CommandsCode tree slots owner process.commands ⨾ One instr.Done ⨾ ProceduresCode tree slots owner process.procedures other.procedures)
      parts =
          same_closed c d
          (same_then c d (commands_alike c d tree slots owner (n + blocks_in_procedures process.procedures) process.commands numbered.1)
          (same_then c d (fixed_one c d instr.Done refl)
          (procedures_alike owner n process.procedures numbered.0 one.procedures other.procedures)))
          (λ starts t. (starts, (tt, starts)))
          (λ (those, (t1, (e, these))). (e, both_blocks c d n (blocks_in_procedures process.procedures) (blocks_in process.commands) these those))

  -- one process more, and its entry first in the list
  process_more : (n i j : ℕ) (P : Part → Template) (R : List Part → Template)
      → ((one other : Part) → Same c d (SameStarts c d) ((one ≡ other) × SameBlocks c d n (n + i)) (P one) (P other))
      → ((more less : List Part) → Same c d (SameStarts c d) ((more ≡ less) × SameBlocks c d (n + i) (n + i + j)) (R more) (R less))
      → (parts others : List Part)
      → Same c d (SameStarts c d) ((parts ≡ others) × SameBlocks c d n (n + (i + j)))
      (λ e a b. (part : Part) × (more : List Part) × (parts ≡ part ∷ more) × (P part ⨾ R more) e a b)
      (λ e a b. (part : Part) × (more : List Part) × (others ≡ part ∷ more) × (P part ⨾ R more) e a b)
  process_more n i j P R f g parts others = record {
    ends = λ a b x y at (one, more, here, code) (other, less, there, other_code). (both one other more less).ends a b x y at code other_code;
    told = λ a b x y at (one, more, here, code) (other, less, there, other_code).
        let told = (both one other more less).told a b x y at code other_code in
        (here ∙ ap (λ z. z ∷ more) told.0.0 ∙ ap (λ z. other ∷ z) told.0.1 ∙ sym there, told.1);
    alike = λ starts a b x y at (one, more, here, code) (other, less, there, other_code).
        (both one other more less).alike starts a b x y at code other_code;
  }
    where
      both : (one other : Part) (more less : List Part)
          → Same c d (SameStarts c d) (((one ≡ other) × (more ≡ less)) × SameBlocks c d n (n + (i + j))) (P one ⨾ R more) (P other ⨾ R less)
      both one other more less =
          same_closed c d (same_then c d (f one other) (g more less)) (λ starts t. (starts, starts))
          (λ ((e, these), (h, those)). ((e, h), both_blocks c d n i j these those))

  pub processes_alike : (n p : ℕ) (processes : List ProcessDeclaration) → ProcessesNumbered n processes → (parts others : List Part)
      → Same c d (SameStarts c d) ((parts ≡ others) × SameBlocks c d n (n + blocks_in_processes processes))
      (ProcessesCode tree slots p processes parts) (ProcessesCode tree slots p processes others)
  processes_alike n p [] numbered parts others =
      same_closed c d (same_only c d (parts ≡ []) (others ≡ []) (λ e f. e ∙ sym f))
      (λ starts t. tt) (λ e. (e, no_blocks c d n (n + 0) (omega arith)))
  processes_alike n p (process ∷ rest) numbered parts others =
      process_more n (blocks_in_process process) (blocks_in_processes rest) (ProcessCode tree slots p process) (ProcessesCode tree slots (p + 1) rest)
      (λ one other. process_alike n p process numbered.0 one other)
      (λ more less. processes_alike (n + blocks_in_process process) (p + 1) rest numbered.1 more less) parts others
