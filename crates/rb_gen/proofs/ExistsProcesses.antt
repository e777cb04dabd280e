-- The code of a whole program can be put together.
use Rattle.std.proofs.Common.{◌≡◌, ℕ, zero, suc, ◌+◌, ◌<◌, ◌≤◌, List, [], ◌∷◌, length, map, replicate, None, ◌⊎◌, inl, inr, refl, ap, ◌∙◌, subst, arith}
use Rattle.std.specs.Prelude.{get_or}
use Rattle.std.proofs.lemmas.List.{length-replicate}
use Rattle.std.proofs.lemmas.Option.{slice_get-get_or}
use Rattle.rb_syntax.specs.Tree.{Body, Scope, ProcedureDeclaration, ProcessDeclaration, Tree}
use Rattle.rb_syntax.specs.Numbered.{IsNumbered, blocks_in_body, blocks_in_process, blocks_in_processes, blocks_in_procedures}
use Rattle.rb_meaning.specs.Environment.{frame_of, frame_words}
use Rattle.rb_meaning.specs.Groups.{channels_of}
use Rattle.rb_meaning.specs.Meaning.{naming_of}
use Rattle.rb_meaning.specs.Step.{commands_of}
use Rattle.rb_world.specs.Kind.{Ends}
use Rattle.rb_scope.specs.InFrames.{ProcessInFrames, Resolved}
use Rattle.rb_scope.specs.declared.slot.Slot.{Slot}
use Rattle.rb_code.specs.declared.instr.Instr.{Instr}
use Rattle.rb_code.specs.declared.instr.Instr.TheVariants.{Done, Fail, Return}
use Rattle.rb_code.specs.Instructions.Plain.{Block, Code, Part, Procedure}
use Rattle.rb_code.specs.Agreement.Template.{One, ◌⨾◌}
use Rattle.rb_code.specs.Agreement.Forms.{CommandsCode, ProceduresCode}
use Rattle.rb_code.specs.Agreement.StandsFor.{ProcessesCode, StandsFor, channels_from}
use Rattle.rb_draft.specs.Output.{Output, added, as_it_is, linked, linked_to, patched}
use Rattle.rb_draft.specs.Emits.{Emits}
use Rattle.rb_gen.specs.Given.{BodyGiven, ProcessesGiven}
use Rattle.rb_gen.specs.Writes.{HasParts, IsLinked, ProcessTemplate, Setting, WritesProcedures, WritesProcess, WritesProcesses, room_of}
use Rattle.rb_draft.proofs.Emits.{both, upto}
use Rattle.rb_gen.proofs.Exists.{add}
use Rattle.rb_gen.proofs.ExistsStatements.{commands_made}
use Rattle.rb_gen.proofs.GivenParts.{processes_given}
use Rattle.rb_draft.proofs.Growing.{follows_self}
use Rattle.rb_gen.proofs.LinkSteps.{IsLinkedTo, linked_all, linked_init, linked_step}
use Rattle.rb_gen.proofs.ProcessRows.{part_there, process_row, whole_code}

-- ---- linking

-- so many instructions from an address on are linked
linked_some : (procedures : List Procedure) (from : ℕ) (o : Output) (k : ℕ) → from + k ≤ length o.instrs
    → (d : Output) × IsLinkedTo procedures from (from + k) o d
linked_some procedures from o zero h = (o, subst (λ (n : ℕ). IsLinkedTo procedures from n o o) (omega arith) (linked_init procedures from o))
linked_some procedures from o (suc k) h =
    let before = linked_some procedures from o k (omega arith) in
    let x : Instr = get_or before.0.instrs (from + k) Fail in
    let inside : from + k < length before.0.instrs = omega (arith, before.1.long) in
    let d = patched before.0 (from + k) (linked_to procedures x) in (
      d,
      subst (λ (n : ℕ). IsLinkedTo procedures from n o d) (omega arith)
          (linked_step procedures from (from + k) x inside (slice_get-get_or before.0.instrs (from + k) Fail inside) refl before.1),
    )

-- what is to be added to reach a number, or it is reached already
rest_to : (m n : ℕ) → ((k : ℕ) × (m + k ≡ n)) ⊎ (n ≤ m)
rest_to zero n = inl (n, omega arith)
rest_to (suc m) zero = inr (omega arith)
rest_to (suc m) (suc n) = by (rest_to m n)
  where
    by : ((k : ℕ) × (m + k ≡ n)) ⊎ (n ≤ m) → ((k : ℕ) × (suc m + k ≡ suc n)) ⊎ (suc n ≤ suc m)
    by (inl (k, e)) = inl (k, omega (arith, e))
    by (inr h) = inr (omega (arith, h))

linked_made : (procedures : List Procedure) (from : ℕ) (o : Output) → (d : Output) × IsLinked procedures from o d
linked_made procedures from o = by (rest_to from (length o.instrs))
  where
    by : ((k : ℕ) × (from + k ≡ length o.instrs)) ⊎ (length o.instrs ≤ from) → (d : Output) × IsLinked procedures from o d
    by (inl (k, e)) = let l =
        linked_some procedures from o k (omega (arith, e)) in (l.0, linked_all procedures from (from + k) (omega (arith, e)) l.1)
    by (inr h) = (o, linked_all procedures from from h (linked_init procedures from o))

-- ---- procedures

module _ (slots : List Slot) (words : List ℕ) where
  -- the statements of a procedure
  inside_made : (x : Body) (c : Output)
      → (d : Output) ×
      ((s : Setting words) (n : ℕ) → BodyGiven s.tree slots n x
      → Emits (linked s.owner.number) n (n + blocks_in_body x) (CommandsCode s.tree slots s.owner (commands_of x)) c d)
  inside_made (Scope variables commands) c = commands_made slots words commands c

  procedures_made : (x : List ProcedureDeclaration) (c : Output)
      → (entries : List Procedure) × (d : Output) × WritesProcedures slots words x entries c d
  procedures_made [] c = ([], c, λ s n g. upto (record { follows = follows_self n c; stands = λ w i. (refl, refl) }) (omega arith))
  procedures_made (procedure ∷ others) c =
      let m = inside_made procedure.body c in
      let o = procedures_made others (added Return m.0) in
      let entry : Procedure = record { name = procedure.name.text; start = length c.instrs } in (
        entry ∷ o.0,
        o.1,
        λ s n (g, k).
            let all : Emits (linked s.owner.number) n ((n + blocks_in_body procedure.body) + blocks_in_procedures others)
            (CommandsCode s.tree slots s.owner
            (commands_of procedure.body) ⨾ One Return ⨾ ProceduresCode s.tree slots s.owner others o.0) c o.1 =
            both (m.1 s n g)
            (both (add Return refl (λ j w. refl) m.0 s.owner.number (n + blocks_in_body procedure.body))
            (o.2 s (n + blocks_in_body procedure.body) k)) in
            upto (record { follows = all.follows; stands = λ w i. (o.0, refl, all.stands w i) }) (omega arith),
      )

-- ---- processes

process_made : (slots : List Slot) (process : ProcessDeclaration) (c : Output)
    → (entries : List Procedure) × (d : Output) × WritesProcess slots process entries c d
process_made slots process c =
    let words = map room_of process.procedures in
    let m = commands_made slots words process.commands c in
    let k = procedures_made slots words process.procedures (added Done m.0) in
    let l = linked_made k.0 (length c.instrs) k.1 in
    (k.0, l.0, process_row slots words process k.0 refl m.1 (add Done refl (λ j w. refl) m.0) k.2 l.1)

module _ (slots : List Slot) (ends : List Ends) where
  processes_made : (p : ℕ) (x : List ProcessDeclaration) (c : Output) → (parts : List Part) × (d : Output) × WritesProcesses slots ends p x parts c d
  processes_made p [] c = ([], c, λ tree known n g. upto (record { follows = follows_self n c; stands = λ w i there. (refl, refl) }) (omega arith))
  processes_made p (process ∷ others) c =
      let m = process_made slots process c in
      let o = processes_made (p + 1) others m.1 in
      let part : Part = record {
        start = length c.instrs;
        words = frame_words (frame_of process.variables);
        channels = channels_from p 0 ends;
        procedures = m.0;
      } in (
        part ∷ o.0,
        o.1,
        λ tree known n (g, k).
            let first : Emits as_it_is n (n + blocks_in_process process) (ProcessTemplate tree slots p process m.0) c m.1 = m.2 tree p n g in
            let behind : Emits as_it_is (n + blocks_in_process process)
            ((n + blocks_in_process process) + blocks_in_processes others)
            (λ w a b. HasParts (p + 1) o.0 w → ProcessesCode tree slots (p + 1) others o.0 w a b) m.1 o.1 =
            o.2 tree known (n + blocks_in_process process) k in
            let all = both first behind in
            upto (record {
              follows = all.follows;
              stands = λ w i (there, others_there).
                  let (q, body, rest) = all.stands w i in (
                    part,
                    o.0,
                    refl,
                    (
                      q,
                      (
                        record { start_is = refl; words_are = refl; channels_are = ap (channels_from p 0) known },
                        body (ap (λ x. x.procedures) (part_there w p part there)),
                      ),
                      rest others_there,
                    ),
                  );
            }) (omega arith),
      )

-- ---- the whole program

no_block : Block
no_block = record { line = 0; conversation = None; bound = 0; restart = 0; test = 0; alternates = [] }

pub code_exists : (tree : Tree) (slots : List Slot) → Resolved tree slots → IsNumbered tree → (c : Code) × StandsFor tree slots c
code_exists tree slots resolved numbered =
    let start : Output = record { instrs = []; texts = []; blocks = replicate tree.blocks no_block } in
    let made = processes_made slots (channels_of tree) 0 tree.processes start in
    let parts = made.0 in
    let end = made.1 in
    let c : Code = record {
      edition = tree.edition;
      instrs = end.instrs;
      processes = parts;
      blocks = end.blocks;
      channels = channels_of tree;
      texts = end.texts;
      names = naming_of tree;
    } in
    let given : ProcessesGiven tree slots 0 tree.processes = processes_given tree slots 0 0 tree.processes numbered.processes
    (λ i process is. subst (λ (k : ℕ). ProcessInFrames tree slots k process) (omega arith) (resolved.processes i process is)) in
    let emits : Emits as_it_is 0 (0 + blocks_in_processes tree.processes)
    (λ w a b. HasParts 0 parts w → ProcessesCode tree slots 0 tree.processes parts w a b) start end =
    made.2 tree refl 0 given in
    let many : 0 + blocks_in_processes tree.processes ≡ length start.blocks =
    omega (arith, numbered.blocks, length-replicate tree.blocks no_block) in (
      c,
      record {
        edition_is = refl;
        names_are = refl;
        channels_are = refl;
        instrs_are = whole_code c (0 + blocks_in_processes tree.processes) parts emits refl many refl refl refl refl;
        one_block_each = emits.follows.blocks.long ∙ length-replicate tree.blocks no_block;
        one_text_each = emits.follows.numbered refl;
      },
    )
