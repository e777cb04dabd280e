-- The code of procedures, processes and programs, as it is put together.
use Rattle.std.proofs.Common.{◌≡◌, ℕ, ◌+◌, ◌<◌, List, [], ◌∷◌, ◌++◌, length, Option, Some, None, refl, sym, ap, ◌∙◌, subst, arith, append_assoc, map, length-append}
use Rattle.std.specs.Prelude.{slice_get, option_map}
use Rattle.std.specs.Option.{unwrap_or}
use Rattle.rb_syntax.specs.declared.program.Procedure.{Procedure as Held}
use Rattle.rb_syntax.specs.declared.statement.Statement.{Statement}
use Rattle.rb_syntax.specs.Plain.{commands_of as plain_commands, procedure_declaration}
use Rattle.rb_syntax.specs.Tree.{ProcedureDeclaration, ProcessDeclaration, Tree}
use Rattle.rb_syntax.specs.Numbered.{IsNumbered, blocks_in_body, blocks_in_process, blocks_in_processes, blocks_in_procedures, blocks_in}
use Rattle.rb_meaning.specs.Environment.{frame_of, frame_words}
use Rattle.rb_meaning.specs.Groups.{channels_of}
use Rattle.rb_meaning.specs.Meaning.{naming_of}
use Rattle.rb_meaning.specs.Step.{commands_of}
use Rattle.rb_world.specs.Kind.{Ends}
use Rattle.rb_scope.specs.InFrames.{ProcessInFrames, Resolved}
use Rattle.rb_scope.specs.declared.slot.Slot.{Slot}
use Rattle.rb_code.specs.declared.instr.Instr.{Instr}
use Rattle.rb_code.specs.declared.instr.Instr.TheVariants.{Done, Return}
use Rattle.rb_code.specs.WordMachine.Workspace.{no_part, part_of}
use Rattle.rb_code.specs.Instructions.Plain.{Code, Part, Procedure}
use Rattle.rb_code.specs.Agreement.Template.{Template, One, ◌⨾◌}
use Rattle.rb_code.specs.Agreement.Forms.{CommandsCode, ProceduresCode}
use Rattle.rb_code.specs.Agreement.StandsFor.{ProcessesCode, StandsFor, channels_from, numbers_from, text_numbers}
use Rattle.rb_draft.specs.Output.{Output, as_it_is, linked, linked_to}
use Rattle.rb_draft.specs.Emits.{Adds, Emits, Grows, Keeps, Settles}
use Rattle.rb_gen.specs.Given.{ProcessesGiven}
use Rattle.rb_draft.specs.Channels.{ends_by}
use Rattle.rb_gen.specs.Writes.{HasParts, IsLinked, ProcessTemplate, Setting, WritesCommands, WritesProcedures, WritesProcess, WritesProcesses, room_of}
use Rattle.rb_draft.proofs.Emits.{both, both_back, upto}
use Rattle.rb_draft.proofs.Growing.{append-none, follows_self}
use Rattle.rb_gen.proofs.GivenParts.{ends_given, processes_given}

same : {A : Type 0} (o : Option A) → option_map (λ x. x) o ≡ o
same None = refl
same (Some x) = refl

module _ (slots : List Slot) (words : List ℕ) where
  -- whatever stands for the procedures that are left completes those that are there
  abbrev pub CompletesProcedures : List ProcedureDeclaration → List ProcedureDeclaration → List Procedure → Output → Output → Type 0
  CompletesProcedures all rest entries o d =
      (after : Output) (more : List Procedure) → WritesProcedures slots words rest more d after
      → WritesProcedures slots words all (entries ++ more) o after

  pub procedures_step : (all others : List ProcedureDeclaration) (held : Held) {rest : List ProcedureDeclaration} {o d e f : Output} (start : ℕ)
      (entries entries' : List Procedure) → rest ≡ procedure_declaration held ∷ others → start ≡ length d.instrs → WritesCommands slots words
      (plain_commands held.block.body.items) d e → Adds (One Return) e f
      → entries' ≡ entries ++ (record { name = held.name.text.now; start = start } ∷ [])
      → CompletesProcedures all rest entries o d → CompletesProcedures all others entries' o f
  procedures_step all others held {o = o} {d = d} start entries entries' is here p q these completes = λ after more h.
      let procedure = procedure_declaration held in
      let entry : ℕ → Procedure = λ i. record { name = held.name.text.now; start = i } in
      let one : WritesProcedures slots words (procedure ∷ others) (entry start ∷ more) d after = λ s n (g, k).
      let all : Emits (linked s.owner.number) n ((n + blocks_in_body procedure.body) + blocks_in_procedures others)
      (CommandsCode s.tree slots s.owner (commands_of procedure.body) ⨾ One Return ⨾ ProceduresCode s.tree slots s.owner others more) d after =
      both (p s n g) (both (q s.owner.number (n + blocks_in_body procedure.body)) (h s (n + blocks_in_body procedure.body) k)) in
      upto (record { follows = all.follows; stands = λ w i. (more, ap (λ j. entry j ∷ more) here, all.stands w i) }) (omega arith) in
      let two : WritesProcedures slots words all (entries ++ (entry start ∷ more)) o after =
      completes after (entry start ∷ more) (subst (λ l. WritesProcedures slots words l (entry start ∷ more) d after) (sym is) one) in
      subst (λ xs. WritesProcedures slots words all xs o after) (sym (ap (λ xs. xs ++ more) these ∙ append_assoc entries (entry start ∷ []) more)) two

  pub procedures_end : (all : List ProcedureDeclaration) {rest : List ProcedureDeclaration} {o d : Output} (entries : List Procedure) → rest ≡ []
      → CompletesProcedures all rest entries o d → WritesProcedures slots words all entries o d
  procedures_end all {o = o} {d = d} entries is completes =
      let none : WritesProcedures slots words [] [] d d =
      λ s n g. upto (record { follows = follows_self n d; stands = λ w i. (refl, refl) }) (omega arith) in
      subst (λ xs. WritesProcedures slots words all xs o d) (append-none entries)
      (completes d [] (subst (λ l. WritesProcedures slots words l [] d d) (sym is) none))

-- a process, whose calls are linked
linked_process : (p m k : ℕ) (entries : List Procedure) {P : Template} {c d e : Output} → Emits (linked p) m k P c d
    → IsLinked entries (length c.instrs) d e → Emits as_it_is m k (λ w a b. (part_of w p).procedures ≡ entries → P w a b) c e
linked_process p m k entries {P = P} {c = c} {d = d} {e = e} emits links = record {
  follows = record {
    rises = emits.follows.rises;
    instrs = record {
      longer = omega (arith, links.long, emits.follows.instrs.longer);
      kept = λ i h. links.before i h ∙ emits.follows.instrs.kept i h;
    };
    texts = subst (λ xs. Grows c.texts xs) (sym links.texts) emits.follows.texts;
    blocks = subst (λ xs. Keeps m k c.blocks xs) (sym links.blocks) emits.follows.blocks;
    numbered = λ h. links.numbers ∙ emits.follows.numbered h ∙ ap (numbers_from 0) (sym links.texts);
  };
  stands = λ w i there.
      let stood : P w (length c.instrs) (length d.instrs) = emits.stands w record {
        instrs = record {
          has = λ j a b. i.instrs.has j a (omega (arith, links.long)) ∙ same (slice_get e.instrs j) ∙ links.behind j a b ∙ ap
              (λ l. option_map (linked_to l) (slice_get d.instrs j)) (sym there);
        };
        texts = record {
          has =
              λ j a b. subst (λ xs. (j < length xs → slice_get w.texts j ≡ option_map (λ t. t) (slice_get xs j))) links.texts
              (i.texts.has j a) b;
        };
        blocks = subst (λ xs. Settles m k xs w.blocks) links.blocks i.blocks;
      } in
      subst (λ j. P w (length c.instrs) j) (sym links.long) stood;
}

-- what is added is the same where words, statements, procedures and entries are known otherwise
pub same_commands : (slots : List Slot) {words w : List ℕ} {xs ys : List Statement} {c d : Output} → w ≡ words → xs ≡ ys
    → WritesCommands slots w (plain_commands xs) c d → WritesCommands slots words (plain_commands ys) c d
same_commands slots {words = words} {xs = xs} {c = c} {d = d} e f p =
    subst (λ (l : List Statement). WritesCommands slots words (plain_commands l) c d) f
    (subst (λ (l : List ℕ). WritesCommands slots l (plain_commands xs) c d) e p)

pub same_procedures : (slots : List Slot) (entries : List Procedure) {words w : List ℕ} {xs ys : List Held} {c d : Output} → w ≡ words → xs ≡ ys
    → WritesProcedures slots w (map procedure_declaration xs) entries c d → WritesProcedures slots words (map procedure_declaration ys) entries c d
same_procedures slots entries {words = words} {xs = xs} {c = c} {d = d} e f p =
    subst (λ (l : List Held). WritesProcedures slots words (map procedure_declaration l) entries c d) f
    (subst (λ (l : List ℕ). WritesProcedures slots l (map procedure_declaration xs) entries c d) e p)

pub same_links : {xs ys : List Procedure} {m n : ℕ} {c d : Output} → xs ≡ ys → m ≡ n → IsLinked xs m c d → IsLinked ys n c d
same_links {xs = xs} {n = n} {c = c} {d = d} e f p = subst (λ l. IsLinked l n c d) e (subst (λ (i : ℕ). IsLinked xs i c d) f p)

pub process_row : (slots : List Slot) (words : List ℕ) (process : ProcessDeclaration) (entries : List Procedure) {c d e f g : Output}
    → words ≡ map room_of process.procedures → WritesCommands slots words process.commands c d → Adds (One Done) d e
    → WritesProcedures slots words process.procedures entries e f → IsLinked entries (length c.instrs) f g → WritesProcess slots process entries c g
process_row slots words process entries sized body done procedures links = λ tree p n (g, h).
    let s : Setting words = record { tree = tree; owner = record { number = p; procedures = process.procedures }; sized = sized } in
    let m = n + blocks_in_procedures process.procedures in
    upto
    (linked_process p n (m + blocks_in process.commands) entries (both_back (body s m h) (both_back (done p m) (procedures s n g))) links)
    (omega arith)

-- the part of a process that the whole code has
pub part_there : (w : Code) (p : ℕ) (part : Part) → slice_get w.processes p ≡ Some part → part_of w p ≡ part
part_there w p part e = ap (λ o. unwrap_or o no_part) e

module _ (slots : List Slot) (ends : List Ends) where
  -- whatever stands for the processes that are left completes those that are there
  abbrev pub CompletesProcesses : List ProcessDeclaration → ℕ → List ProcessDeclaration → List Part → Output → Output → Type 0
  CompletesProcesses all p rest parts o d =
      (after : Output) (more : List Part) → WritesProcesses slots ends p rest more d after → WritesProcesses slots ends 0 all (parts ++ more) o after

  pub processes_step : (all others : List ProcessDeclaration)
      (process : ProcessDeclaration) {rest : List ProcessDeclaration} {o d e : Output} (p q : ℕ) (part : Part)
      (parts parts' : List Part)
      → rest ≡ process ∷ others → q ≡ p + 1 → part.start ≡ length d.instrs → part.words ≡ frame_words (frame_of process.variables)
      → part.channels ≡ channels_from p 0 ends → WritesProcess slots process part.procedures d e → parts' ≡ parts ++ (part ∷ [])
      → CompletesProcesses all p rest parts o d → CompletesProcesses all q others parts' o e
  processes_step all others process {o = o} {d = d} {e = e} p q part parts parts' is next start sizes channels inside these completes =
      λ after more h.
      let one : WritesProcesses slots ends p (process ∷ others) (part ∷ more) d after = λ tree known n (g, k).
      let first : Emits as_it_is n (n + blocks_in_process process) (ProcessTemplate tree slots p process part.procedures) d e = inside tree p n g in
      let rest : Emits as_it_is (n + blocks_in_process process) ((n + blocks_in_process process) + blocks_in_processes others)
      (λ w a b. HasParts (p + 1) more w → ProcessesCode tree slots (p + 1) others more w a b) e after =
      subst
      (λ (i : ℕ). Emits as_it_is (n + blocks_in_process process) ((n + blocks_in_process process) + blocks_in_processes others)
      (λ w a b. HasParts i more w → ProcessesCode tree slots i others more w a b) e after) next (h tree known (n + blocks_in_process process) k) in
      let both_of = both first rest in
      upto (record {
        follows = both_of.follows;
        stands = λ w i (there, others_there).
            let (m, body, behind) = both_of.stands w i in (
              part,
              more,
              refl,
              (
                m,
                (
                  record { start_is = start; words_are = sizes; channels_are = channels ∙ ap (channels_from p 0) known },
                  body (ap (λ x. x.procedures) (part_there w p part there)),
                ),
                behind others_there,
              ),
            );
      }) (omega arith) in
      let two : WritesProcesses slots ends 0 all (parts ++ (part ∷ more)) o after =
      completes after (part ∷ more) (subst (λ l. WritesProcesses slots ends p l (part ∷ more) d after) (sym is) one) in
      subst (λ xs. WritesProcesses slots ends 0 all xs o after) (sym (ap (λ xs. xs ++ more) these ∙ append_assoc parts (part ∷ []) more)) two

  pub processes_end : (all : List ProcessDeclaration) {rest : List ProcessDeclaration} {o d : Output} (p : ℕ) (parts : List Part) → rest ≡ []
      → CompletesProcesses all p rest parts o d → WritesProcesses slots ends 0 all parts o d
  processes_end all {o = o} {d = d} p parts is completes =
      let none : WritesProcesses slots ends p [] [] d d =
      λ tree known n g. upto (record { follows = follows_self n d; stands = λ w i there. (refl, refl) }) (omega arith) in
      subst (λ xs. WritesProcesses slots ends 0 all xs o d) (append-none parts)
      (completes d [] (subst (λ l. WritesProcesses slots ends p l [] d d) (sym is) none))

-- a list has its own elements, from any place on
has_parts : (w : Code) (before parts : List Part) → w.processes ≡ before ++ parts → HasParts (length before) parts w
has_parts w before [] is = tt
has_parts w before (part ∷ parts) is = (
  ap (λ xs. slice_get xs (length before)) is ∙ there before part parts,
  subst (λ i. HasParts i parts w) (length-append before (part ∷ []))
      (has_parts w (before ++ (part ∷ [])) parts (is ∙ sym (append_assoc before (part ∷ []) parts))),
)
  where
    there : (before : List Part) (part : Part) (parts : List Part) → slice_get (before ++ (part ∷ parts)) (length before) ≡ Some part
    there [] part parts = refl
    there (x ∷ before) part parts = there before part parts

-- the whole draft is the whole code
pub whole_code : (w : Code) (to : ℕ) (parts : List Part) {P : Template} {c d : Output}
    → Emits as_it_is 0 to (λ w a b. HasParts 0 parts w → P w a b) c d → c.instrs ≡ [] → to ≡ length c.blocks → w.instrs ≡ d.instrs → w.texts ≡ d.texts
    → w.blocks ≡ d.blocks → w.processes ≡ parts → P w 0 (length w.instrs)
whole_code w to parts {P = P} {c = c} {d = d} emits none many instrs texts blocks processes =
    let all : P w (length c.instrs) (length d.instrs) = emits.stands w (record {
      instrs = record { has = λ i a b. ap (λ xs. slice_get xs i) instrs ∙ sym (same (slice_get d.instrs i)) };
      texts = record { has = λ i a b. ap (λ xs. slice_get xs i) texts ∙ sym (same (slice_get d.texts i)) };
      blocks = record { room = omega (arith, emits.follows.blocks.long); has = λ i a b. ap (λ xs. slice_get xs i) blocks };
    }) (has_parts w [] parts processes) in
    subst (λ (xs : List Instr). P w 0 (length xs)) (sym instrs) (subst (λ (xs : List Instr). P w (length xs) (length d.instrs)) none all)

-- code of a program is code that stands for it
pub program_row : (tree : Tree) (slots : List Slot) (w : Code) (ends : List Ends) {c d : Output} → Resolved tree slots → IsNumbered tree
    → WritesProcesses slots ends 0 tree.processes w.processes c d → ends ≡ map (ends_by slots) tree.channels → c.instrs ≡ [] → c.texts ≡ []
    → length c.blocks ≡ tree.blocks → w.edition ≡ tree.edition → w.names ≡ naming_of tree → w.channels ≡ ends
    → w.instrs ≡ d.instrs → w.texts ≡ d.texts
    → w.blocks ≡ d.blocks → StandsFor tree slots w
program_row tree slots w ends {c = c} {d = d} resolved numbered writes by_slots no_instr no_text_yet many edition names channels instrs texts blocks =
    let known : ends ≡ channels_of tree = by_slots ∙ ends_given tree slots tree.channels resolved.channels in
    let given : ProcessesGiven tree slots 0 tree.processes =
    processes_given tree slots 0 0 tree.processes numbered.processes
    (λ i process is. subst (λ (k : ℕ). ProcessInFrames tree slots k process) (omega arith) (resolved.processes i process is)) in
    let to = 0 + blocks_in_processes tree.processes in
    let emits : Emits as_it_is 0 to (λ x a b. HasParts 0 w.processes x → ProcessesCode tree slots 0 tree.processes w.processes x a b) c d =
    writes tree known 0 given in
    record {
      edition_is = edition;
      names_are = names;
      channels_are = channels ∙ known;
      instrs_are = whole_code w to w.processes emits no_instr (omega (arith, numbered.blocks)) instrs texts blocks refl;
      one_block_each = ap length blocks ∙ emits.follows.blocks.long ∙ many;
      one_text_each =
          ap text_numbers instrs ∙ emits.follows.numbered (ap text_numbers no_instr ∙ sym (ap (numbers_from 0) no_text_yet))
          ∙ ap (numbers_from 0) (sym texts);
    }
