use Rattle.std.proofs.Common.{ap, ◌∙◌, map, refl}
use Rattle.rb_syntax.specs.Plain.{process_declaration}
use Rattle.rb_code.specs.Instructions.Plain.{procedure}
use Rattle.rb_gen.proofs.ProcessRows.{process_row, same_commands, same_links, same_procedures}
use Rattle.rb_gen.proofs.processes.emit_linked.Goals as goal

pub returns : goal.returns
returns c = λ sized.
    process_row c.args.slots.now c.args.words.now (process_declaration c.args.process.now) (map procedure c.in_ok-entries.entries.items) sized
    (same_commands c.args.slots.now refl c.deref.ensures.value c.in_ok-emit_statements.ensures) (c.in_ok-put.ensures refl)
    (same_procedures c.args.slots.now _ refl c.deref-2.ensures.value c.in_ok-entries.ensures)
    (same_links (ap (map procedure) c.deref-3.ensures.value) (c.len-from.ensures ∙ c.args.draft.now.instrs.ok.0) c.link.ensures)
