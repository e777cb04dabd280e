use Rattle.std.proofs.Common.{List, ap, ◌∙◌, subst, map, refl}
use Rattle.std.proofs.lemmas.List.{length-map}
use Rattle.rb_syntax.specs.declared.program.Channel.{Channel}
use Rattle.rb_syntax.specs.declared.program.Process.{Process}
use Rattle.rb_syntax.specs.Plain.{channel_declaration, process_declaration, tree}
use Rattle.rb_scope.specs.declared.slot.Slot.{Slot}
use Rattle.rb_code.specs.declared.code.Code.{Code}
use Rattle.rb_code.specs.declared.code.ChannelCode.{ChannelCode}
use Rattle.rb_code.specs.Instructions.Plain.{block, channel, code, part}
use Rattle.rb_draft.specs.Channels.{ends_by}
use Rattle.rb_draft.specs.Output.{Output, output}
use Rattle.rb_gen.specs.Writes.{WritesProcesses}
use Rattle.rb_gen.proofs.ProcessRows.{program_row}
use Rattle.rb_gen.proofs.program.generate.Goals as goal

pub returns : goal.returns
returns c =
    let program = c.args.checked.now.program in
    let slots = c.args.checked.now.slots.items in
    let ends = map channel c.in_ok-channels.channels.items in
    let parts = map part c.in_ok-processes.processes.items in
    let before : Output = record { instrs = c.new.result.items; texts = c.new-2.result.items; blocks = map block c.in_ok-unsettled.field-0.items } in
    let behind = output c.emit_processes.new.draft in
    let made : Code = record {
      edition = program.edition;
      instrs = c.emit_processes.new.draft.instrs;
      processes = c.in_ok-processes.processes;
      blocks = c.emit_processes.new.draft.blocks;
      channels = c.in_ok-channels.channels;
      texts = c.emit_processes.new.draft.texts;
      names = c.in_ok-names.names;
    } in
    let writes : WritesProcesses slots ends 0 (tree program).processes parts before behind =
    subst (λ (xs : List Process). WritesProcesses slots ends 0 (map process_declaration xs) parts before behind) c.deref-5.ensures.value
    (subst (λ (xs : List ChannelCode). WritesProcesses slots (map channel xs) 0
    (map process_declaration c.deref-5.result.now) parts before behind) c.deref-4.ensures.value
    (subst (λ (xs : List Slot). WritesProcesses xs (map channel c.deref-4.result.now) 0
    (map process_declaration c.deref-5.result.now) parts before behind)
    c.deref-3.ensures.value c.in_ok-processes.ensures)) in
    program_row (tree program) slots (code made) ends c.requires.resolved c.requires.numbered writes
    (c.in_ok-channels.ensures ∙ ap (λ (xs : List Slot). map (ends_by xs) (map channel_declaration c.deref-2.result.now)) c.deref.ensures.value
    ∙ ap (λ (xs : List Channel). map (ends_by slots) (map channel_declaration xs)) c.deref-2.ensures.value)
    c.new.ensures.items c.new-2.ensures.items
    (length-map c.in_ok-unsettled.field-0.items block ∙ c.in_ok-unsettled.ensures) refl c.in_ok-names.ensures refl refl refl refl
