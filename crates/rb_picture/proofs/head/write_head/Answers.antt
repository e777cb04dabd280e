use Rattle.std.proofs.Common.{List, map, ap}
use Rattle.std.specs.List.{flat_map}
use Rattle.rb_base.specs.declared.names.ProcessNames.{ProcessNames}
use Rattle.rb_code.specs.Instructions.Plain.{channel as plain_channel}
use Rattle.rb_code.specs.declared.code.ChannelCode.{ChannelCode}
use Rattle.rb_outside.proofs.Puts.{puts_both, puts_same, puts_stopped_at}
use Rattle.rb_trace.specs.Naming.{naming, process_naming}
use Rattle.rb_picture.specs.Head.{channel_head, process_head}
use Rattle.rb_changes.specs.Numbered.{numbered}
use Rattle.rb_picture.proofs.head.write_head.Goals as goal

pub returns-in_err-write_edition : goal.returns-in_err-write_edition
returns-in_err-write_edition g c =
    puts_stopped_at _ _ _ _ _ _ _ c.from_residual.result c.from_residual.ensures.0
    c.in_err-write_edition.ensures

pub returns-in_err-write_processes : goal.returns-in_err-write_processes
returns-in_err-write_processes g c =
    puts_both _ _ _ _ _ _ _ _ _ _ c.in_ok-write_edition.ensures
    (puts_stopped_at _ _ _ _ _ _ _ c.from_residual-in_err-write_processes.result c.from_residual-in_err-write_processes.ensures.0 (puts_same _ _ _ _ _ _ _ (ap (λ (xs : List ProcessNames). flat_map process_head (map process_naming xs)) c.deref.ensures.value) c.in_err-write_processes.ensures))

pub returns-in_err-write_channels : goal.returns-in_err-write_channels
returns-in_err-write_channels g c =
    puts_both _ _ _ _ _ _ _ _ _ _ c.in_ok-write_edition.ensures
    (puts_both _ _ _ _ _ _ _ _ _ _ (puts_same _ _ _ _ _ _ _ (ap (λ (xs : List ProcessNames). flat_map process_head (map process_naming xs)) c.deref.ensures.value) c.in_ok-write_processes.ensures)
    (puts_stopped_at _ _ _ _ _ _ _ c.from_residual-in_err-write_channels.result c.from_residual-in_err-write_channels.ensures.0 (puts_same _ _ _ _ _ _ _ (ap (λ (xs : List ChannelCode). numbered (channel_head (naming c.args.code.now.names)) 0 (map plain_channel xs)) c.deref-2.ensures.value) c.in_err-write_channels.ensures)))

pub returns : goal.returns
returns g c =
    puts_both _ _ _ _ _ _ _ _ _ _ c.in_ok-write_edition.ensures
    (puts_both _ _ _ _ _ _ _ _ _ _ (puts_same _ _ _ _ _ _ _ (ap (λ (xs : List ProcessNames). flat_map process_head (map process_naming xs)) c.deref.ensures.value) c.in_ok-write_processes.ensures)
    (puts_both _ _ _ _ _ _ _ _ _ _ (puts_same _ _ _ _ _ _ _ (ap (λ (xs : List ChannelCode). numbered (channel_head (naming c.args.code.now.names)) 0 (map plain_channel xs)) c.deref-2.ensures.value) c.in_ok-write_channels.ensures)
    c.write_meetings.ensures))
