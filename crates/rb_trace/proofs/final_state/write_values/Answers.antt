use Rattle.std.proofs.Common.{map}
use Rattle.rb_outside.proofs.Puts.{puts_both, puts_same, puts_stopped_at}
use Rattle.rb_world.specs.Text.{value_lines, channel_lines}
use Rattle.rb_trace.specs.Naming.{process_naming}
use Rattle.rb_trace.proofs.Ended.{values_are}
use Rattle.rb_trace.proofs.final_state.write_values.Goals as goal

pub returns-in_err-write_all_variables-clause-text : goal.returns-in_err-write_all_variables-clause-text
returns-in_err-write_all_variables-clause-text g c final ended =
    puts_same _ _ _ _ _ _ _ (values_are c.args.names.now _ _ _ _ final ended)
    (puts_stopped_at (value_lines (map process_naming c.args.names.now.processes.items) (g.M.Final.words c.args.end.now))
    (channel_lines c.args.names.now.channels.items (g.M.Final.sent c.args.end.now)
    (g.M.Final.taken c.args.end.now)) _ _ _ _ _ c.from_residual.result c.from_residual.ensures.0 c.in_err-write_all_variables.ensures.text)

pub returns-clause-text : goal.returns-clause-text
returns-clause-text g c final ended =
    puts_same _ _ _ _ _ _ _ (values_are c.args.names.now _ _ _ _ final ended)
    (puts_both (value_lines (map process_naming c.args.names.now.processes.items) (g.M.Final.words c.args.end.now))
    (channel_lines c.args.names.now.channels.items (g.M.Final.sent c.args.end.now)
    (g.M.Final.taken c.args.end.now)) _ _ _ _ _ _ _ _ c.in_ok-write_all_variables.ensures.text c.write_channels.ensures.text)
