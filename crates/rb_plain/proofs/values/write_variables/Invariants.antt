use Rattle.std.proofs.Common.{drop, map}
use Rattle.std.specs.List.{flat_map}
use Rattle.rb_meaning.specs.Environment.{global_words}
use Rattle.rb_trace.specs.Naming.{variable_naming}
use Rattle.rb_trace.proofs.Written.{Written}
use Rattle.rb_world.specs.Text.{variable_line}
use Rattle.rb_plain.proofs.values.write_variables.Given as goal

-- the variables from this one on are left to write
abbrev pub invariant-loop-variable : goal.invariant-loop-variable
invariant-loop-variable g l =
    let variables = l.process.variables.items in
    let each = variable_line l.process.name (global_words l.environment) in
    Written (flat_map each (map variable_naming variables)) (flat_map each (map variable_naming (drop l.variable-index variables)))
    (g.S.Sink.written l.initial.out) (g.S.Sink.written l.out) (g.S.Sink.faults l.initial.out) (g.S.Sink.faults l.out)
