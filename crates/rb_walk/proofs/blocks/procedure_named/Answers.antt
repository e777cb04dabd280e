use Rattle.std.proofs.Common.{◌<◌, ◌≤◌, length, arith}
use Rattle.rb_walk.proofs.Lookups.{procedure_missing, procedure_there}
use Rattle.rb_walk.proofs.blocks.procedure_named.Goals as goal

pub returns-then-process-len : goal.returns-then-process-len
returns-then-process-len c =
    let processes = c.args.program.now.processes in
    let past : length processes.items ≤ c.args.process = omega (arith, processes.ok.0, c.len.ensures, c.if-process-len.true) in
    procedure_missing c.args.program.now c.args.process c.args.name.now past

pub returns : goal.returns
returns c =
    let processes = c.args.program.now.processes in
    let within : c.args.process < length processes.items = omega (arith, processes.ok.0, c.len.ensures, c.if-process-len.false) in
    procedure_there c.args.program.now c.args.process c.args.name.now c.index.result.now within c.index.ensures c.deref.result.now
    c.procedure_among.result c.deref.ensures.value c.procedure_among.ensures
