-- The process that was looked up, and what its turn comes to.
use Rattle.std.proofs.Common.{slice_get}
use Rattle.rb_syntax.specs.Plain.{tree}
use Rattle.rb_levels.specs.Worlds.{world_of}
use Rattle.rb_plain.proofs.TurnsMoved.{ready_first, stuck, turned}
use Rattle.rb_plain.proofs.turn.take_turn.Goals as goal

pub act-requires-clause-first : goal.act-requires-clause-first
act-requires-clause-first c = ready_first c.in-Some.first (slice_get c.args.processes.now c.args.kept.process) c.in-Some.ensures

pub returns-in-Some : goal.returns-in-Some
returns-in-Some c =
    let plain = tree c.args.program.now in
    turned plain c.args.kept c.args.processes.now c.in-Some.first (world_of plain c.act.new.processes) c.act.result c.in-Some.ensures
    c.act.ensures

pub returns-in-None : goal.returns-in-None
returns-in-None c = stuck (tree c.args.program.now) c.args.kept c.args.processes.now c.in-None.ensures
