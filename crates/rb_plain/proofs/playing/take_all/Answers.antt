use Rattle.std.proofs.Common.{◌∙◌}
use Rattle.rb_syntax.specs.Plain.{tree}
use Rattle.rb_plain.specs.Played.{played, stuck_in}
use Rattle.rb_levels.specs.Worlds.{world_of}
use Rattle.rb_plain.proofs.TurnsLeft.{rehearsed, still_stuck, turn_answered, turn_taken}
use Rattle.rb_plain.proofs.playing.take_all.Goals as goal

pub loop-kept-preserved : goal.loop-kept-preserved
loop-kept-preserved c =
    let program = tree c.args.program.now in
    c.loop-kept.invariant
    ∙ still_stuck (turn_taken program c.args.turns.now c.loop-kept.kept-index _ c.loop-kept-test.true (world_of program c.loop-kept.processes)
    (world_of program c.take.new.processes) (world_of program c.free_all.new.processes) c.in_ok-take.ensures c.free_all.ensures)

pub returns-in_err-take : goal.returns-in_err-take
returns-in_err-take c =
    let program = tree c.args.program.now in
    let stuck = stuck_in (played program c.args.turns.now (world_of program c.args.processes.now)) in
    rehearsed stuck c.in_err-take.field-0.0 c.from_residual.result c.from_residual.ensures.1
    (turn_answered program c.args.turns.now c.loop-kept.kept-index _ c.loop-kept-test.true (world_of program c.loop-kept.processes)
    stuck (world_of program c.take.new.processes) c.in_err-take.field-0.0 c.loop-kept.invariant c.in_err-take.ensures)
