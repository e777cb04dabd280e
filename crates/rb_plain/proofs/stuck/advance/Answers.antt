-- The world that a turn comes to, once lines are released.
use Rattle.rb_syntax.specs.Plain.{tree}
use Rattle.rb_levels.specs.Worlds.{world_of}
use Rattle.rb_plain.proofs.WholeTurns.{turn_on}
use Rattle.rb_plain.proofs.stuck.advance.Goals as goal

pub returns-in-Ok : goal.returns-in-Ok
returns-in-Ok c =
    let program = tree c.args.program.now in
    turn_on program c.args.kept (world_of program c.args.processes.now) (world_of program c.take_turn.new.processes)
    (world_of program c.free_all.new.processes) c.in-Ok.ensures c.free_all.ensures
