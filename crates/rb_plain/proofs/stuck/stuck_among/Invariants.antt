use Rattle.std.proofs.Common.{◌≡◌, drop}
use Rattle.rb_syntax.specs.Plain.{tree}
use Rattle.rb_plain.specs.Stuck.{stuck_among}
use Rattle.rb_levels.specs.Worlds.{world_of}
use Rattle.rb_plain.proofs.stuck.stuck_among.Given as goal

-- what is found among the turns that are left is what is found among all
abbrev pub invariant-loop-kept : goal.invariant-loop-kept
invariant-loop-kept l =
    let program = tree l.program in
    stuck_among program l.turn l.turns (world_of program l.fn.processes)
    ≡ stuck_among program l.turn (drop l.kept-index l.turns) (world_of program l.processes)
