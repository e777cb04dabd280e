use Rattle.std.proofs.Common.{◌≡◌, drop}
use Rattle.rb_syntax.specs.Plain.{tree}
use Rattle.rb_plain.specs.Played.{played, stuck_in}
use Rattle.rb_levels.specs.Worlds.{world_of}
use Rattle.rb_plain.proofs.playing.take_all.Given as goal

-- what is left is stuck where the whole is
abbrev pub invariant-loop-kept : goal.invariant-loop-kept
invariant-loop-kept l =
    let program = tree l.program in
    stuck_in (played program l.turns (world_of program l.fn.processes))
    ≡ stuck_in (played program (drop l.kept-index l.turns) (world_of program l.processes))
