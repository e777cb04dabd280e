use Rattle.std.proofs.Common.{◌≡◌, ◌++◌, map, drop, take}
use Rattle.rb_syntax.specs.Plain.{tree}
use Rattle.rb_world.specs.Turn.{freed}
use Rattle.rb_levels.specs.Worlds.{process_of, unkept_kind}
use Rattle.rb_plain.proofs.playing.free_all.Given as goal

-- those so far hold no line, and the others are as they were
abbrev pub invariant-loop-process : goal.invariant-loop-process
invariant-loop-process l =
    let old = map process_of l.fn.processes in
    map process_of l.process-items ≡ map (freed (unkept_kind (tree l.program))) (take l.process-index old) ++ drop l.process-index old
