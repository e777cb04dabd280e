-- The members before this one stand there.
use Rattle.std.proofs.Common.{◌≡◌, drop, map, slice_get}
use Rattle.std.specs.List.{list_all}
use Rattle.rb_world.specs.Turn.{stands_there}
use Rattle.rb_levels.specs.Worlds.{process_of}
use Rattle.rb_plain.proofs.test_line.do_stand.Given as goal

abbrev pub invariant-loop-member : goal.invariant-loop-member
invariant-loop-member l =
    list_all (λ m. stands_there l.conversation (slice_get (map process_of l.processes) m)) (drop l.member-index l.members)
    ≡ list_all (λ m. stands_there l.conversation (slice_get (map process_of l.processes) m)) l.members
