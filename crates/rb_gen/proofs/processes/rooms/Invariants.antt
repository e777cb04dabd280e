use Rattle.std.proofs.Common.{◌≡◌, ◌++◌, length, map}
use Rattle.rb_syntax.specs.Plain.{procedure_declaration}
use Rattle.rb_gen.specs.Writes.{room_of}
use Rattle.rb_gen.proofs.processes.rooms.Given as goal

-- those so far, and the others
abbrev pub invariant-procedures : goal.invariant-procedures
invariant-procedures l =
    l.words.items ++ map room_of (map procedure_declaration l.rest) ≡ map room_of (map procedure_declaration l.fn.procedures)

abbrev pub decreases-procedures : goal.decreases-procedures
decreases-procedures l = length l.rest
