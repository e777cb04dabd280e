use Rattle.std.proofs.Common.{◌≡◌, ◌++◌, drop, map}
use Rattle.rb_syntax.specs.Plain.{procedure_declaration}
use Rattle.rb_code.specs.Agreement.Places.{procedures_turns}
use Rattle.rb_changes.proofs.turn_places.add_procedures.Given as goal

-- the places so far, and those of the other procedures
abbrev pub invariant-loop-procedure : goal.invariant-loop-procedure
invariant-loop-procedure l =
    l.turns.items ++ procedures_turns (map procedure_declaration (drop l.procedure-index l.procedures))
    ≡ l.fn.turns.items ++ procedures_turns (map procedure_declaration l.procedures)
