use Rattle.std.proofs.Common.{◌≡◌, ◌++◌, drop}
use Rattle.rb_syntax.specs.Plain.{alternates_of, commands_of}
use Rattle.rb_code.specs.Agreement.Places.{alternates_turns, commands_turns}
use Rattle.rb_changes.proofs.turn_places.+statement.Given as goal

-- the places so far, and those of the other statements
abbrev pub invariant-add_statements-loop-statement : goal.invariant-add_statements-loop-statement
invariant-add_statements-loop-statement l =
    l.turns.items ++ commands_turns (commands_of (drop l.statement-index l.statements))
    ≡ l.fn.turns.items ++ commands_turns (commands_of l.statements)

-- the places so far, and those of the other alternates
abbrev pub invariant-add_alternates-loop-block : goal.invariant-add_alternates-loop-block
invariant-add_alternates-loop-block l =
    l.turns.items ++ alternates_turns (alternates_of (drop l.block-index l.alternates))
    ≡ l.fn.turns.items ++ alternates_turns (alternates_of l.alternates)
