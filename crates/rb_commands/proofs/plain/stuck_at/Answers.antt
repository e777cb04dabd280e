use Rattle.std.proofs.Common.{vec_len}
use Rattle.rb_syntax.specs.Plain.{tree}
use Rattle.rb_commands.proofs.Recorded.{members_are, stuck_told, turn_found}
use Rattle.rb_commands.proofs.plain.stuck_at.Goals as goal

pub stuck_cause-requires : goal.stuck_cause-requires
stuck_cause-requires c = record { members = members_are c.requires.judged.0 c.args.judged c.requires.judged.1 }

pub returns-in-Ok-Some : goal.returns-in-Ok-Some
returns-in-Ok-Some c =
    stuck_told c.requires.judged.0 c.args.judged c.requires.judged.1 c.args.turns.now c.args.turn c.in-Ok-Some.found
    (rw c.in-Ok-Some.field-0-is at c.in-Ok-Some.ensures)

pub unreachable-requires : goal.unreachable-requires
unreachable-requires c =
    let there = turn_found (tree c.args.judged.checked.program) c.args.turns.now (vec_len c.args.judged.names.processes) c.args.turn
    c.requires.known c.requires.stuck in
    let none = rw c.in-Ok-None.field-0-is at c.in-Ok-None.ensures in
    absurd (cc)
