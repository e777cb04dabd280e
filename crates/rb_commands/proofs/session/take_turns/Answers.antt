use Rattle.rb_commands.proofs.Sessions.{turns_listed, turns_not_listed}
use Rattle.rb_commands.proofs.session.take_turns.Goals as goal

pub returns-in-Ok : goal.returns-in-Ok
returns-in-Ok c source accepted =
    let listed = c.in-Ok.ensures in
    turns_listed source c.args.prepared accepted c.args.text listed.0 c.in-Ok.turns listed.1 listed.2

pub returns-in-Err : goal.returns-in-Err
returns-in-Err c source accepted =
    rw c.into_names.ensures (turns_not_listed source c.args.prepared accepted c.args.text.now c.in-Err.fault c.in-Err.ensures)
