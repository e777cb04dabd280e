use Rattle.rb_script.proofs.Following.{script_can_follow}
use Rattle.rb_script.proofs.script.Script.read.Goals as goal

pub returns-clause-can_follow : goal.returns-clause-can_follow
returns-clause-can_follow c = script_can_follow c.args.names.now c.args.turns c.args.text.now c.in_ok-check_lines.ensures
