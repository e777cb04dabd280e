use Rattle.std.proofs.Common.{◌∙◌}
use Rattle.rb_uses.proofs.Members.{either_first}
use Rattle.rb_uses.proofs.conversations.is_member.Goals as goal

pub returns : goal.returns
returns c = c.contains.ensures.value ∙ either_first c.args.process c.args.members.now
