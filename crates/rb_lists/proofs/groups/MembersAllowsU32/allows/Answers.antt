use Rattle.std.proofs.Common.{sym, ◌∙◌}
use Rattle.rb_lists.proofs.Differing.{any_member, member_any}
use Rattle.rb_lists.proofs.groups.MembersAllowsU32.allows.Goals as goal

pub returns : goal.returns
returns c = (
  (λ e. any_member c.args.member.now c.args.self.now.0.now (sym c.is_member.ensures ∙ e)),
  (λ is. c.is_member.ensures ∙ member_any c.args.member.now c.args.self.now.0.now is),
)
