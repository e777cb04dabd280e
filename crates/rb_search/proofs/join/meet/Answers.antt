use Rattle.std.proofs.Common.{subst}
use Rattle.rb_flow.specs.declared.lists.Lists.{Lists}
use Rattle.rb_search.specs.Meeting.{IsKnownBy}
use Rattle.rb_search.proofs.Lightening.{other_met}
use Rattle.rb_search.proofs.join.meet.Goals as goal

pub returns-in-Some-clause-other : goal.returns-in-Some-clause-other
returns-in-Some-clause-other c =
    let after : Lists = record { operands = c.meet_lists.new.operands; blocks = c.args.lists.now.blocks }
    in other_met c.args.lists.now after c.args.found c.in-Some.operands c.meet_modes.result c.weaker.result
    (c.weaker.ensures.met after)
    (subst (IsKnownBy c.args.lists.now.operands c.meet_lists.new.operands c.args.found.operands) c.in-Some.is c.in_ok-meet_lists.ensures.known)
    c.weaker.ensures.other
