-- Each link is followed or passed over.
use Rattle.std.proofs.Common.{length, reverse, refl}
use Rattle.std.proofs.lemmas.Iterator.Adapters.{YieldsList-from_rev_slice}
use Rattle.std.proofs.lemmas.Iterator.Consumers.{YieldsList-turn}
use Rattle.std.proofs.lemmas.List.{length_push}
use Rattle.rb_recovery.proofs.Linking.ReachedLinks.{followed, passed_over}
use Rattle.rb_recovery.proofs.survivors.reach.Goals as goal

pub loop-link-preserved-in-Continue-branch-2 : goal.loop-link-preserved-in-Continue-branch-2
loop-link-preserved-in-Continue-branch-2 c =
    let all = YieldsList-from_rev_slice c.args.links.now cc in
    let t = YieldsList-turn all c.loop-link.yielded _ c.loop-link.yielded_by _ _ c.in-Some.link c.in-Some.is c.next.ensures.steps in
    followed (reverse c.args.links.now) (length c.loop-link.yielded) c.in-Some.link.now t.0 t.1 c.loop-link.wanted
    _ (length_push c.loop-link.yielded c.in-Some.link) c.loop-link.kept.items _ c.loop-link.invariant
    c.follow.result c.follow.ensures.wanted c.follow.new.wanted c.follow.ensures.next c.if-follow.true _ _ refl c.in_ok-push.ensures.items

pub loop-link-preserved : goal.loop-link-preserved
loop-link-preserved c =
    let all = YieldsList-from_rev_slice c.args.links.now cc in
    let t = YieldsList-turn all c.loop-link.yielded _ c.loop-link.yielded_by _ _ c.in-Some.link c.in-Some.is c.next.ensures.steps in
    passed_over (reverse c.args.links.now) (length c.loop-link.yielded) c.in-Some.link.now t.0 t.1 c.loop-link.wanted
    _ (length_push c.loop-link.yielded c.in-Some.link) c.loop-link.kept.items _ c.loop-link.invariant
    c.follow.result c.follow.ensures.wanted c.follow.new.wanted c.follow.ensures.next c.if-follow.false
