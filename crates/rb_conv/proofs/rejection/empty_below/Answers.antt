use Rattle.std.proofs.Common.{◌≡◌, ℕ, Bool, List, cond, length, get_or, ap, ◌∙◌, arith}
use Rattle.rb_world.specs.Kind.{Membership}
use Rattle.rb_world.specs.Reject.{is_below}
use Rattle.rb_conv.specs.Conversations.{emptied, membership, memberships}
use Rattle.rb_conv.proofs.EmptyBelow.{empty_all, empty_more, membership_kept, memberships_kept}
use Rattle.rb_conv.proofs.rejection.empty_below.Goals as goal

pub loop-d-preserved : goal.loop-d-preserved
loop-d-preserved c =
    let whole = c.args.conversations.now in
    let xs = c.loop-d.conversations in
    let d = c.loop-d.d in
    let e = c.index-conversations-d.result in
    let x = get_or xs d e in
    let below = is_below (memberships whole) (length whole) c.args.c in
    let tells : c.is_below-is_below.result ≡ below d =
    c.is_below-is_below.ensures
    ∙ ap (λ (groups : List Membership). is_below groups (length xs) c.args.c d) c.loop-d.invariant.kept
    ∙ ap (λ (n : ℕ). is_below (memberships whole) n c.args.c d) c.loop-d.auto.conversations in
    let wrote : c.empty_if.new.conversation ≡ cond (below d) (emptied x) x =
    c.empty_if.ensures ∙ ap (λ (b : Bool). cond b (emptied x) x) tells in
    record {
      so_far = empty_more below _ xs d e c.empty_if.new.conversation (omega arith) c.loop-d.invariant.so_far wrote;
      kept = memberships_kept xs d e c.empty_if.new.conversation (ap membership wrote ∙ membership_kept (below d) x) ∙ c.loop-d.invariant.kept;
    }

pub returns : goal.returns
returns c =
    let whole = c.args.conversations.now in
    empty_all (is_below (memberships whole) (length whole) c.args.c) _ c.loop-d.conversations c.loop-d.d (omega arith) c.loop-d.invariant.so_far
