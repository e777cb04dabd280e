use Rattle.std.proofs.Common.{◌-◌, ◌+◌, length, ap, sym, ◌∙◌}
use Rattle.std.proofs.lemmas.Bool.{ltb-false}
use Rattle.rb_world.specs.Reject.{is_below, is_under}
use Rattle.rb_conv.specs.Conversations.{memberships}
use Rattle.rb_conv.proofs.ParentSteps.{below_step, parent_at, parent_past, under_itself, under_other}
use Rattle.rb_conv.proofs.rejection.is_below.Goals as goal

pub returns-in_default : goal.returns-in_default
returns-in_default c =
    let xs = c.args.conversations.now in
    let n = length xs in
    let higher = is_below (memberships xs) (n - (c.loop-step._step + 1)) c.args.c in
    let past = ltb-false c.loop-step.lower n (sym c.in_default.ensures.lookup.0) in
    sym
    (c.loop-step.invariant
    ∙ below_step (memberships xs) n c.loop-step._step c.args.c c.loop-step.lower c.loop-step-test.true
    ∙ ap (is_under higher c.args.c) (parent_past xs c.loop-step.lower past))

pub returns-in_default-parent : goal.returns-in_default-parent
returns-in_default-parent c =
    let xs = c.args.conversations.now in
    let n = length xs in
    let higher = is_below (memberships xs) (n - (c.loop-step._step + 1)) c.args.c in
    let found = c.in-Some.ensures.lookup in
    sym
    (c.loop-step.invariant
    ∙ below_step (memberships xs) n c.loop-step._step c.args.c c.loop-step.lower c.loop-step-test.true
    ∙ ap (is_under higher c.args.c)
    (parent_at xs c.loop-step.lower c.in-Some.conversation.now found.3.0 found.1 ∙ sym c.in_default-parent.ensures))

pub returns-then-parent-c : goal.returns-then-parent-c
returns-then-parent-c c =
    let xs = c.args.conversations.now in
    let n = length xs in
    let higher = is_below (memberships xs) (n - (c.loop-step._step + 1)) c.args.c in
    let found = c.in-Some.ensures.lookup in
    sym
    (c.loop-step.invariant
    ∙ below_step (memberships xs) n c.loop-step._step c.args.c c.loop-step.lower c.loop-step-test.true
    ∙ ap (is_under higher c.args.c)
    (parent_at xs c.loop-step.lower c.in-Some.conversation.now found.3.0 found.1 ∙ sym c.in-Some-parent.ensures)
    ∙ under_itself higher c.args.c c.in-Some-parent.parent c.if-parent-c.true)

pub loop-step-preserved : goal.loop-step-preserved
loop-step-preserved c =
    let xs = c.args.conversations.now in
    let n = length xs in
    let higher = is_below (memberships xs) (n - (c.loop-step._step + 1)) c.args.c in
    let found = c.in-Some.ensures.lookup in
    c.loop-step.invariant
    ∙ below_step (memberships xs) n c.loop-step._step c.args.c c.loop-step.lower c.loop-step-test.true
    ∙ ap (is_under higher c.args.c) (parent_at xs c.loop-step.lower c.in-Some.conversation.now found.3.0 found.1 ∙ sym c.in-Some-parent.ensures)
    ∙ under_other higher c.args.c c.in-Some-parent.parent c.if-parent-c.false
