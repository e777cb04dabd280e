use Rattle.std.proofs.Common.{◌≡◌, ◌-◌, length}
use Rattle.rb_world.specs.Reject.{is_below}
use Rattle.rb_conv.specs.Conversations.{memberships}
use Rattle.rb_conv.proofs.rejection.is_below.Given as goal

abbrev pub invariant-loop-step : goal.invariant-loop-step
invariant-loop-step l =
    is_below (memberships l.conversations) (length l.conversations) l.c l.d
    ≡ is_below (memberships l.conversations) (l._step-end - l._step) l.c l.lower
