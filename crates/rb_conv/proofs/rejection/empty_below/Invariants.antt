use Rattle.std.proofs.Common.{◌≡◌, ◌++◌, length, take, drop}
use Rattle.rb_world.specs.Reject.{is_below}
use Rattle.rb_conv.specs.Conversations.{memberships}
use Rattle.rb_conv.specs.Reject.{emptied_below, emptied_from}
use Rattle.rb_conv.proofs.rejection.empty_below.Given as goal

abbrev pub invariant-loop-d : goal.invariant-loop-d
invariant-loop-d l = record {
  so_far : emptied_below l.c l.fn.conversations
      ≡ take l.d l.conversations
      ++ emptied_from (is_below (memberships l.fn.conversations) (length l.fn.conversations) l.c) l.d (drop l.d l.conversations);
  kept : memberships l.conversations ≡ memberships l.fn.conversations;
}
