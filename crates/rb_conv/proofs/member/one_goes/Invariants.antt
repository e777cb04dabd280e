use Rattle.std.proofs.Common.{◌≡◌, ◌++◌, map, take, drop}
use Rattle.rb_conv.specs.Conversations.{goes_if}
use Rattle.rb_conv.proofs.member.one_goes.Given as goal

abbrev pub invariant-loop-member : goal.invariant-loop-member
invariant-loop-member l = l.members ≡ map (goes_if l.p l.place) (take l.member-index l.fn.members) ++ drop l.member-index l.fn.members
