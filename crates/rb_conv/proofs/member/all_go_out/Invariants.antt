use Rattle.std.proofs.Common.{◌≡◌, ◌++◌, map, take, drop}
use Rattle.rb_conv.specs.declared.member.Place.TheVariants.{Outside}
use Rattle.rb_conv.specs.Conversations.{goes}
use Rattle.rb_conv.proofs.member.all_go_out.Given as goal

abbrev pub invariant-loop-member : goal.invariant-loop-member
invariant-loop-member l = l.members ≡ map (goes Outside) (take l.member-index l.fn.members) ++ drop l.member-index l.fn.members
