use Rattle.std.proofs.Common.{◌≡◌, ◌++◌, map, take, drop}
use Rattle.rb_conv.specs.Reject.{goes_off_line}
use Rattle.rb_conv.proofs.member.all_go_off_line.Given as goal

abbrev pub invariant-loop-member : goal.invariant-loop-member
invariant-loop-member l = l.members ≡ map goes_off_line (take l.member-index l.fn.members) ++ drop l.member-index l.fn.members
