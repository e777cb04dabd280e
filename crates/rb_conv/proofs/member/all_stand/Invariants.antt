use Rattle.std.proofs.Common.{◌≡◌, length}
use Rattle.std.specs.List.{list_all}
use Rattle.rb_conv.specs.Conversations.{is_at_line}
use Rattle.rb_conv.proofs.member.all_stand.Given as goal

-- those that were passed stand there
abbrev pub invariant-loop-rest : goal.invariant-loop-rest
invariant-loop-rest l = list_all (λ member. is_at_line member.place) l.members ≡ list_all (λ member. is_at_line member.place) l.rest

abbrev pub decreases-loop-rest : goal.decreases-loop-rest
decreases-loop-rest l = length l.rest
