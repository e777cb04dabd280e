use Rattle.std.proofs.Common.{◌≡◌, ◌&&◌, nat_eq, length}
use Rattle.std.specs.List.{list_any}
use Rattle.rb_conv.specs.Conversations.{is_within}
use Rattle.rb_conv.proofs.member.is_inside.Given as goal

-- none of those that were passed is the one
abbrev pub invariant-loop-rest : goal.invariant-loop-rest
invariant-loop-rest l =
    list_any (λ member. nat_eq member.process l.p && is_within member.place) l.members
    ≡ list_any (λ member. nat_eq member.process l.p && is_within member.place) l.rest

abbrev pub decreases-loop-rest : goal.decreases-loop-rest
decreases-loop-rest l = length l.rest
