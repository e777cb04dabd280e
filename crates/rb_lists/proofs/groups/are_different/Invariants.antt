use Rattle.std.proofs.Common.{◌<◌, nat_eq, take}
use Rattle.std.specs.List.{All, IsDistinct}
use Rattle.rb_lists.proofs.groups.are_different.Given as goal

-- those so far differ, and are processes
abbrev pub invariant-loop-index : goal.invariant-loop-index
invariant-loop-index l = record {
  differ : IsDistinct nat_eq (take l.index l.members);
  processes : All (λ member. member < l.processes) (take l.index l.members);
}
