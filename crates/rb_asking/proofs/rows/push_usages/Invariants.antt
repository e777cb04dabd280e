use Rattle.std.proofs.Common.{◌≡◌, ◌++◌, map, length}
use Rattle.std.specs.List.{flat_map}
use Rattle.rb_asking.specs.Guides.{guide_of}
use Rattle.rb_asking.specs.Misasked.{usage_row}
use Rattle.rb_asking.proofs.rows.push_usages.Given as goal

-- the bytes so far and those of the commands that are left are all
abbrev pub invariant-loop-rest : goal.invariant-loop-rest
invariant-loop-rest l =
    l.text.items ++ flat_map usage_row (map guide_of l.rest) ≡ l.initial.text.items ++ flat_map usage_row (map guide_of l.guides)

abbrev pub decreases-loop-rest : goal.decreases-loop-rest
decreases-loop-rest l = length l.rest
