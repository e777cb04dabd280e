use Rattle.std.proofs.Common.{◌≡◌, map, length}
use Rattle.rb_asking.specs.Guides.{guide_of}
use Rattle.rb_asking.specs.Misasked.{guide_named}
use Rattle.rb_asking.proofs.helping.guide_named.Given as goal

-- none of those before has the name
abbrev pub invariant-loop-rest : goal.invariant-loop-rest
invariant-loop-rest l = guide_named (map guide_of l.rest) l.name ≡ guide_named (map guide_of l.guides) l.name

abbrev pub decreases-loop-rest : goal.decreases-loop-rest
decreases-loop-rest l = length l.rest
