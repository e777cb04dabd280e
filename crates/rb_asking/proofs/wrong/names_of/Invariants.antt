use Rattle.std.proofs.Common.{◌≡◌, map, take}
use Rattle.rb_asking.specs.Guides.{guide_of}
use Rattle.rb_asking.proofs.wrong.names_of.Given as goal

-- the names so far
abbrev pub invariant-loop-guide : goal.invariant-loop-guide
invariant-loop-guide l = map (λ n. n.now) l.names.items ≡ map (λ guide. guide.name) (map guide_of (take l.guide-index l.guides))
