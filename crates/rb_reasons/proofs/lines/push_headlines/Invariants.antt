use Rattle.std.proofs.Common.{◌≡◌, ◌++◌, map, length}
use Rattle.std.specs.List.{flat_map}
use Rattle.rb_reasons.specs.Headlines.{headline}
use Rattle.rb_reasons.proofs.lines.push_headlines.Given as goal

-- the lines so far and those of the texts that are left are all
abbrev pub invariant-loop-rest : goal.invariant-loop-rest
invariant-loop-rest l =
    l.told.items ++ flat_map headline (map (λ text. text.now) l.rest)
    ≡ l.initial.told.items ++ flat_map headline (map (λ text. text.now) l.texts)

abbrev pub decreases-loop-rest : goal.decreases-loop-rest
decreases-loop-rest l = length l.rest
