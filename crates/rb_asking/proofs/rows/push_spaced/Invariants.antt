use Rattle.std.proofs.Common.{◌≡◌, ◌++◌, map, length}
use Rattle.std.specs.List.{flat_map}
use Rattle.rb_asking.specs.Misasked.{spaced}
use Rattle.rb_asking.proofs.rows.push_spaced.Given as goal

-- the bytes so far and those of the words that are left are all
abbrev pub invariant-loop-rest : goal.invariant-loop-rest
invariant-loop-rest l =
    l.text.items ++ flat_map spaced (map (λ word. word.now) l.rest)
    ≡ l.initial.text.items ++ flat_map spaced (map (λ word. word.now) l.words)

abbrev pub decreases-loop-rest : goal.decreases-loop-rest
decreases-loop-rest l = length l.rest
