use Rattle.std.proofs.Common.{◌≡◌, ◌++◌, ℕ, List, Bor, length}
use Rattle.std.specs.List.{flat_map}
use Rattle.rb_asking.proofs.rows.push.Given as goal

-- the bytes so far and those of the pieces that are left are all
abbrev pub invariant-loop-rest : goal.invariant-loop-rest
invariant-loop-rest l =
    let each : Bor (List ℕ) → List ℕ = λ piece. piece.now in
    l.text.items ++ flat_map each l.rest ≡ l.initial.text.items ++ flat_map each l.pieces

abbrev pub decreases-loop-rest : goal.decreases-loop-rest
decreases-loop-rest l = length l.rest
