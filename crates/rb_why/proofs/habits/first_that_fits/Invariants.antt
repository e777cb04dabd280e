use Rattle.std.proofs.Common.{◌≡◌, Bor, List, ℕ, length, map}
use Rattle.std.specs.List.{find}
use Rattle.rb_why.specs.Habits.{fits, row_of}
use Rattle.rb_why.proofs.habits.first_that_fits.Given as goal

-- the first that fits is among those that are left
abbrev pub invariant-loop-rest : goal.invariant-loop-rest
invariant-loop-rest l =
    let may : List (List ℕ) = map (λ (token : Bor (List ℕ)). token.now) l.spot.may.now in
    find (fits l.spot.before.now may l.spot.token.now l.spot.bytes.now) (map row_of l.rest)
    ≡ find (fits l.spot.before.now may l.spot.token.now l.spot.bytes.now) (map row_of l.habits)

abbrev pub decreases-loop-rest : goal.decreases-loop-rest
decreases-loop-rest l = length l.rest
