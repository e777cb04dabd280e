-- The middle of a recovery block's line.
use Rattle.std.specs.Prelude.{ℕ, List, [], ◌∷◌, codes, decimal}
use Rattle.rb_trace.specs.Lines.{spaced}

-- its turn bound and where its parts stand, up to the addresses of its alternates
abbrev pub block_limits : ℕ → ℕ → ℕ → List ℕ
block_limits bound restart test =
    spaced (codes "within" ∷ decimal bound ∷ codes "restart" ∷ decimal restart ∷ codes "test" ∷ decimal test ∷ codes "alternates" ∷ [])
