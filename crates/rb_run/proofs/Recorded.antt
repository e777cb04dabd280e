-- The lines of a record, of kept turns in memory.
use Rattle.std.proofs.Common.{◌≡◌, ℕ, Bool, true, false, List, [], ◌∷◌, ◌++◌, cond, decimal, nat_eq, refl}
use Rattle.rb_base.specs.declared.kept.Kept.{Kept}
use Rattle.rb_world.specs.Text.{Naming, kept_words, line_of, process_word}

-- the line of a kept turn
abbrev pub line_of_kept : Naming → Kept → List ℕ
line_of_kept names one = line_of (kept_words names one)

-- that line in pieces, as they are added
pub line_in_pieces : (names : Naming) (one : Kept)
    → decimal one.turn ++ 32 ∷ (process_word names one.process ++ (cond (nat_eq one.alternate 0) [] (32 ∷ decimal one.alternate) ++ 10 ∷ []))
    ≡ line_of_kept names one
line_in_pieces names one = pieces (nat_eq one.alternate 0)
  where
    pieces : (b : Bool) → decimal one.turn ++ 32 ∷ (process_word names one.process ++ (cond b [] (32 ∷ decimal one.alternate) ++ 10 ∷ []))
        ≡ line_of (decimal one.turn ∷ process_word names one.process ∷ cond b [] (decimal one.alternate ∷ []))
    pieces true = refl
    pieces false = refl
