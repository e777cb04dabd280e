-- What holds of the copies of every cache. This project's own.
use Rattle.std.specs.Prelude.{◌≡◌, ℕ, ◌<◌, ◌≤◌, ℤ, pos, List, ◌++◌, Some, slice_get, map, take, replicate, reverse, length}
use Rattle.std.specs.List.{AllByRecursion}
use Rattle.rb_cache.specs.Undo.{undo}
use Rattle.rb_cache.specs.Copies.{RecoveryCache, Level, open_levels, copies, Fits}

-- the copy of level k is what undoing as far out as level k makes of the words
abbrev pub CopiesAreUndone : Type 0
CopiesAreUndone =
    (words : List ℤ) (cache : RecoveryCache) (k : ℕ) → k < length cache.regions
    → slice_get (copies words cache) k ≡ Some (undo words (reverse cache.regions) k)

-- the height of a level is the length of its copy
abbrev pub HeightsAreLengths : Type 0
HeightsAreLengths =
    (words : List ℤ) (cache : RecoveryCache) → Fits words cache
    → map (λ (copy : List ℤ). length copy) (copies words cache) ≡ map (λ (level : Level). level.height) (open_levels cache)

-- more words change no copy
abbrev pub GrowingKeepsCopies : Type 0
GrowingKeepsCopies =
    (words : List ℤ) (cache : RecoveryCache) (n : ℕ) → Fits words cache
    → (copies (words ++ replicate n (pos 0)) cache ≡ copies words cache) × Fits (words ++ replicate n (pos 0)) cache

-- fewer words, but as many as in each copy, change no copy
abbrev pub ShrinkingKeepsCopies : Type 0
ShrinkingKeepsCopies =
    (words : List ℤ) (cache : RecoveryCache) (height : ℕ) → Fits words cache → height ≤ length words
    → AllByRecursion (λ (copy : List ℤ). length copy ≤ height) (copies words cache)
    → (copies (take height words) cache ≡ copies words cache) × Fits (take height words) cache
