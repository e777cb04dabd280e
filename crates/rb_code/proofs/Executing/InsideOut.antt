-- Levels from the innermost out and their heights, as levels come, go and are put back.
use Rattle.std.proofs.Common.{◌≡◌, ℕ, zero, suc, ◌+◌, List, [], ◌∷◌, ◌++◌, length, map, reverse, take, drop, slice_get, Some, refl, ap, sym, ◌∙◌}
use Rattle.std.specs.List.{take-map}
use Rattle.std.proofs.lemmas.List.{map-append, reverse-append, take-append-drop, take_more}
use Rattle.std.proofs.lemmas.Option.{get_or_from_slice_get, slice_get_within}
use Rattle.rb_cache.specs.Copies.{Level as Touched, change_last, entered}
use Rattle.rb_world.specs.World.{Level, change_at, without_last}
use Rattle.rb_world.specs.Reject.{next_alternate}
use Rattle.rb_world.specs.Turn.{one_used}
use Rattle.rb_world.proofs.LastLevels.{without_last-map}
use Rattle.rb_code.specs.WordMachine.Turn.{Copy}
use Rattle.rb_code.specs.SoundCode.Stands.{height_of, inside_out, opened}
use Rattle.rb_code.proofs.Executing.OpenLevels.{heights_of}

-- one level more outside, and one more inside
inside_more : (level : Level Copy) (levels : List (Level Copy)) → inside_out (level ∷ levels) ≡ inside_out levels ++ opened level ∷ []
inside_more level levels = reverse-append (opened level ∷ []) (map opened levels)

pub inside_end : (levels : List (Level Copy)) (level : Level Copy) → inside_out (levels ++ level ∷ []) ≡ opened level ∷ inside_out levels
inside_end levels level = ap reverse (map-append opened levels (level ∷ [])) ∙ reverse-append (map opened levels) (opened level ∷ [])

-- the outermost levels
pub inside_taken : (levels : List (Level Copy)) (j : ℕ) (level : Level Copy) → slice_get levels j ≡ Some level
    → inside_out (take (j + 1) levels) ≡ opened level ∷ inside_out (take j levels)
inside_taken levels j level e =
    ap inside_out (take_more levels j level (slice_get_within levels j level e)
    ∙ ap (λ l. take j levels ++ l ∷ []) (get_or_from_slice_get levels j level level e))
    ∙ inside_end (take j levels) level

pub inside_split : (levels : List (Level Copy)) (n : ℕ) → inside_out levels ≡ inside_out (drop n levels) ++ inside_out (take n levels)
inside_split levels n =
    ap inside_out (sym (take-append-drop n levels))
    ∙ (ap reverse (map-append opened (take n levels) (drop n levels)) ∙ reverse-append (map opened (take n levels)) (map opened (drop n levels)))

-- the heights of levels from the outermost in
abbrev pub entry_heights : List (Level Copy) → List ℕ
entry_heights = map (λ level. length level.copy.words)

pub heights_out : (levels : List (Level Copy)) → reverse (map height_of (inside_out levels)) ≡ entry_heights levels
heights_out [] = refl
heights_out (level ∷ levels) =
    ap (λ l. reverse (map height_of l)) (inside_more level levels)
    ∙ (ap reverse (map-append height_of (inside_out levels) (opened level ∷ []))
    ∙ (reverse-append (map height_of (inside_out levels)) (height_of (opened level) ∷ [])
    ∙ ap (λ l. height_of (opened level) ∷ l) (heights_out levels)))

pub heights_taken : (n : ℕ) (touched : List Touched) (levels : List (Level Copy)) → heights_of touched ≡ entry_heights levels
    → heights_of (take n touched) ≡ entry_heights (take n levels)
heights_taken n touched levels e = sym (take-map _ n touched) ∙ (ap (take n) e ∙ take-map _ n levels)

-- putting a level back leaves heights as they are
pub heights_untouched : (touched : List Touched) → heights_of (change_last (λ level. entered level.height) touched) ≡ heights_of touched
heights_untouched [] = refl
heights_untouched (l ∷ []) = refl
heights_untouched (l ∷ k ∷ inner) = ap (λ hs. l.height ∷ hs) (heights_untouched (k ∷ inner))

-- turns that are used, and the next alternate, leave facts and copies as they are
pub used_same : (levels : List (Level Copy)) → map opened (map one_used levels) ≡ map opened levels
used_same [] = refl
used_same (level ∷ levels) = ap (λ l. opened level ∷ l) (used_same levels)

pub raised_same : (j : ℕ) (levels : List (Level Copy)) → map opened (change_at j next_alternate levels) ≡ map opened levels
raised_same j [] = refl
raised_same zero (level ∷ levels) = refl
raised_same (suc j) (level ∷ levels) = ap (λ l. opened level ∷ l) (raised_same j levels)

-- the same of all levels but the innermost
pub without_last_same : (levels later : List (Level Copy)) → map opened later ≡ map opened levels
    → inside_out (without_last later) ≡ inside_out (without_last levels)
without_last_same levels later e =
    ap reverse (sym (without_last-map opened later) ∙ (ap without_last e ∙ without_last-map opened levels))
