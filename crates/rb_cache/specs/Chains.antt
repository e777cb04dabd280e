-- The first value that was saved of a place.
use Rattle.std.specs.Prelude.{ℕ, ℤ, cond, eqb, List, [], ◌∷◌, Option, Some, None}
use Rattle.rb_cache.specs.Undo.{Saved}

-- the first value saved of a place, if any
abbrev pub first_saved : ℕ → List Saved → Option ℤ
first_saved p [] = None
first_saved p (s ∷ saved) = cond (eqb p s.place) (Some s.value) (first_saved p saved)

-- a value, or else another
abbrev pub or_else : Option ℤ → Option ℤ → Option ℤ
or_else None o = o
or_else (Some v) o = Some v

-- a value, or else this one
abbrev pub or_value : Option ℤ → ℤ → ℤ
or_value None v = v
or_value (Some w) v = w
