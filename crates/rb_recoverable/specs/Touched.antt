-- How many places are touched, which is what it costs to put them back.
use Rattle.std.specs.Prelude.{ℕ, List, length, sum_by}
use Rattle.rb_cache.specs.Copies.{Level as Touched}

-- how many places are touched in a level, and in several
abbrev pub touched_count : Touched → ℕ
touched_count level = length level.touched

abbrev pub places_touched : List Touched → ℕ
places_touched levels = sum_by touched_count levels
