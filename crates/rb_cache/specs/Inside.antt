-- The invariant of a cache.
use Rattle.std.specs.Prelude.{◌*◌, ◌≤◌, length, min, reverse, vec_len, vec_capacity}
use Rattle.rb_cache.specs.Arena.{Holds}
use Rattle.rb_cache.specs.Merging.{innermost}
use Rattle.rb_cache.specs.declared.cache.Cache.TheInside.{Inside}

-- room for all levels, all their entries and a stamp for each word; at least the words that were there at an entry, the
-- most of them at the innermost one, have theirs; and what ties the stamps, the arena and the marks
pub record IsKept (c : Inside) : Type 0 where
  pub few : vec_len c.marks ≤ c.levels
  pub marks_room : c.levels ≤ vec_capacity c.marks
  pub arena_room : c.levels * c.words ≤ vec_capacity c.arena
  pub stamps_room : c.words ≤ vec_capacity c.stamps
  pub few_stamps : length c.stamps.items ≤ c.words
  pub reach : min (innermost (reverse c.marks.items)).height c.words ≤ length c.stamps.items
  pub holds : Holds (length c.stamps.items) (reverse c.marks.items) c.stamps.items c.arena.items
