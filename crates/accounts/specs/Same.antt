-- What changes of words inside a level leave as it was.
use Rattle.std.specs.Prelude.{◌≡◌, length}
use Rattle.rb_cell.specs.Store.{Store}
use Rattle.rb_cache.specs.Copies.{Fits, RecoveryCache, copies, open_levels}

-- Words may be others, but the copies of all open levels are the same, so are their number and the limits; and there are as many words.
pub record SameCopies (before : Store) (outer : RecoveryCache) (after : Store) (inner : RecoveryCache) : Type 0 where
  pub copies_same : copies after.words inner ≡ copies before.words outer
  pub fits : Fits after.words inner
  pub levels : length (open_levels inner) ≡ length (open_levels outer)
  pub limits : inner.limits ≡ outer.limits
  pub words : length after.words ≡ length before.words
  pub limit : after.limit ≡ before.limit
