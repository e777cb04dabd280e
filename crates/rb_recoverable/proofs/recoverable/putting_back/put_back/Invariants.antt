use Rattle.std.proofs.Common.{◌≡◌, ◌+◌, ◌<◌, ◌≤◌, length, take}
use Rattle.rb_cache.specs.Copies.{Fits, copies, open_levels}
use Rattle.rb_recoverable.specs.Touched.{places_touched}
use Rattle.rb_recoverable.proofs.recoverable.putting_back.put_back.Given as goal

abbrev pub decreases-inner : goal.decreases-inner
decreases-inner g l = length (open_levels l.cache)

abbrev pub invariant-inner : goal.invariant-inner
invariant-inner g l = record {
  fits : Fits l.cells.words l.cache;
  level : l.level < length (open_levels l.cache);
  fewer : length (open_levels l.cache) ≤ length (open_levels l.initial.cache);
  levels : open_levels l.cache ≡ take (length (open_levels l.cache)) (open_levels l.initial.cache);
  copied : copies l.cells.words l.cache ≡ take (length (open_levels l.cache)) (copies l.initial.cells.words l.initial.cache);
  limit : l.cells.limit ≡ l.initial.cells.limit;
  limits : l.cache.limits ≡ l.initial.cache.limits;
  work : l.steps + places_touched (open_levels l.cache) ≤ l.initial.steps + places_touched (open_levels l.initial.cache);
}
