use Rattle.std.proofs.Common.{◌≡◌, length}
use Rattle.rb_cache.specs.Copies.{Fits, open_levels}
use Rattle.rb_recoverable.proofs.recoverable.levels.forget.Given as goal

abbrev pub decreases-inner : goal.decreases-inner
decreases-inner g l = length (open_levels l.cache)

abbrev pub invariant-inner : goal.invariant-inner
invariant-inner g l = record { fits : Fits l.cells.words l.cache; limits : l.cache.limits ≡ l.initial.cache.limits }
