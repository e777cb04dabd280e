use Rattle.std.proofs.Common.{◌≡◌, ◌≤◌, drop, length}
use Rattle.rb_code.specs.SoundCode.Sound.{Table}
use Rattle.rb_flow.specs.Flow.{goes_to_each}
use Rattle.rb_flow.specs.Held.{HasGrown, entry_of}
use Rattle.rb_search.specs.Search.{HasGained, Pending}
use Rattle.rb_search.specs.Found.{found, pending, IsWell, NoneTakes}
use Rattle.rb_search.specs.Weight.{left}
use Rattle.rb_search.proofs.search.arrive_each.Given as goal

abbrev pub invariant-loop-b : goal.invariant-loop-b
invariant-loop-b l = record {
  well : IsWell l.lists l.cells l.work;
  size : length l.cells ≡ length l.fn.cells;
  grown : HasGrown l.fn.lists l.lists;
  left : left l.lists l.cells l.work ≤ left l.fn.lists l.fn.cells l.fn.work;
  completes : (g : Table) (q : Pending)
      → HasGained (goes_to_each (entry_of l.fn.lists l.x) (drop l.b-index l.list))
      (found l.lists l.cells) (pending l.cells) g q
      → HasGained (goes_to_each (entry_of l.fn.lists l.x) l.list)
      (found l.fn.lists l.fn.cells) (pending l.fn.cells) g q;
  none : NoneTakes (length l.fn.cells) (found l.lists l.cells)
      (goes_to_each (entry_of l.fn.lists l.x) (drop l.b-index l.list))
      → NoneTakes (length l.fn.cells) (found l.fn.lists l.fn.cells)
      (goes_to_each (entry_of l.fn.lists l.x) l.list);
}
