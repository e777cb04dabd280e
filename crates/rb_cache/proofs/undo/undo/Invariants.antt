use Rattle.std.proofs.Common.{◌≡◌, ◌+◌, ◌<◌, ◌≤◌, length, map, drop, take, vec_capacity}
use Rattle.std.specs.List.{AllByRecursion}
use Rattle.rb_cache.specs.Undo.{Saved, put_back}
use Rattle.rb_cache.specs.Arena.{saved_of, WellStamped}
use Rattle.rb_cache.proofs.undo.undo.Given as goal

abbrev pub invariant-loop-arena : goal.invariant-loop-arena
invariant-loop-arena g l =
    record {
      first : l.first ≤ length l.arena.items;
      front : take (length l.arena.items) l.fn.arena.items ≡ l.arena.items;
      room : vec_capacity l.arena ≡ vec_capacity l.fn.arena;
      stamps_room : vec_capacity l.stamps ≡ vec_capacity l.fn.stamps;
      size : length l.stamps.items ≡ length l.fn.stamps.items;
      stamped : WellStamped l.stamps.items l.arena.items;
      below : AllByRecursion (λ (e : Saved). e.place < length l.stamps.items) (map saved_of (drop l.first l.arena.items));
      within : AllByRecursion (λ (e : Saved). e.place < length l.cells.words) (map saved_of (drop l.first l.arena.items));
      words : put_back l.cells.words (map saved_of (drop l.first l.arena.items))
          ≡ put_back l.fn.cells.words (map saved_of (drop l.first l.fn.arena.items));
      limit : l.cells.limit ≡ l.fn.cells.limit;
      ticks : l.steps + length l.arena.items ≡ l.fn.steps + length l.fn.arena.items;
    }

abbrev pub decreases-loop-arena : goal.decreases-loop-arena
decreases-loop-arena g l = length l.arena.items
