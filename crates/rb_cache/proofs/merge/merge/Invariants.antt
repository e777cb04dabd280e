use Rattle.std.proofs.Common.{◌≡◌, ◌<◌, ◌≤◌, length, drop, take, vec_capacity}
use Rattle.std.specs.List.{AllByRecursion}
use Rattle.rb_cache.specs.declared.entry.Entry.{Entry}
use Rattle.rb_cache.specs.Merging.{merge_all}
use Rattle.rb_cache.proofs.merge.merge.Given as goal

abbrev pub invariant-loop-i : goal.invariant-loop-i
invariant-loop-i l =
    record {
      from : l.first ≤ l.kept;
      behind : l.kept ≤ l.i;
      size : length l.arena.items ≡ length l.fn.arena.items;
      room : vec_capacity l.arena ≡ vec_capacity l.fn.arena;
      within : AllByRecursion (λ (e : Entry). e.place < length l.stamps.items) (drop l.i l.arena.items);
      rest : merge_all l.lower (record { stamps = l.stamps.items; log = take l.kept l.arena.items }) (drop l.i l.arena.items)
          ≡ merge_all l.lower (record { stamps = l.fn.stamps.items; log = take l.first l.fn.arena.items }) (drop l.first l.fn.arena.items);
    }
