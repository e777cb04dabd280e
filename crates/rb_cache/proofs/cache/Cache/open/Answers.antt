use Rattle.std.proofs.Common.{◌≡◌, ◌+◌, ◌-◌, ◌≤◌, ℕ, List, sym, ◌∙◌, ap, map, min, replicate, reverse, length, subst, arith, rules}
use Rattle.std.proofs.lemmas.List.{length-append, length-replicate}
use Rattle.std.specs.List.{AllByRecursion}
use Rattle.rb_cache.specs.Undo.{Region}
use Rattle.rb_cache.specs.Copies.{RecoveryCache, level_of, restored, entered}
use Rattle.rb_cache.specs.Regions.{top_height}
use Rattle.rb_cache.proofs.Stamps.{reverse-push, Holds-open}
use Rattle.rb_cache.proofs.Reach.{Holds-grow}
use Rattle.rb_cache.proofs.Views.{reverse-cons, copies-open}
use Rattle.rb_cache.proofs.Seen.{length-open_levels, regions_seen, top_fits, opened}
use Rattle.rb_cache.proofs.cache.Cache.open.Goals as goal

pub put-requires : goal.put-requires
put-requires g c =
    let i = c.self.inside in
    let many = length-open_levels i.marks.items i.arena.items i.levels i.words c.args.self.now c.self.view_is in
    omega (arith, c.self.invariant.marks_room, c.requires.room, i.marks.ok.0, many, ap (λ (k : RecoveryCache). k.limits.levels) c.self.view_is)

pub invariant_of-self : goal.invariant_of-self
invariant_of-self g c =
    let i = c.self.inside in
    let many = length-open_levels i.marks.items i.arena.items i.levels i.words c.args.self.now c.self.view_is in
    let at : c.len.result ≡ length i.arena.items = c.len.ensures ∙ i.arena.ok.0 in
    let top : top_height c.args.self.now.regions ≤ c.height-height.result =
    subst (λ (k : ℕ). top_height c.args.self.now.regions ≤ k) (sym c.height-height.ensures.words)
    (top_fits c.args.cells.now.words c.args.self.now c.requires.fits) in
    let st = c.cover.new.stamps.items in
    let grown = Holds-grow (min c.height-height.result i.words - length i.stamps.items) (reverse i.marks.items) i.stamps.items st i.arena.items
    c.cover.ensures.stamps c.self.invariant.holds in
    let more = min c.height-height.result i.words - length i.stamps.items in
    let size : length st ≡ length i.stamps.items + more =
    ap length c.cover.ensures.stamps ∙ length-append i.stamps.items (replicate more 0)
    ∙ ap (λ (k : ℕ). length i.stamps.items + k) (length-replicate {A = ℕ} more 0) in
    let h = Holds-open (length st) c.height-height.result (reverse i.marks.items) st i.arena.items grown
    (subst (λ (rs : List Region). top_height rs ≤ c.height-height.result)
    (sym (regions_seen i.marks.items i.arena.items i.levels i.words c.args.self.now c.self.view_is)) top) in
    record {
      few = omega (arith, c.requires.room, i.marks.ok.0, c.put.ensures.len, many, ap (λ (k : RecoveryCache). k.limits.levels) c.self.view_is);
      marks_room = omega (arith, c.put.ensures.room, c.self.invariant.marks_room);
      arena_room = c.self.invariant.arena_room;
      stamps_room = omega (arith, c.cover.ensures.room, c.self.invariant.stamps_room);
      few_stamps = omega (arith, size, c.self.invariant.few_stamps);
      reach = rw (c.put.ensures.items, reverse-push) (omega (arith, size));
      holds = rw (c.put.ensures.items, reverse-push, at) h;
    }

pub returns : goal.returns
returns g c =
    let i = c.self.inside in
    let ws = c.args.cells.now.words in
    let r = opened i.marks.items c.put.new.items.items i.arena.items c.len.result c.height-height.result i.levels i.words ws c.args.self.now
    c.self.view_is c.put.ensures.items (c.len.ensures ∙ i.arena.ok.0) c.height-height.ensures.words in
    record {
      copies = ap (λ (rs : List Region). reverse (restored ws rs)) r ∙ copies-open ws c.args.self.now.regions;
      levels = ap (λ (rs : List Region). reverse (map level_of rs)) r ∙ reverse-cons (entered (length ws)) (map level_of c.args.self.now.regions);
      fits = subst (AllByRecursion (λ (x : Region). x.height ≤ length ws)) (sym r) (omega arith, c.requires.fits);
      limits = search rules;
    }
