use Rattle.std.proofs.Common.{◌<◌, ◌≤◌, List, map, reverse, length, sym, ◌∙◌, ap, subst, arith, rules}
use Rattle.std.specs.List.{AllByRecursion}
use Rattle.rb_cache.specs.Undo.{Region}
use Rattle.rb_cache.specs.Copies.{level_of, restored}
use Rattle.rb_cache.specs.Regions.{merged, Stacked}
use Rattle.rb_cache.proofs.Reach.{Holds-sized, lower_merged}
use Rattle.rb_cache.proofs.Views.{length-levels, copies-accepted, levels-merged}
use Rattle.rb_cache.proofs.Seen.{length-open_levels, regions_seen, fits-merged}
use Rattle.rb_cache.proofs.cache.Cache.accept.Goals as goal

pub accept_top-requires-clause-some : goal.accept_top-requires-clause-some
accept_top-requires-clause-some g c =
    let i = c.self.inside in
    omega (arith, c.requires.some, length-open_levels i.marks.items i.arena.items i.levels i.words c.args.self.now c.self.view_is)

pub invariant_of-self : goal.invariant_of-self
invariant_of-self g c =
    let i = c.self.inside in
    let new = c.accept_top.new in
    let h = c.accept_top.ensures.holds in
    let lower = lower_merged (length i.stamps.items) (reverse i.marks.items) (reverse new.marks.items) i.arena.items new.arena.items
    c.self.invariant.holds.stacked c.accept_top.ensures.regions in
    record {
      few = search rules;
      marks_room = search rules;
      arena_room = search rules;
      stamps_room = search rules;
      few_stamps = omega (arith, h.size, c.self.invariant.few_stamps);
      reach = omega (arith, h.size, lower, c.self.invariant.reach);
      holds = Holds-sized (length i.stamps.items) (reverse new.marks.items) new.stamps.items new.arena.items h;
    }

pub returns-clause-copies : goal.returns-clause-copies
returns-clause-copies g c =
    let i = c.self.inside in
    let ws = c.args.cells.now.words in
    let v = regions_seen i.marks.items i.arena.items i.levels i.words c.args.self.now c.self.view_is in
    let s : Stacked (length i.stamps.items) c.args.self.now.regions = subst (Stacked (length i.stamps.items)) v c.self.invariant.holds.stacked in
    let some : 0 < length c.args.self.now.regions = omega (arith, c.requires.some, length-levels c.args.self.now.regions) in
    ap (λ (rs : List Region). reverse (restored ws rs)) (c.accept_top.ensures.regions ∙ ap merged v)
    ∙ copies-accepted (length i.stamps.items) ws c.args.self.now.regions some s

pub returns-clause-levels : goal.returns-clause-levels
returns-clause-levels g c =
    let i = c.self.inside in
    let v = regions_seen i.marks.items i.arena.items i.levels i.words c.args.self.now c.self.view_is in
    ap (λ (rs : List Region). reverse (map level_of rs)) (c.accept_top.ensures.regions ∙ ap merged v) ∙ levels-merged c.args.self.now.regions

pub returns-clause-fits : goal.returns-clause-fits
returns-clause-fits g c =
    let i = c.self.inside in
    let ws = c.args.cells.now.words in
    let v = regions_seen i.marks.items i.arena.items i.levels i.words c.args.self.now c.self.view_is in
    subst (AllByRecursion (λ (x : Region). x.height ≤ length ws)) (sym (c.accept_top.ensures.regions ∙ ap merged v))
    (fits-merged (length ws) c.args.self.now.regions c.requires.fits)
