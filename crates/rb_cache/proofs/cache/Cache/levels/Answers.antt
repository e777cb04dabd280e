use Rattle.std.proofs.Common.{length, subst, arith}
use Rattle.rb_cache.specs.Regions.{Stacked}
use Rattle.rb_cache.proofs.Seen.{length-open_levels, regions_seen, are_levels}
use Rattle.rb_cache.proofs.cache.Cache.levels.Goals as goal

pub returns-clause-count : goal.returns-clause-count
returns-clause-count c =
    let i = c.self.inside in
    omega (arith, c.len.ensures, i.marks.ok.0, length-open_levels i.marks.items i.arena.items i.levels i.words c.args.self.now c.self.view_is)

pub returns-clause-touched : goal.returns-clause-touched
returns-clause-touched c =
    let i = c.self.inside in
    are_levels (length i.stamps.items) c.args.self.now.regions
    (subst (Stacked (length i.stamps.items))
    (regions_seen i.marks.items i.arena.items i.levels i.words c.args.self.now c.self.view_is) c.self.invariant.holds.stacked)
