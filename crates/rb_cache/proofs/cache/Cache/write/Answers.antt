use Rattle.rb_cache.proofs.Reach.{Holds-sized}
use Rattle.std.proofs.lemmas.Grind.{common_steps}
use Rattle.std.proofs.Common.{◌≡◌, ◌≤◌, ℕ, ℤ, List, sym, ◌∙◌, ap, map, reverse, length, subst, pos, w64, to_z, of_z, get_or, set, rules, arith}
use Rattle.std.proofs.lemmas.List.{length-set}
use Rattle.std.proofs.lemmas.Int.{to_z-of_z}
use Rattle.std.specs.List.{AllByRecursion}
use Rattle.rb_cell.specs.Store.{Store}
use Rattle.rb_cache.specs.declared.entry.Mark.{Mark}
use Rattle.rb_cache.specs.Undo.{Region}
use Rattle.rb_cache.specs.Copies.{RecoveryCache, level_of, restored}
use Rattle.rb_cache.specs.Regions.{recorded}
use Rattle.rb_cache.specs.Arena.{regions_of, Holds}
use Rattle.rb_cache.proofs.Copies.{restored-write}
use Rattle.rb_cache.proofs.Views.{levels-recorded}
use Rattle.rb_cache.proofs.Seen.{regions_seen, fits-recorded}
use Rattle.rb_cache.proofs.cache.Cache.write.Goals as goal

pub returns : goal.returns
returns g c =
    let i = c.self.inside in
    let k = c.args.self.now in
    let ws = c.args.cells.now.words in
    let at = c.args.at in
    let old = get_or ws at (pos 0) in
    let v = to_z w64 (of_z w64 c.args.value) in
    let log = c.save_prior.new.arena.items in
    let P : List Mark → Type 0 = λ (ms : List Mark). regions_of (reverse ms) log ≡ recorded at old (regions_of (reverse ms) i.arena.items) in
    let saved : P i.marks.items = subst P c.deref.ensures.value c.save_prior.ensures.regions in
    let r : regions_of (reverse i.marks.items) log ≡ recorded at old k.regions =
    saved ∙ ap (recorded at old) (regions_seen i.marks.items i.arena.items i.levels i.words k c.self.view_is) in
    let w : c.write.new.self.words ≡ set ws at v = ap (λ (s : Store). s.words) c.write.ensures.words in
    let n : length c.write.new.self.words ≡ length ws = ap length w ∙ length-set ws at v in
    record {
      cells = c.write.ensures.words
          ∙ ap (λ (x : ℤ). record { words = set ws at x; limit = c.args.cells.now.limit }) (to_z-of_z w64 c.args.value (search rules));
      copies = ap (λ (us : List ℤ). reverse (restored us (regions_of (reverse i.marks.items) log))) w
          ∙ ap (λ (rs : List Region). reverse (restored (set ws at v) rs)) saved
          ∙ ap reverse (restored-write (length i.stamps.items) ws at v (regions_of (reverse i.marks.items) i.arena.items) c.self.invariant.holds.stacked)
          ∙ ap (λ (x : RecoveryCache). reverse (restored ws x.regions)) c.self.view_is;
      levels = ap (λ (rs : List Region). reverse (map level_of rs)) r ∙ levels-recorded at old k.regions;
      fits = subst (λ (h : ℕ). AllByRecursion (λ (x : Region). x.height ≤ h) (regions_of (reverse i.marks.items) log)) (sym n)
          (subst (AllByRecursion (λ (x : Region). x.height ≤ length ws)) (sym r) (fits-recorded (length ws) at old k.regions c.requires.fits));
      limits = search rules;
      ticks = search rules;
    }

pub save_prior-requires-clause-room : goal.save_prior-requires-clause-room
save_prior-requires-clause-room g c = grind (arith, common_steps)

pub invariant_of-self : goal.invariant_of-self
invariant_of-self g c =
    let i = c.self.inside in
    let st = c.save_prior.new.stamps.items in
    let log = c.save_prior.new.arena.items in
    let n = length i.stamps.items in
    let h : Holds n (reverse i.marks.items) st log =
    subst (λ (ms : List Mark). Holds n (reverse ms) st log) c.deref.ensures.value c.save_prior.ensures.holds in
    record {
      few = c.self.invariant.few;
      marks_room = c.self.invariant.marks_room;
      arena_room = omega (arith, c.save_prior.ensures.room, c.self.invariant.arena_room);
      stamps_room = omega (arith, c.save_prior.ensures.stamps_room, c.self.invariant.stamps_room);
      few_stamps = omega (arith, h.size, c.self.invariant.few_stamps);
      reach = omega (arith, h.size, c.self.invariant.reach);
      holds = Holds-sized n (reverse i.marks.items) st log h;
    }

pub save_prior-requires-clause-within : goal.save_prior-requires-clause-within
save_prior-requires-clause-within g c = grind (arith, common_steps)

pub save_prior-requires-clause-holds : goal.save_prior-requires-clause-holds
save_prior-requires-clause-holds g c = grind (arith, common_steps)
