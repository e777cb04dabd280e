use Rattle.std.proofs.lemmas.Grind.{common_steps}
use Rattle.std.proofs.Common.{◌≡◌, ℕ, ℤ, List, ◌∙◌, ap, length, map, subst, arith, rules, take, drop}
use Rattle.rb_cell.specs.Store.{Store}
use Rattle.rb_cache.specs.declared.entry.Entry.{Entry}
use Rattle.rb_cache.specs.Undo.{put_back}
use Rattle.rb_cache.specs.Copies.{last_copy}
use Rattle.rb_cache.specs.Arena.{saved_of, WellStamped}
use Rattle.rb_cache.proofs.Copies.{length-put_back}
use Rattle.rb_cache.proofs.Stamps.{Holds-undo}
use Rattle.rb_cache.proofs.Rejecting.{innermost_is, rejected}
use Rattle.rb_cache.proofs.cache.Cache.reject.Goals as goal

pub undo-requires-clause-below : goal.undo-requires-clause-below
undo-requires-clause-below g c =
    let i = c.self.inside in
    let m = c.index-top.result.now in
    let h = innermost_is c.args.cells.now.words c.args.self.now i.marks.items i.stamps.items i.arena.items i.levels i.words c.len.result m
    c.self.view_is c.requires.some (c.len.ensures ∙ i.marks.ok.0) c.index-top.ensures c.self.invariant.holds c.requires.fits in
    h.top.holds.stacked.0.within

pub undo-requires-clause-within : goal.undo-requires-clause-within
undo-requires-clause-within g c =
    let i = c.self.inside in
    let m = c.index-top.result.now in
    let h = innermost_is c.args.cells.now.words c.args.self.now i.marks.items i.stamps.items i.arena.items i.levels i.words c.len.result m
    c.self.view_is c.requires.some (c.len.ensures ∙ i.marks.ok.0) c.index-top.ensures c.self.invariant.holds c.requires.fits in
    h.within

pub drop_to-requires : goal.drop_to-requires
drop_to-requires g c =
    let i = c.self.inside in
    let m = c.index-top.result.now in
    let h = innermost_is c.args.cells.now.words c.args.self.now i.marks.items i.stamps.items i.arena.items i.levels i.words c.len.result m
    c.self.view_is c.requires.some (c.len.ensures ∙ i.marks.ok.0) c.index-top.ensures c.self.invariant.holds c.requires.fits in
    omega (
      arith,
      h.low,
      ap (λ (s : Store). length s.words) c.undo.ensures.cells,
      length-put_back c.args.cells.now.words
          (map saved_of (drop m.first i.arena.items)),
    )

pub invariant_of-self : goal.invariant_of-self
invariant_of-self g c =
    let i = c.self.inside in
    let m = c.index-top.result.now in
    let h = innermost_is c.args.cells.now.words c.args.self.now i.marks.items i.stamps.items i.arena.items i.levels i.words c.len.result m
    c.self.view_is c.requires.some (c.len.ensures ∙ i.marks.ok.0) c.index-top.ensures c.self.invariant.holds c.requires.fits in
    let stamped = subst (λ (xs : List Entry). WellStamped c.undo.new.stamps.items xs) c.undo.ensures.arena c.undo.ensures.stamped in
    record {
      few = c.self.invariant.few;
      marks_room = c.self.invariant.marks_room;
      arena_room = omega (arith, c.undo.ensures.room, c.self.invariant.arena_room);
      stamps_room = omega (arith, c.undo.ensures.stamps_room, c.self.invariant.stamps_room);
      few_stamps = omega (arith, c.undo.ensures.stamps, c.self.invariant.few_stamps);
      reach = omega (arith, c.undo.ensures.stamps, c.self.invariant.reach);
      holds = rw (h.top.is, c.undo.ensures.arena, c.undo.ensures.stamps)
          (Holds-undo (length i.stamps.items) m h.top.around i.stamps.items c.undo.new.stamps.items i.arena.items h.top.holds stamped c.undo.ensures.stamps);
    }

pub returns : goal.returns
returns g c =
    let i = c.self.inside in
    let m = c.index-top.result.now in
    let ws = c.args.cells.now.words in
    let us = c.drop_to.new.self.words in
    let h = innermost_is c.args.cells.now.words c.args.self.now i.marks.items i.stamps.items i.arena.items i.levels i.words c.len.result m
    c.self.view_is c.requires.some (c.len.ensures ∙ i.marks.ok.0) c.index-top.ensures c.self.invariant.holds c.requires.fits in
    let u : us ≡ take m.height (put_back ws (map saved_of (drop m.first i.arena.items))) =
    ap (λ (s : Store). s.words) c.drop_to.ensures ∙ ap (λ (s : Store). take m.height s.words) c.undo.ensures.cells in
    let limit : c.drop_to.new.self.limit ≡ c.args.cells.now.limit = ap (λ (s : Store). s.limit) c.drop_to.ensures
    ∙ ap (λ (s : Store). s.limit) c.undo.ensures.cells in
    let r = rejected (length i.stamps.items) ws us c.args.self.now i.marks.items i.stamps.items i.arena.items c.undo.new.arena.items m h u c.undo.ensures.arena in
    record {
      cells = ap (λ (xs : List ℤ). record { words = xs; limit = c.drop_to.new.self.limit }) r.words
          ∙ ap (λ (n : ℕ). record { words = last_copy ws c.args.self.now; limit = n }) limit;
      copies = r.copies;
      levels = r.levels;
      fits = r.fits;
      limits = search rules;
      ticks = omega (arith, c.undo.ensures.ticks, h.touched);
    }

pub undo-requires-clause-first : goal.undo-requires-clause-first
undo-requires-clause-first g c = grind (arith, common_steps)

pub index-top-requires : goal.index-top-requires
index-top-requires g c = grind (arith, common_steps)

pub overflow_sub-len : goal.overflow_sub-len
overflow_sub-len g c = grind (arith, common_steps)

pub undo-requires-clause-stamped : goal.undo-requires-clause-stamped
undo-requires-clause-stamped g c = grind (arith, common_steps)
