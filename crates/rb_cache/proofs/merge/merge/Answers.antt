use Rattle.std.proofs.lemmas.Grind.{common_steps}
use Rattle.std.proofs.Common.{◌+◌, ◌<◌, ◌∷◌, List, ℕ, sym, ◌∙◌, ap, length, subst, arith, take, drop}
use Rattle.std.specs.List.{AllByRecursion}
use Rattle.rb_cache.specs.declared.entry.Entry.{Entry}
use Rattle.rb_cache.specs.Merging.{Merge, merge_one, merge_all}
use Rattle.rb_cache.proofs.merge.merge.Goals as goal

pub loop-i-preserved : goal.loop-i-preserved
loop-i-preserved c =
    let inv = c.loop-i.invariant in
    let k = c.merge_step-kept in
    let m = k.ensures.merged in
    let s : Merge = record { stamps = c.loop-i.stamps.items; log = take c.loop-i.kept c.loop-i.arena.items } in
    let new : Merge = record { stamps = k.new.stamps.items; log = take k.result k.new.arena.items } in
    let log = c.loop-i.arena.items in
    let small : ℕ → List Entry → Type 0 = λ (n : ℕ). AllByRecursion (λ (e : Entry). e.place < n) in
    let within : small (length c.loop-i.stamps.items) (m.0 ∷ drop (c.loop-i.i + 1) log) =
    subst (small (length c.loop-i.stamps.items)) m.1 inv.within in
    record {
      from = omega (arith, inv.from, k.ensures.from);
      behind = k.ensures.behind;
      size = k.ensures.size ∙ inv.size;
      room = k.ensures.room ∙ inv.room;
      within = subst (λ (n : ℕ). small n (drop (c.loop-i.i + 1) k.new.arena.items)) (sym k.ensures.stamps)
          (subst (small (length c.loop-i.stamps.items)) (sym k.ensures.rest) within.1);
      rest = ap (λ (x : Merge). merge_all c.args.lower x (drop (c.loop-i.i + 1) k.new.arena.items)) m.2
          ∙ ap (merge_all c.args.lower (merge_one c.args.lower s m.0)) k.ensures.rest
          ∙ sym (ap (merge_all c.args.lower s) m.1)
          ∙ inv.rest;
    }

pub returns-clause-merged : goal.returns-clause-merged
returns-clause-merged c = grind (arith, common_steps)
