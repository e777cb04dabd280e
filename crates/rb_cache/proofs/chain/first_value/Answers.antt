use Rattle.std.proofs.Common.{◌≡◌, ◌-◌, ℕ, ℤ, pos, w64, rules, Option, Some, None, map, take, drop, get_or, refl, sym, ◌∙◌, ap, arith}
use Rattle.std.proofs.lemmas.Int.{to_z-of_z}
use Rattle.rb_cache.specs.declared.entry.Entry.{Entry}
use Rattle.rb_cache.specs.Arena.{saved_of}
use Rattle.rb_cache.specs.Chains.{first_saved, or_else}
use Rattle.rb_cache.proofs.Chains.{link, beyond, last_small, last_is}
use Rattle.rb_cache.proofs.chain.first_value.Goals as goal

or_none : (o : Option ℤ) → or_else o None ≡ o
or_none None = refl
or_none (Some v) = refl

pub loop-stamp-init : goal.loop-stamp-init
loop-stamp-init c = record {
  small = omega (arith, c.requires.last, last_small c.args.arena.now c.args.at);
  same = λ d h. ap (λ (i : ℕ). (get_or c.args.arena.now (i - 1) d).place) c.requires.last
      ∙ last_is c.args.arena.now c.args.at d (omega (arith, c.requires.last, h));
  rest = or_none (first_saved c.args.at (map saved_of (drop c.args.first (take c.args.last c.args.arena.now))))
      ∙ ap (λ (i : ℕ). first_saved c.args.at (map saved_of (drop c.args.first (take i c.args.arena.now)))) c.requires.last
      ∙ sym (beyond c.args.first c.args.arena.now c.args.at);
}

pub loop-stamp-smaller : goal.loop-stamp-smaller
loop-stamp-smaller c =
    let l = c.loop-stamp in
    let d : Entry = record { place = 0; value = pos 0; earlier = 0 } in
    let here = l.invariant.same d (omega arith) in
    (link c.args.arena.now c.requires.before c.args.first l.stamp c.args.at l.found d c.loop-stamp-test.true l.invariant.small here).less

pub loop-stamp-preserved : goal.loop-stamp-preserved
loop-stamp-preserved c =
    let l = c.loop-stamp in
    let log = c.args.arena.now in
    let d : Entry = record { place = 0; value = pos 0; earlier = 0 } in
    let e : Entry = get_or log (l.stamp - 1) d in
    let before = first_saved c.args.at (map saved_of (drop c.args.first (take e.earlier log))) in
    let k =
    link log c.requires.before c.args.first l.stamp c.args.at l.found d c.loop-stamp-test.true l.invariant.small (l.invariant.same d (omega arith)) in
    record {
      small = omega (arith, k.less, l.invariant.small);
      same = k.same;
      rest = ap (λ (v : ℤ). or_else before (Some v)) (to_z-of_z w64 e.value (search rules)) ∙ k.rest ∙ l.invariant.rest;
    }
