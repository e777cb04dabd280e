use Rattle.std.proofs.lemmas.Grind.{common_steps}
use Rattle.std.proofs.lemmas.List.{replicate-append-replicate}
use Rattle.std.proofs.Common.{◌≡◌, ◌-◌, ◌+◌, ◌≤◌, ◌++◌, ◌∷◌, [], List, ℕ, ◌∙◌, ap, sym, length, replicate, arith, rules, append_assoc}
use Rattle.rb_cache.proofs.grow.grow.Goals as goal

pub returns-clause-stamps : goal.returns-clause-stamps
returns-clause-stamps c =
    let st = c.args.stamps.now.items in
    let all : c.loop-i._i - length st ≡ c.args.count - length st = omega (arith, c.loop-i.invariant.from, c.loop-i.invariant.to, c.loop-i-test.false) in
    c.loop-i.invariant.stamps ∙ ap (λ (k : ℕ). st ++ replicate k 0) all

-- one more stamp
one_more : (st now new : List ℕ) (i : ℕ) → length st ≤ i → now ≡ st ++ replicate (i - length st) 0 → new ≡ now ++ 0 ∷ []
    → new ≡ st ++ replicate (i + 1 - length st) 0
one_more st now new i le so_far after =
    let more : i + 1 - length st ≡ (i - length st) + 1 = omega arith in
    after ∙ ap (λ (xs : List ℕ). xs ++ 0 ∷ []) so_far
    ∙ append_assoc st (replicate (i - length st) 0) (0 ∷ [])
    ∙ ap (λ (xs : List ℕ). st ++ xs) (replicate-append-replicate (i - length st) 1 0)
    ∙ ap (λ (k : ℕ). st ++ replicate k 0) (sym more)

pub loop-i-preserved : goal.loop-i-preserved
loop-i-preserved c = record {
  stamps = one_more c.args.stamps.now.items c.loop-i.stamps.items c.push_reserved.new.self.items c.loop-i._i c.loop-i.invariant.from
      c.loop-i.invariant.stamps c.push_reserved.ensures.items;
  from = omega (arith, c.loop-i.invariant.from);
  to = omega (arith, c.loop-i-test.true);
  room = search rules;
}

pub push_reserved-requires : goal.push_reserved-requires
push_reserved-requires c = grind (arith, common_steps)
