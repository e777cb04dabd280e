use Rattle.std.proofs.Common.{◌≡◌, ℕ, ◌<◌, arith}
use Rattle.std.proofs.lemmas.Bool.{eqb-false, eqb-true}
use Rattle.std.proofs.lemmas.Grind.{common_steps}
use Rattle.rb_operands.proofs.Joins.{joined_more}
use Rattle.rb_operands.proofs.line.join.Goals as goal
use Rattle.std.specs.Prelude.{nat_eq}

positive : (n : ℕ) → (n ≡ 0 → ⊥) → 0 < n
positive n h = omega (arith, h)

pub add_next-requires-clause-room : goal.add_next-requires-clause-room
add_next-requires-clause-room c =
    let j = c.loop-index.invariant.joins in
    let short = j.short in
    let few = c.requires.few in
    let room = c.loop-index.invariant.room in
    let test = c.loop-index-test.true in
    omega arith

pub loop-index-preserved : goal.loop-index-preserved
loop-index-preserved c =
    let i = c.loop-index.index in
    record {
      joins = joined_more c.args.texts.now c.args.pieces.now i _ c.loop-index.bytes.items c.add_next.new.bytes.items
          (nat_eq i 0) c.loop-index-test.true
          (λ q. eqb-true i 0 q) (λ q. positive i (eqb-false i 0 q)) c.loop-index.invariant.joins c.add_next.ensures.text c.add_next.ensures.bytes;
      room = let a = c.loop-index.invariant.room in let b = c.add_next.ensures.room in omega arith;
    }

pub returns-clause-joined : goal.returns-clause-joined
returns-clause-joined c = grind (arith, common_steps)
