use Rattle.std.proofs.Common.{w64, ◌∙◌, rules, arith}
use Rattle.std.proofs.lemmas.Int.{to_z-of_z}
use Rattle.rb_walk.proofs.Binding.{bound_more}
use Rattle.rb_walk.proofs.frames.bound.Goals as goal

pub loop-place-preserved : goal.loop-place-preserved
loop-place-preserved c = record {
  same = bound_more c.args.parameters.now c.args.values.now c.loop-place.slots.items c.push_reserved.new.self.items c.in_ok-bound.field-0 c.loop-place.place _ _
      c.loop-place-test.true c.in_ok-bound.ensures (to_z-of_z w64 c.number_at.result (search rules) ∙ c.number_at.ensures) c.push_reserved.ensures.items
      ∙ c.loop-place.invariant.same;
  many = omega arith;
  room = omega arith;
}
