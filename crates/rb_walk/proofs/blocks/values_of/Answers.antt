use Rattle.std.proofs.Common.{◌≡◌, ◌<◌, ◌∷◌, ◌++◌, [], length, Err, ap, ◌∙◌, w64, rules, arith}
use Rattle.std.proofs.lemmas.Int.{to_z-of_z}
use Rattle.rb_walk.proofs.Arguments.{values_all, values_halt, values_more}
use Rattle.rb_walk.proofs.blocks.values_of.Goals as goal

pub returns-in_err-present : goal.returns-in_err-present
returns-in_err-present c =
    let same : c.from_residual-in_err-present.result ≡ Err c.in_err-present.field-0.0 = search rules in
    let within : c.loop-argument.argument-index < length c.args.arguments.now = omega arith in
    rw same
    (values_halt c.args.environment.now c.args.arguments.now c.loop-argument.argument-index c.loop-argument.values.items
    c.loop-argument.invariant.same c.argument-item.result within c.argument-item.is c.in_err-present.field-0.0 c.in_err-present.ensures)

pub loop-argument-preserved : goal.loop-argument-preserved
loop-argument-preserved c = record {
  same = values_more c.args.environment.now c.args.arguments.now c.loop-argument.argument-index c.loop-argument.values.items
      c.loop-argument.invariant.same c.argument-item.result c.loop-argument-test.true c.argument-item.is c.in_ok-present.field-0
      c.push_reserved.new.self.items c.in_ok-present.ensures
      (c.push_reserved.ensures.items
      ∙ ap (λ v. c.loop-argument.values.items ++ v ∷ []) (to_z-of_z w64 c.in_ok-present.field-0 (search rules)));
  many = omega arith;
  room = omega arith;
}

pub returns : goal.returns
returns c =
    values_all c.args.environment.now c.args.arguments.now c.loop-argument.argument-index c.loop-argument.values.items
    c.loop-argument.invariant.same c.loop-argument-test.false
