use Rattle.std.proofs.Common.{map, refl}
use Rattle.std.specs.List.{flat_map}
use Rattle.rb_syntax.specs.declared.expression.Expr.{Expr}
use Rattle.rb_syntax.specs.Plain.{expression}
use Rattle.rb_scope.specs.Sites.{expression_sites}
use Rattle.rb_faults.specs.Memory.{spot_of}
use Rattle.rb_faults.proofs.Visited.{step}
use Rattle.rb_faults.proofs.operands.visit_arguments.Goals as goal

pub loop-argument-preserved : goal.loop-argument-preserved
loop-argument-preserved c =
    let spot = spot_of c.args.spot.now in
    step (λ arguments. flat_map (expression_sites spot) (map expression arguments))
    (λ (argument : Expr). expression_sites spot (expression argument)) (λ x xs. refl)
    c.args.arguments.now c.loop-argument.argument-index c.argument-item.result c.argument-item.is c.loop-argument-test.true
    c.loop-argument.finder c.visit_expression.new.finder _ c.loop-argument.invariant c.in_ok-visit_expression.ensures
