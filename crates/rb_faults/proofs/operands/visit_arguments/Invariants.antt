use Rattle.std.proofs.Common.{◌≡◌, drop, map}
use Rattle.std.specs.List.{flat_map}
use Rattle.rb_syntax.specs.Plain.{expression}
use Rattle.rb_scope.specs.Sites.{expression_sites}
use Rattle.rb_faults.specs.Finding.{visited}
use Rattle.rb_faults.specs.Memory.{spot_of}
use Rattle.rb_faults.proofs.operands.visit_arguments.Given as goal

-- what is found, and then behind the other arguments
abbrev pub invariant-loop-argument : goal.invariant-loop-argument
invariant-loop-argument l =
    visited l.finder (flat_map (expression_sites (spot_of l.spot)) (map expression (drop l.argument-index l.arguments)))
    ≡ visited l.fn.finder (flat_map (expression_sites (spot_of l.spot)) (map expression l.arguments))
