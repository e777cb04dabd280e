use Rattle.std.proofs.Common.{◌≡◌, drop}
use Rattle.rb_syntax.specs.Plain.{alternates_of, commands_of}
use Rattle.rb_scope.specs.Sites.{alternates_sites, commands_sites}
use Rattle.rb_faults.specs.Finding.{visited}
use Rattle.rb_faults.specs.Memory.{spot_of}
use Rattle.rb_faults.proofs.statement.+statement.Given as goal

-- what is found, and then behind the other statements
abbrev pub invariant-visit_statements-loop-statement : goal.invariant-visit_statements-loop-statement
invariant-visit_statements-loop-statement l =
    visited l.finder (commands_sites (spot_of l.spot) (commands_of (drop l.statement-index l.statements)))
    ≡ visited l.fn.finder (commands_sites (spot_of l.spot) (commands_of l.statements))

-- what is found, and then behind the other alternates
abbrev pub invariant-visit_alternates-loop-block : goal.invariant-visit_alternates-loop-block
invariant-visit_alternates-loop-block l =
    visited l.finder (alternates_sites (spot_of l.spot) (alternates_of (drop l.block-index l.alternates)))
    ≡ visited l.fn.finder (alternates_sites (spot_of l.spot) (alternates_of l.alternates))
