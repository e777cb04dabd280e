use Rattle.std.proofs.Common.{refl}
use Rattle.rb_syntax.specs.declared.statement.Block.{Block}
use Rattle.rb_syntax.specs.declared.statement.Statement.{Statement}
use Rattle.rb_syntax.specs.Plain.{alternates_of, body, command, commands_of}
use Rattle.rb_scope.specs.Sites.{alternates_sites, body_sites, command_sites, commands_sites}
use Rattle.rb_faults.specs.Memory.{spot_of}
use Rattle.rb_faults.proofs.Visited.{step}
use Rattle.rb_faults.proofs.statement.+statement.Goals as goal

pub visit_statements-loop-statement-preserved : goal.visit_statements-loop-statement-preserved
visit_statements-loop-statement-preserved t c =
    let spot = spot_of c.args.spot.now in
    step (λ statements. commands_sites spot (commands_of statements))
    (λ (statement : Statement). command_sites spot (command statement)) (λ x xs. refl)
    c.args.statements.now c.loop-statement.statement-index c.statement-item.result c.statement-item.is c.loop-statement-test.true
    c.loop-statement.finder c.visit_statement.new.finder _ c.loop-statement.invariant c.in_ok-visit_statement.ensures

pub visit_alternates-loop-block-preserved : goal.visit_alternates-loop-block-preserved
visit_alternates-loop-block-preserved t c =
    let spot = spot_of c.args.spot.now in
    step (λ blocks. alternates_sites spot (alternates_of blocks)) (λ (block : Block). body_sites spot (body block)) (λ x xs. refl)
    c.args.alternates.now c.loop-block.block-index c.block-item.result c.block-item.is c.loop-block-test.true
    c.loop-block.finder c.visit_block.new.finder _ c.loop-block.invariant c.in_ok-visit_block.ensures
