use Rattle.std.proofs.Common.{List, refl, arith}
use Rattle.rb_syntax.specs.declared.statement.Block.{Block}
use Rattle.rb_syntax.specs.declared.statement.Statement.{Statement}
use Rattle.rb_syntax.specs.Plain.{alternates_of, body, command, commands_of}
use Rattle.rb_code.specs.Agreement.Places.{alternates_turns, body_turns, command_turns, commands_turns}
use Rattle.rb_changes.proofs.Walked.{added, ended}
use Rattle.rb_changes.proofs.turn_places.+statement.Goals as goal

pub add_statements-loop-statement-preserved : goal.add_statements-loop-statement-preserved
add_statements-loop-statement-preserved t c =
    added (λ (statements : List Statement). commands_turns (commands_of statements))
    (λ (statement : Statement). command_turns (command statement)) (λ x xs. refl)
    c.loop-statement.statement-index c.args.statements.now c.statement-item.result _ c.loop-statement.turns.items
    c.add_statement.new.turns.items _ (omega (arith, c.loop-statement-test.true)) c.statement-item.is c.loop-statement.invariant
    c.in_ok-add_statement.ensures

pub add_statements-returns : goal.add_statements-returns
add_statements-returns t c =
    ended (λ (statements : List Statement). commands_turns (commands_of statements))
    (λ (statement : Statement). command_turns (command statement)) (λ x xs. refl)
    c.loop-statement.statement-index c.args.statements.now c.loop-statement.turns.items _
    (omega (arith, c.loop-statement-test.false)) refl c.loop-statement.invariant

pub add_alternates-loop-block-preserved : goal.add_alternates-loop-block-preserved
add_alternates-loop-block-preserved t c =
    added (λ (blocks : List Block). alternates_turns (alternates_of blocks)) (λ (block : Block). body_turns (body block)) (λ x xs. refl)
    c.loop-block.block-index c.args.alternates.now c.block-item.result _ c.loop-block.turns.items
    c.add_block.new.turns.items _ (omega (arith, c.loop-block-test.true)) c.block-item.is c.loop-block.invariant
    c.in_ok-add_block.ensures

pub add_alternates-returns : goal.add_alternates-returns
add_alternates-returns t c =
    ended (λ (blocks : List Block). alternates_turns (alternates_of blocks)) (λ (block : Block). body_turns (body block)) (λ x xs. refl)
    c.loop-block.block-index c.args.alternates.now c.loop-block.turns.items _
    (omega (arith, c.loop-block-test.false)) refl c.loop-block.invariant
