use Rattle.std.proofs.Common.{None, refl, sym, ap, ◌∙◌, arith}
use Rattle.rb_grammar.proofs.Accepting.Forms.{other_alternate, statement_recovery}
use Rattle.rb_grammar.proofs.Made.{recovery_made}
use Rattle.rb_grammar.proofs.Pushing.{alternates_end, statements_end, statements_init, statements_step}
use Rattle.rb_grammar.proofs.Pairs.{by_named, exit_two, opens_sure}
use Rattle.rb_grammar.proofs.Reaching.{begins, begins_here, by_part, by_terminal, complete, exit_first, exit_memory, exit_missed}
use Rattle.rb_grammar.proofs.Reaching.{exit_sure, exit_within, last_start, passes, same_value, starts, within}
use Rattle.rb_grammar.proofs.Receipts.{else_begins, else_stands, no_receipt_end, receipt_else, receipt_wait, wait_begins}
use Rattle.rb_grammar.proofs.Accepting.Starts.{no_alternate, no_block, no_else, no_recovery, no_statements, same_statements, some_alternate, some_recovery}
use Rattle.rb_grammar.specs.Finding.{may_not_wait}
use Rattle.rb_grammar.specs.Grammar.{joined}
use Rattle.rb_grammar.specs.Parts.{Part}
use Rattle.rb_grammar.specs.StatementTable.{alternates_after, recovering_after, start_statement, statements_after}
use Rattle.rb_syntax.proofs.Bridge.{command_if, command_receive, command_recover, command_while}
use Rattle.rb_syntax.specs.Plain.{alternates_of, body, expression, otherwise, recovery_block, reference}
use Rattle.rb_syntax.specs.Tree.{NoElse, Receiving, Recovering, Recovers}
use Rattle.std.specs.Option.{is_some}
use Rattle.rb_base.specs.declared.edition.Edition.TheVariants as editions
use Rattle.rb_parse.proofs.Closing.{last_closed, last_missed}
use Rattle.rb_parse.proofs.Lists.{alternate_first, alternate_read}
use Rattle.rb_parse.proofs.Shorter.{and_fewer, at_most, call_fewer, falls_32, fewer_still, no_more}
use Rattle.rb_parse.proofs.statements.+statement.Goals as goal

pub read_statements-statements-init : goal.read_statements-statements-init
read_statements-statements-init t c =
    record {
      reached = statements_init c.args.edition c.new-statements.result.items c.args.cursor.now.point c.new-statements.ensures.items;
      ending = refl;
      shorter = omega arith;
    }

pub read_statements-returns-in_err-statement-clause-err : goal.read_statements-returns-in_err-statement-clause-err
read_statements-returns-in_err-statement-clause-err t c =
    exit_within c.from_residual.result c.from_residual.ensures.1 c.statements.invariant.ending
    (within c.statements.invariant.reached (begins_here (Part.Statement c.args.edition) _ (statements_after c.args.edition) refl
    (sym (same_statements c.args.edition _) ∙ ap (λ first. is_some (start_statement editions.First first)) (sym c.look.ensures) ∙
    sym c.statements-test.ensures))) c.in_err-statement.ensures.err

pub read_statements-returns-in_err-append-clause-err : goal.read_statements-returns-in_err-append-clause-err
read_statements-returns-in_err-append-clause-err t c =
    exit_memory _ _ _ c.from_residual-in_err-append.result _ c.from_residual-in_err-append.ensures.1 c.in_err-append.ensures.memory

pub read_statements-statements-preserved : goal.read_statements-statements-preserved
read_statements-statements-preserved t c =
    record {
      reached = statements_step c.args.edition c.statements.statements.items c.append.new.list.items c.in_ok-statement.statement
          c.in_ok-append.ensures.items c.statements.invariant.reached
          (by_part (begins_here (Part.Statement c.args.edition) _ (statements_after c.args.edition) refl
          (sym (same_statements c.args.edition _) ∙ ap (λ first. is_some (start_statement editions.First first))
          (sym c.look.ensures) ∙ sym c.statements-test.ensures)) c.in_ok-statement.ensures.ok);
      ending = c.in_ok-statement.ensures.ending ∙ c.statements.invariant.ending;
      shorter = omega (arith, c.in_ok-statement.ensures.shorter, c.statements.invariant.shorter);
    }

pub read_statements-returns-clause-ok : goal.read_statements-returns-clause-ok
read_statements-returns-clause-ok t c =
    statements_end c.args.edition c.statements.statements.items c.statements.invariant.reached
    (no_statements c.args.edition _ (ap (λ first. is_some (start_statement editions.First first)) (sym c.look.ensures) ∙ sym
    c.statements-test.ensures))

pub read_block-returns-in_err-take-clause-err : goal.read_block-returns-in_err-take-clause-err
read_block-returns-in_err-take-clause-err t c =
    exit_first (Part.Block c.args.edition) _ refl (no_block c.args.edition _) refl c.from_residual.result
    c.from_residual.ensures.1 refl c.in_err-take.ensures.err

pub read_block-returns-in_err-vars-clause-err : goal.read_block-returns-in_err-vars-clause-err
read_block-returns-in_err-vars-clause-err t c =
    exit_within c.from_residual-in_err-vars.result c.from_residual-in_err-vars.ensures.1 c.in_ok-take.ensures.ending
    (starts _ refl c.in_ok-take.ensures.ok) c.in_err-vars.ensures.err

pub read_block-returns-in_err-body-clause-err : goal.read_block-returns-in_err-body-clause-err
read_block-returns-in_err-body-clause-err t c =
    exit_within c.from_residual-in_err-body.result c.from_residual-in_err-body.ensures.1
    (c.in_ok-vars.ensures.ending ∙ c.in_ok-take.ensures.ending)
    (by_part (starts _ refl c.in_ok-take.ensures.ok) c.in_ok-vars.ensures.ok) c.in_err-body.ensures.err

pub read_block-returns-clause-err : goal.read_block-returns-clause-err
read_block-returns-clause-err t c =
    last_missed _ _ c.closed.result
    (c.in_ok-body.ensures.ending ∙ c.in_ok-vars.ensures.ending ∙ c.in_ok-take.ensures.ending)
    (by_part (by_part (starts _ refl c.in_ok-take.ensures.ok) c.in_ok-vars.ensures.ok) c.in_ok-body.ensures.ok)
    c.closed.ensures.err

pub read_block-returns-clause-ok : goal.read_block-returns-clause-ok
read_block-returns-clause-ok t c =
    last_closed _ c.closed.result body _ (λ token taken. complete (by_terminal (by_part (by_part (starts _ refl c.in_ok-take.ensures.ok) c.in_ok-vars.ensures.ok)
    c.in_ok-body.ensures.ok) taken)) c.closed.ensures.same
    c.closed.ensures.taken

pub read_if-returns-in_err-take-clause-err : goal.read_if-returns-in_err-take-clause-err
read_if-returns-in_err-take-clause-err t c =
    exit_sure _ c.from_residual.result c.from_residual.ensures.1 refl c.requires (last_start _ refl) c.in_err-take.ensures.err

pub read_if-returns-in_err-test-clause-err : goal.read_if-returns-in_err-test-clause-err
read_if-returns-in_err-test-clause-err t c =
    exit_within c.from_residual-in_err-test.result c.from_residual-in_err-test.ensures.1 c.in_ok-take.ensures.ending
    (starts _ refl c.in_ok-take.ensures.ok) c.in_err-test.ensures.err

pub read_if-returns-in_err-block-clause-err : goal.read_if-returns-in_err-block-clause-err
read_if-returns-in_err-block-clause-err t c =
    exit_within c.from_residual-in_err-block.result c.from_residual-in_err-block.ensures.1
    (c.in_ok-test.ensures.ending ∙ c.in_ok-take.ensures.ending)
    (by_part (starts _ refl c.in_ok-take.ensures.ok) c.in_ok-test.ensures.ok) c.in_err-block.ensures.err

pub read_if-returns-in_err-otherwise-clause-err : goal.read_if-returns-in_err-otherwise-clause-err
read_if-returns-in_err-otherwise-clause-err t c =
    exit_within c.from_residual-in_err-otherwise.result c.from_residual-in_err-otherwise.ensures.1
    (c.in_ok-block.ensures.ending ∙ c.in_ok-test.ensures.ending ∙ c.in_ok-take.ensures.ending)
    (by_part (by_part (starts _ refl c.in_ok-take.ensures.ok) c.in_ok-test.ensures.ok) c.in_ok-block.ensures.ok)
    c.in_err-otherwise.ensures.err

pub read_if-returns-clause-ok : goal.read_if-returns-clause-ok
read_if-returns-clause-ok t c =
    same_value (sym (command_if c.in_ok-test.test c.in_ok-block.block.vars c.in_ok-block.block.body c.in_ok-otherwise.otherwise))
    (complete (by_part (by_part (by_part (starts _ refl c.in_ok-take.ensures.ok) c.in_ok-test.ensures.ok)
    c.in_ok-block.ensures.ok) c.in_ok-otherwise.ensures.ok))

pub read_else-returns-in_err-take-clause-err : goal.read_else-returns-in_err-take-clause-err
read_else-returns-in_err-take-clause-err t c =
    exit_sure _ c.from_residual.result c.from_residual.ensures.1 refl (sym c.if-stands_at.ensures) (last_start _ refl) c.in_err-take.ensures.err

pub read_else-returns-in_err-block-clause-err : goal.read_else-returns-in_err-block-clause-err
read_else-returns-in_err-block-clause-err t c =
    exit_within c.from_residual-in_err-block.result c.from_residual-in_err-block.ensures.1 c.in_ok-take.ensures.ending
    (starts _ refl c.in_ok-take.ensures.ok) c.in_err-block.ensures.err

pub read_else-returns-in_ok-block-clause-ok : goal.read_else-returns-in_ok-block-clause-ok
read_else-returns-in_ok-block-clause-ok t c =
    complete (by_part (starts _ refl c.in_ok-take.ensures.ok) c.in_ok-block.ensures.ok)

pub read_else-returns-else-stands_at-clause-ok : goal.read_else-returns-else-stands_at-clause-ok
read_else-returns-else-stands_at-clause-ok t c =
    passes NoElse _ (no_else c.args.edition _ (sym c.if-stands_at.ensures)) refl

pub read_while-returns-in_err-take-clause-err : goal.read_while-returns-in_err-take-clause-err
read_while-returns-in_err-take-clause-err t c =
    exit_sure _ c.from_residual.result c.from_residual.ensures.1 refl c.requires (last_start _ refl) c.in_err-take.ensures.err

pub read_while-returns-in_err-test-clause-err : goal.read_while-returns-in_err-test-clause-err
read_while-returns-in_err-test-clause-err t c =
    exit_within c.from_residual-in_err-test.result c.from_residual-in_err-test.ensures.1 c.in_ok-take.ensures.ending
    (starts _ refl c.in_ok-take.ensures.ok) c.in_err-test.ensures.err

pub read_while-returns-in_err-block-clause-err : goal.read_while-returns-in_err-block-clause-err
read_while-returns-in_err-block-clause-err t c =
    exit_within c.from_residual-in_err-block.result c.from_residual-in_err-block.ensures.1
    (c.in_ok-test.ensures.ending ∙ c.in_ok-take.ensures.ending)
    (by_part (starts _ refl c.in_ok-take.ensures.ok) c.in_ok-test.ensures.ok) c.in_err-block.ensures.err

pub read_while-returns-clause-ok : goal.read_while-returns-clause-ok
read_while-returns-clause-ok t c =
    same_value (sym (command_while c.in_ok-test.test c.in_ok-block.block.vars c.in_ok-block.block.body))
    (complete (by_part (by_part (starts _ refl c.in_ok-take.ensures.ok) c.in_ok-test.ensures.ok) c.in_ok-block.ensures.ok))

pub read_receive-returns-in_err-channel-clause-err : goal.read_receive-returns-in_err-channel-clause-err
read_receive-returns-in_err-channel-clause-err t c =
    exit_two c.from_residual.result c.from_residual.ensures.1 refl
    (opens_sure (Part.Statement c.args.edition) c.args.cursor.now.point _ refl c.requires) c.in_err-channel.ensures.err

pub read_receive-returns-in_err-place-clause-err : goal.read_receive-returns-in_err-place-clause-err
read_receive-returns-in_err-place-clause-err t c =
    exit_within c.from_residual-in_err-place.result c.from_residual-in_err-place.ensures.1 (c.in_ok-channel.ensures.ending)
    (by_named (opens_sure (Part.Statement c.args.edition) c.args.cursor.now.point _ refl c.requires) c.in_ok-channel.ensures.ok)
    c.in_err-place.ensures.err

pub read_receive-returns-in_err-otherwise-clause-err : goal.read_receive-returns-in_err-otherwise-clause-err
read_receive-returns-in_err-otherwise-clause-err t c =
    exit_within c.from_residual-in_err-otherwise.result c.from_residual-in_err-otherwise.ensures.1
    (c.in_ok-place.ensures.ending ∙ c.in_ok-channel.ensures.ending)
    (by_part (by_named (opens_sure (Part.Statement c.args.edition) c.args.cursor.now.point _ refl c.requires)
    c.in_ok-channel.ensures.ok) c.in_ok-place.ensures.ok) c.in_err-otherwise.ensures.err

pub read_receive-returns-clause-ok : goal.read_receive-returns-clause-ok
read_receive-returns-clause-ok t c =
    same_value (ap (λ name. Receiving name (reference c.in_ok-place.place) (otherwise c.in_ok-otherwise.otherwise))
    (sym (c.in_ok-channel.ensures.ok).named.is) ∙ sym (command_receive c.in_ok-channel.channel c.in_ok-place.place
    c.in_ok-otherwise.otherwise)) (complete (by_part (by_part
    (by_named (opens_sure (Part.Statement c.args.edition) c.args.cursor.now.point _ refl c.requires) c.in_ok-channel.ensures.ok)
    c.in_ok-place.ensures.ok) c.in_ok-otherwise.ensures.ok))

pub read_receipt_end-returns-in_err-take-clause-err : goal.read_receipt_end-returns-in_err-take-clause-err
read_receipt_end-returns-in_err-take-clause-err t c =
    exit_sure _ c.from_residual.result c.from_residual.ensures.1 refl
    (else_stands c.args.edition _ (ap (may_not_wait c.args.edition) (sym c.look.ensures) ∙ sym c.if-may_not_wait.ensures))
    (last_start receipt_else (else_begins c.args.edition _ (ap (may_not_wait c.args.edition) (sym c.look.ensures) ∙ sym
    c.if-may_not_wait.ensures))) c.in_err-take.ensures.err

pub read_receipt_end-returns-in_err-block-clause-err : goal.read_receipt_end-returns-in_err-block-clause-err
read_receipt_end-returns-in_err-block-clause-err t c =
    exit_within c.from_residual-in_err-block.result c.from_residual-in_err-block.ensures.1 c.in_ok-take.ensures.ending
    (starts receipt_else (else_begins c.args.edition _ (ap (may_not_wait c.args.edition) (sym c.look.ensures) ∙ sym
    c.if-may_not_wait.ensures)) c.in_ok-take.ensures.ok) c.in_err-block.ensures.err

pub read_receipt_end-returns-in_ok-block-clause-ok : goal.read_receipt_end-returns-in_ok-block-clause-ok
read_receipt_end-returns-in_ok-block-clause-ok t c =
    complete (by_part (starts receipt_else (else_begins c.args.edition _
    (ap (may_not_wait c.args.edition) (sym c.look.ensures) ∙ sym c.if-may_not_wait.ensures)) c.in_ok-take.ensures.ok)
    c.in_ok-block.ensures.ok)

pub read_receipt_end-returns-in_err-take-2-clause-err : goal.read_receipt_end-returns-in_err-take-2-clause-err
read_receipt_end-returns-in_err-take-2-clause-err t c =
    exit_first (Part.ReceiptEnd c.args.edition) receipt_wait (wait_begins c.args.edition)
    (no_receipt_end c.args.edition _ (ap (may_not_wait c.args.edition) (sym c.look.ensures) ∙ sym c.if-may_not_wait.ensures)) refl
    c.from_residual-in_err-take-2.result c.from_residual-in_err-take-2.ensures.1 refl c.in_err-take-2.ensures.err

pub read_receipt_end-returns-in_ok-take-2-clause-ok : goal.read_receipt_end-returns-in_ok-take-2-clause-ok
read_receipt_end-returns-in_ok-take-2-clause-ok t c =
    complete (starts receipt_wait (wait_begins c.args.edition) c.in_ok-take-2.ensures.ok)

pub read_recover-returns-in_err-recovery-clause-err : goal.read_recover-returns-in_err-recovery-clause-err
read_recover-returns-in_err-recovery-clause-err t c =
    exit_within c.from_residual.result c.from_residual.ensures.1 refl
    (begins (Part.Recovery c.args.edition) c.args.cursor.now.point recovering_after
    (statement_recovery c.args.edition _ (some_recovery c.args.edition _ c.requires)) refl refl) c.in_err-recovery.ensures.err

pub read_recover-returns-clause-ok : goal.read_recover-returns-clause-ok
read_recover-returns-clause-ok t c =
    same_value (sym (command_recover c.in_ok-recovery.recovery))
    (complete (by_part (begins (Part.Recovery c.args.edition) c.args.cursor.now.point recovering_after
    (statement_recovery c.args.edition _ (some_recovery c.args.edition _ c.requires)) refl refl) c.in_ok-recovery.ensures.ok))

pub read_converse-returns-in_err-name-clause-err : goal.read_converse-returns-in_err-name-clause-err
read_converse-returns-in_err-name-clause-err t c =
    exit_two c.from_residual.result c.from_residual.ensures.1 refl
    (opens_sure (Part.Statement c.args.edition) c.args.cursor.now.point _ refl c.requires) c.in_err-name.ensures.err

pub read_converse-returns-in_err-recovery-clause-err : goal.read_converse-returns-in_err-recovery-clause-err
read_converse-returns-in_err-recovery-clause-err t c =
    exit_within c.from_residual-in_err-recovery.result c.from_residual-in_err-recovery.ensures.1 (c.in_ok-name.ensures.ending)
    (by_named (opens_sure (Part.Statement c.args.edition) c.args.cursor.now.point _ refl c.requires) c.in_ok-name.ensures.ok)
    c.in_err-recovery.ensures.err

pub read_converse-returns-clause-ok : goal.read_converse-returns-clause-ok
read_converse-returns-clause-ok t c =
    same_value (ap (λ name. Recovering (joined name (recovery_block c.in_ok-recovery.recovery)))
    (sym (c.in_ok-name.ensures.ok).named.is) ∙ ap Recovering (sym c.join.ensures) ∙ sym (command_recover c.join.result))
    (complete (by_part (by_named (opens_sure (Part.Statement c.args.edition) c.args.cursor.now.point _ refl c.requires)
    c.in_ok-name.ensures.ok) c.in_ok-recovery.ensures.ok))

pub read_recovery-returns-in_err-token-clause-err : goal.read_recovery-returns-in_err-token-clause-err
read_recovery-returns-in_err-token-clause-err t c =
    exit_first (Part.Recovery c.args.edition) _ refl (no_recovery c.args.edition _) refl c.from_residual.result
    c.from_residual.ensures.1 refl c.in_err-token.ensures.err

pub read_recovery-returns-in_err-tested-clause-err : goal.read_recovery-returns-in_err-tested-clause-err
read_recovery-returns-in_err-tested-clause-err t c =
    exit_within c.from_residual-in_err-tested.result c.from_residual-in_err-tested.ensures.1 c.in_ok-token.ensures.ending
    (starts _ refl c.in_ok-token.ensures.ok) c.in_err-tested.ensures.err

pub read_recovery-returns-in_err-test-clause-err : goal.read_recovery-returns-in_err-test-clause-err
read_recovery-returns-in_err-test-clause-err t c =
    exit_missed c.from_residual-in_err-test.result c.from_residual-in_err-test.ensures.1
    (c.in_ok-tested.ensures.ending ∙ c.in_ok-token.ensures.ending)
    (by_part (starts _ refl c.in_ok-token.ensures.ok) c.in_ok-tested.ensures.ok) c.in_err-test.ensures.err

pub read_recovery-returns-in_err-bound-clause-err : goal.read_recovery-returns-in_err-bound-clause-err
read_recovery-returns-in_err-bound-clause-err t c =
    exit_within c.from_residual-in_err-bound.result c.from_residual-in_err-bound.ensures.1
    (c.in_ok-test.ensures.ending ∙ c.in_ok-tested.ensures.ending ∙ c.in_ok-token.ensures.ending)
    (by_terminal (by_part (starts _ refl c.in_ok-token.ensures.ok) c.in_ok-tested.ensures.ok) c.in_ok-test.ensures.taken.1)
    c.in_err-bound.ensures.err

pub read_recovery-returns-in_err-alternates-clause-err : goal.read_recovery-returns-in_err-alternates-clause-err
read_recovery-returns-in_err-alternates-clause-err t c =
    exit_within c.from_residual-in_err-alternates.result c.from_residual-in_err-alternates.ensures.1
    (c.in_ok-bound.ensures.ending ∙ c.in_ok-test.ensures.ending ∙ c.in_ok-tested.ensures.ending ∙ c.in_ok-token.ensures.ending)
    (by_part (by_terminal (by_part (starts _ refl c.in_ok-token.ensures.ok) c.in_ok-tested.ensures.ok) c.in_ok-test.ensures.taken.1)
    c.in_ok-bound.ensures.ok) c.in_err-alternates.ensures.err

pub read_recovery-returns-clause-ok : goal.read_recovery-returns-clause-ok
read_recovery-returns-clause-ok t c =
    same_value (sym (recovery_made c.recoveries-number.result c.in_ok-token.token.place c.in_ok-test.test c.in_ok-bound.bound
    c.in_ok-alternates.alternates)) (same_value (λ j. Recovers (sym c.recoveries-number.ensures j) None c.in_ok-token.token.place
    (expression (sym c.in_ok-test.ensures.same j)) c.in_ok-bound.bound (alternates_of c.in_ok-alternates.alternates.items)) (complete (by_part (by_part
    (by_terminal (by_part (starts _ refl c.in_ok-token.ensures.ok) c.in_ok-tested.ensures.ok) c.in_ok-test.ensures.taken.1)
    c.in_ok-bound.ensures.ok) c.in_ok-alternates.ensures.ok)))

pub read_alternates-alternates-init : goal.read_alternates-alternates-init
read_alternates-alternates-init t c =
    record {
      reached = alternate_first c.args.edition c.new-alternates.result.items c.args.cursor.now.point c.new-alternates.ensures.items;
      ending = refl;
      shorter = omega arith;
    }

pub read_alternates-returns-in_err-alternate-clause-err : goal.read_alternates-returns-in_err-alternate-clause-err
read_alternates-returns-in_err-alternate-clause-err t c =
    exit_within c.from_residual.result c.from_residual.ensures.1 c.alternates.invariant.ending c.alternates.invariant.reached
    c.in_err-alternate.ensures.err

pub read_alternates-returns-in_err-append-clause-err : goal.read_alternates-returns-in_err-append-clause-err
read_alternates-returns-in_err-append-clause-err t c =
    exit_memory _ _ _ c.from_residual-in_err-append.result _ c.from_residual-in_err-append.ensures.1 c.in_err-append.ensures.memory

pub read_alternates-returns-in_err-read_no_alternate-clause-err : goal.read_alternates-returns-in_err-read_no_alternate-clause-err
read_alternates-returns-in_err-read_no_alternate-clause-err t c =
    exit_within c.from_residual-in_err-read_no_alternate.result c.from_residual-in_err-read_no_alternate.ensures.1
    (c.in_ok-alternate.ensures.ending ∙ c.alternates.invariant.ending)
    (alternate_read c.args.edition c.alternates.alternates.items c.append.new.list.items c.in_ok-alternate.alternate
    c.in_ok-append.ensures.items (by_part c.alternates.invariant.reached c.in_ok-alternate.ensures.ok))
    (c.in_err-read_no_alternate.ensures.err c.args.edition)

pub read_alternates-returns-then-not-stands_at-clause-ok : goal.read_alternates-returns-then-not-stands_at-clause-ok
read_alternates-returns-then-not-stands_at-clause-ok t c =
    alternates_end c.args.edition c.append.new.list.items
    (alternate_read c.args.edition c.alternates.alternates.items c.append.new.list.items c.in_ok-alternate.alternate
    c.in_ok-append.ensures.items (by_part c.alternates.invariant.reached c.in_ok-alternate.ensures.ok))
    (c.in_ok-read_no_alternate.ensures.ok c.args.edition)

pub read_alternates-alternates-preserved : goal.read_alternates-alternates-preserved
read_alternates-alternates-preserved t c =
    record {
      reached = within (alternate_read c.args.edition c.alternates.alternates.items c.append.new.list.items
          c.in_ok-alternate.alternate c.in_ok-append.ensures.items
          (by_part c.alternates.invariant.reached c.in_ok-alternate.ensures.ok))
          (begins (Part.Alternate c.args.edition) _ (alternates_after c.args.edition)
          (other_alternate c.args.edition _ (some_alternate c.args.edition _ (sym c.if-not-stands_at.ensures))) refl refl);
      ending = c.in_ok-alternate.ensures.ending ∙ c.alternates.invariant.ending;
      shorter = omega (arith, c.in_ok-alternate.ensures.shorter, c.alternates.invariant.shorter);
    }

pub read_alternate-returns-in_err-take-clause-err : goal.read_alternate-returns-in_err-take-clause-err
read_alternate-returns-in_err-take-clause-err t c =
    exit_first (Part.Alternate c.args.edition) _ refl (no_alternate c.args.edition _) refl c.from_residual.result
    c.from_residual.ensures.1 refl c.in_err-take.ensures.err

pub read_alternate-returns-in_err-block-clause-err : goal.read_alternate-returns-in_err-block-clause-err
read_alternate-returns-in_err-block-clause-err t c =
    exit_within c.from_residual-in_err-block.result c.from_residual-in_err-block.ensures.1 c.in_ok-take.ensures.ending
    (starts _ refl c.in_ok-take.ensures.ok) c.in_err-block.ensures.err

pub read_alternate-returns-clause-err : goal.read_alternate-returns-clause-err
read_alternate-returns-clause-err t c =
    last_missed _ _ c.closed.result
    (c.in_ok-block.ensures.ending ∙ c.in_ok-take.ensures.ending)
    (by_part (starts _ refl c.in_ok-take.ensures.ok) c.in_ok-block.ensures.ok) c.closed.ensures.err

pub read_alternate-returns-clause-ok : goal.read_alternate-returns-clause-ok
read_alternate-returns-clause-ok t c =
    last_closed _ c.closed.result body _ (λ token taken. complete (by_terminal (by_part (starts _ refl c.in_ok-take.ensures.ok) c.in_ok-block.ensures.ok) taken)) c.closed.ensures.same
    c.closed.ensures.taken

pub read_statements-returns-in_err-statement-clause-ending : goal.read_statements-returns-in_err-statement-clause-ending
read_statements-returns-in_err-statement-clause-ending t c =
    c.in_err-statement.ensures.ending ∙ c.statements.invariant.ending

pub read_statements-returns-in_err-append-clause-ending : goal.read_statements-returns-in_err-append-clause-ending
read_statements-returns-in_err-append-clause-ending t c =
    c.in_ok-statement.ensures.ending ∙ c.statements.invariant.ending

pub read_statements-statements-smaller : goal.read_statements-statements-smaller
read_statements-statements-smaller t c = c.in_ok-statement.ensures.shorter

pub read_block-returns-in_err-take-clause-ending : goal.read_block-returns-in_err-take-clause-ending
read_block-returns-in_err-take-clause-ending t c = c.in_err-take.ensures.ending

pub read_block-returns-in_err-vars-clause-ending : goal.read_block-returns-in_err-vars-clause-ending
read_block-returns-in_err-vars-clause-ending t c = c.in_err-vars.ensures.ending ∙ c.in_ok-take.ensures.ending

pub read_block-returns-in_err-body-clause-ending : goal.read_block-returns-in_err-body-clause-ending
read_block-returns-in_err-body-clause-ending t c =
    c.in_err-body.ensures.ending ∙ c.in_ok-vars.ensures.ending ∙ c.in_ok-take.ensures.ending

pub read_block-returns-clause-ending : goal.read_block-returns-clause-ending
read_block-returns-clause-ending t c =
    c.closed.ensures.ending ∙ c.in_ok-body.ensures.ending ∙ c.in_ok-vars.ensures.ending ∙ c.in_ok-take.ensures.ending

pub read_block-returns-clause-shorter : goal.read_block-returns-clause-shorter
read_block-returns-clause-shorter t c =
    call_fewer _ _ c.closed.result c.closed.ensures.shorter (no_more c.in_ok-body.ensures.shorter (no_more c.in_ok-vars.ensures.shorter c.in_ok-take.ensures.shorter))

pub read_if-returns-in_err-take-clause-ending : goal.read_if-returns-in_err-take-clause-ending
read_if-returns-in_err-take-clause-ending t c = c.in_err-take.ensures.ending

pub read_if-returns-in_err-test-clause-ending : goal.read_if-returns-in_err-test-clause-ending
read_if-returns-in_err-test-clause-ending t c = c.in_err-test.ensures.ending ∙ c.in_ok-take.ensures.ending

pub read_if-returns-in_err-block-clause-ending : goal.read_if-returns-in_err-block-clause-ending
read_if-returns-in_err-block-clause-ending t c =
    c.in_err-block.ensures.ending ∙ c.in_ok-test.ensures.ending ∙ c.in_ok-take.ensures.ending

pub read_if-returns-in_err-otherwise-clause-ending : goal.read_if-returns-in_err-otherwise-clause-ending
read_if-returns-in_err-otherwise-clause-ending t c =
    c.in_err-otherwise.ensures.ending ∙ c.in_ok-block.ensures.ending ∙ c.in_ok-test.ensures.ending ∙ c.in_ok-take.ensures.ending

pub read_if-returns-clause-ending : goal.read_if-returns-clause-ending
read_if-returns-clause-ending t c =
    c.in_ok-otherwise.ensures.ending ∙ c.in_ok-block.ensures.ending ∙ c.in_ok-test.ensures.ending ∙ c.in_ok-take.ensures.ending

pub read_if-returns-clause-shorter : goal.read_if-returns-clause-shorter
read_if-returns-clause-shorter t c =
    no_more c.in_ok-otherwise.ensures.shorter (and_fewer c.in_ok-block.ensures.shorter (and_fewer c.in_ok-test.ensures.shorter c.in_ok-take.ensures.shorter))

pub read_else-returns-in_err-take-clause-ending : goal.read_else-returns-in_err-take-clause-ending
read_else-returns-in_err-take-clause-ending t c = c.in_err-take.ensures.ending

pub read_else-returns-in_err-block-clause-ending : goal.read_else-returns-in_err-block-clause-ending
read_else-returns-in_err-block-clause-ending t c = c.in_err-block.ensures.ending ∙ c.in_ok-take.ensures.ending

pub read_else-returns-in_ok-block-clause-ending : goal.read_else-returns-in_ok-block-clause-ending
read_else-returns-in_ok-block-clause-ending t c = c.in_ok-block.ensures.ending ∙ c.in_ok-take.ensures.ending

pub read_else-returns-in_ok-block-clause-shorter : goal.read_else-returns-in_ok-block-clause-shorter
read_else-returns-in_ok-block-clause-shorter t c =
    at_most (and_fewer c.in_ok-block.ensures.shorter c.in_ok-take.ensures.shorter)

pub read_while-returns-in_err-take-clause-ending : goal.read_while-returns-in_err-take-clause-ending
read_while-returns-in_err-take-clause-ending t c = c.in_err-take.ensures.ending

pub read_while-returns-in_err-test-clause-ending : goal.read_while-returns-in_err-test-clause-ending
read_while-returns-in_err-test-clause-ending t c = c.in_err-test.ensures.ending ∙ c.in_ok-take.ensures.ending

pub read_while-returns-in_err-block-clause-ending : goal.read_while-returns-in_err-block-clause-ending
read_while-returns-in_err-block-clause-ending t c =
    c.in_err-block.ensures.ending ∙ c.in_ok-test.ensures.ending ∙ c.in_ok-take.ensures.ending

pub read_while-returns-clause-ending : goal.read_while-returns-clause-ending
read_while-returns-clause-ending t c =
    c.in_ok-block.ensures.ending ∙ c.in_ok-test.ensures.ending ∙ c.in_ok-take.ensures.ending

pub read_while-returns-clause-shorter : goal.read_while-returns-clause-shorter
read_while-returns-clause-shorter t c =
    and_fewer c.in_ok-block.ensures.shorter (and_fewer c.in_ok-test.ensures.shorter c.in_ok-take.ensures.shorter)

pub read_receive-returns-in_err-channel-clause-ending : goal.read_receive-returns-in_err-channel-clause-ending
read_receive-returns-in_err-channel-clause-ending t c = c.in_err-channel.ensures.ending

pub read_receive-returns-in_err-place-clause-ending : goal.read_receive-returns-in_err-place-clause-ending
read_receive-returns-in_err-place-clause-ending t c = c.in_err-place.ensures.ending ∙ c.in_ok-channel.ensures.ending

pub read_receive-returns-in_err-otherwise-clause-ending : goal.read_receive-returns-in_err-otherwise-clause-ending
read_receive-returns-in_err-otherwise-clause-ending t c =
    c.in_err-otherwise.ensures.ending ∙ c.in_ok-place.ensures.ending ∙ c.in_ok-channel.ensures.ending

pub read_receive-returns-clause-ending : goal.read_receive-returns-clause-ending
read_receive-returns-clause-ending t c =
    c.in_ok-otherwise.ensures.ending ∙ c.in_ok-place.ensures.ending ∙ c.in_ok-channel.ensures.ending

pub read_receive-returns-clause-shorter : goal.read_receive-returns-clause-shorter
read_receive-returns-clause-shorter t c =
    and_fewer c.in_ok-otherwise.ensures.shorter (and_fewer c.in_ok-place.ensures.shorter c.in_ok-channel.ensures.shorter)

pub read_receipt_end-returns-in_err-take-clause-ending : goal.read_receipt_end-returns-in_err-take-clause-ending
read_receipt_end-returns-in_err-take-clause-ending t c = c.in_err-take.ensures.ending

pub read_receipt_end-returns-in_err-block-clause-ending : goal.read_receipt_end-returns-in_err-block-clause-ending
read_receipt_end-returns-in_err-block-clause-ending t c =
    c.in_err-block.ensures.ending ∙ c.in_ok-take.ensures.ending

pub read_receipt_end-returns-in_ok-block-clause-ending : goal.read_receipt_end-returns-in_ok-block-clause-ending
read_receipt_end-returns-in_ok-block-clause-ending t c = c.in_ok-block.ensures.ending ∙ c.in_ok-take.ensures.ending

pub read_receipt_end-returns-in_ok-block-clause-shorter : goal.read_receipt_end-returns-in_ok-block-clause-shorter
read_receipt_end-returns-in_ok-block-clause-shorter t c =
    and_fewer c.in_ok-block.ensures.shorter c.in_ok-take.ensures.shorter

pub read_receipt_end-returns-in_err-take-2-clause-ending : goal.read_receipt_end-returns-in_err-take-2-clause-ending
read_receipt_end-returns-in_err-take-2-clause-ending t c = c.in_err-take-2.ensures.ending

pub read_receipt_end-returns-in_ok-take-2-clause-ending : goal.read_receipt_end-returns-in_ok-take-2-clause-ending
read_receipt_end-returns-in_ok-take-2-clause-ending t c = c.in_ok-take-2.ensures.ending

pub read_receipt_end-returns-in_ok-take-2-clause-shorter : goal.read_receipt_end-returns-in_ok-take-2-clause-shorter
read_receipt_end-returns-in_ok-take-2-clause-shorter t c = c.in_ok-take-2.ensures.shorter

pub read_recover-returns-in_err-recovery-clause-ending : goal.read_recover-returns-in_err-recovery-clause-ending
read_recover-returns-in_err-recovery-clause-ending t c = c.in_err-recovery.ensures.ending

pub read_recover-returns-clause-ending : goal.read_recover-returns-clause-ending
read_recover-returns-clause-ending t c = c.in_ok-recovery.ensures.ending

pub read_recover-returns-clause-shorter : goal.read_recover-returns-clause-shorter
read_recover-returns-clause-shorter t c = c.in_ok-recovery.ensures.shorter

pub read_converse-returns-in_err-name-clause-ending : goal.read_converse-returns-in_err-name-clause-ending
read_converse-returns-in_err-name-clause-ending t c = c.in_err-name.ensures.ending

pub read_converse-returns-in_err-recovery-clause-ending : goal.read_converse-returns-in_err-recovery-clause-ending
read_converse-returns-in_err-recovery-clause-ending t c =
    c.in_err-recovery.ensures.ending ∙ c.in_ok-name.ensures.ending

pub read_converse-returns-clause-ending : goal.read_converse-returns-clause-ending
read_converse-returns-clause-ending t c = c.in_ok-recovery.ensures.ending ∙ c.in_ok-name.ensures.ending

pub read_converse-returns-clause-shorter : goal.read_converse-returns-clause-shorter
read_converse-returns-clause-shorter t c = and_fewer c.in_ok-recovery.ensures.shorter c.in_ok-name.ensures.shorter

pub read_recovery-returns-in_err-token-clause-ending : goal.read_recovery-returns-in_err-token-clause-ending
read_recovery-returns-in_err-token-clause-ending t c = c.in_err-token.ensures.ending

pub read_recovery-returns-in_err-tested-clause-ending : goal.read_recovery-returns-in_err-tested-clause-ending
read_recovery-returns-in_err-tested-clause-ending t c =
    c.in_err-tested.ensures.ending ∙ c.in_ok-token.ensures.ending

pub read_recovery-returns-in_err-test-clause-ending : goal.read_recovery-returns-in_err-test-clause-ending
read_recovery-returns-in_err-test-clause-ending t c =
    c.in_err-test.ensures.ending ∙ c.in_ok-tested.ensures.ending ∙ c.in_ok-token.ensures.ending

pub read_recovery-returns-in_err-bound-clause-ending : goal.read_recovery-returns-in_err-bound-clause-ending
read_recovery-returns-in_err-bound-clause-ending t c =
    c.in_err-bound.ensures.ending ∙ c.in_ok-test.ensures.ending ∙ c.in_ok-tested.ensures.ending ∙ c.in_ok-token.ensures.ending

pub read_recovery-returns-in_err-alternates-clause-ending : goal.read_recovery-returns-in_err-alternates-clause-ending
read_recovery-returns-in_err-alternates-clause-ending t c =
    c.in_err-alternates.ensures.ending ∙ c.in_ok-bound.ensures.ending ∙ c.in_ok-test.ensures.ending ∙ c.in_ok-tested.ensures.ending ∙ c.in_ok-token.ensures.ending

pub read_recovery-returns-clause-ending : goal.read_recovery-returns-clause-ending
read_recovery-returns-clause-ending t c =
    c.in_ok-alternates.ensures.ending ∙ c.in_ok-bound.ensures.ending ∙ c.in_ok-test.ensures.ending ∙ c.in_ok-tested.ensures.ending ∙ c.in_ok-token.ensures.ending

pub read_recovery-returns-clause-shorter : goal.read_recovery-returns-clause-shorter
read_recovery-returns-clause-shorter t c =
    and_fewer c.in_ok-alternates.ensures.shorter (and_fewer c.in_ok-bound.ensures.shorter (and_fewer c.in_ok-test.ensures.shorter (and_fewer c.in_ok-tested.ensures.shorter c.in_ok-token.ensures.shorter)))

pub read_alternates-returns-in_err-alternate-clause-ending : goal.read_alternates-returns-in_err-alternate-clause-ending
read_alternates-returns-in_err-alternate-clause-ending t c =
    c.in_err-alternate.ensures.ending ∙ c.alternates.invariant.ending

pub read_alternates-returns-in_err-append-clause-ending : goal.read_alternates-returns-in_err-append-clause-ending
read_alternates-returns-in_err-append-clause-ending t c =
    c.in_ok-alternate.ensures.ending ∙ c.alternates.invariant.ending

pub read_alternates-returns-in_err-read_no_alternate-clause-ending : goal.read_alternates-returns-in_err-read_no_alternate-clause-ending
read_alternates-returns-in_err-read_no_alternate-clause-ending t c =
    c.in_err-read_no_alternate.ensures.ending ∙ c.in_ok-alternate.ensures.ending ∙ c.alternates.invariant.ending

pub read_alternates-alternates-smaller : goal.read_alternates-alternates-smaller
read_alternates-alternates-smaller t c = c.in_ok-alternate.ensures.shorter

pub read_alternates-returns-then-not-stands_at-clause-ending : goal.read_alternates-returns-then-not-stands_at-clause-ending
read_alternates-returns-then-not-stands_at-clause-ending t c =
    c.in_ok-read_no_alternate.ensures.ending ∙ c.in_ok-alternate.ensures.ending ∙ c.alternates.invariant.ending

pub read_alternates-returns-then-not-stands_at-clause-shorter : goal.read_alternates-returns-then-not-stands_at-clause-shorter
read_alternates-returns-then-not-stands_at-clause-shorter t c =
    and_fewer c.in_ok-read_no_alternate.ensures.shorter (fewer_still c.in_ok-alternate.ensures.shorter c.alternates.invariant.shorter)

pub read_alternate-returns-in_err-take-clause-ending : goal.read_alternate-returns-in_err-take-clause-ending
read_alternate-returns-in_err-take-clause-ending t c = c.in_err-take.ensures.ending

pub read_alternate-returns-in_err-block-clause-ending : goal.read_alternate-returns-in_err-block-clause-ending
read_alternate-returns-in_err-block-clause-ending t c = c.in_err-block.ensures.ending ∙ c.in_ok-take.ensures.ending

pub read_alternate-returns-clause-ending : goal.read_alternate-returns-clause-ending
read_alternate-returns-clause-ending t c =
    c.closed.ensures.ending ∙ c.in_ok-block.ensures.ending ∙ c.in_ok-take.ensures.ending

pub read_alternate-returns-clause-shorter : goal.read_alternate-returns-clause-shorter
read_alternate-returns-clause-shorter t c =
    call_fewer _ _ c.closed.result c.closed.ensures.shorter (and_fewer c.in_ok-block.ensures.shorter c.in_ok-take.ensures.shorter)

pub read_statement-returns-then-stands_at-clause-ok : goal.read_statement-returns-then-stands_at-clause-ok
read_statement-returns-then-stands_at-clause-ok t c = c.read_receive.ensures.ok

pub read_statement-returns-then-stands_at-clause-err : goal.read_statement-returns-then-stands_at-clause-err
read_statement-returns-then-stands_at-clause-err t c = c.read_receive.ensures.err

pub read_statement-returns-then-stands_at-clause-ending : goal.read_statement-returns-then-stands_at-clause-ending
read_statement-returns-then-stands_at-clause-ending t c = c.read_receive.ensures.ending

pub read_statement-returns-then-stands_at-clause-shorter : goal.read_statement-returns-then-stands_at-clause-shorter
read_statement-returns-then-stands_at-clause-shorter t c = c.read_receive.ensures.shorter

pub read_statement-returns-then-stands_at-2-clause-ok : goal.read_statement-returns-then-stands_at-2-clause-ok
read_statement-returns-then-stands_at-2-clause-ok t c = c.read_if.ensures.ok

pub read_statement-returns-then-stands_at-2-clause-err : goal.read_statement-returns-then-stands_at-2-clause-err
read_statement-returns-then-stands_at-2-clause-err t c = c.read_if.ensures.err

pub read_statement-returns-then-stands_at-2-clause-ending : goal.read_statement-returns-then-stands_at-2-clause-ending
read_statement-returns-then-stands_at-2-clause-ending t c = c.read_if.ensures.ending

pub read_statement-returns-then-stands_at-2-clause-shorter : goal.read_statement-returns-then-stands_at-2-clause-shorter
read_statement-returns-then-stands_at-2-clause-shorter t c = c.read_if.ensures.shorter

pub read_statement-returns-then-stands_at-3-clause-ok : goal.read_statement-returns-then-stands_at-3-clause-ok
read_statement-returns-then-stands_at-3-clause-ok t c = c.read_while.ensures.ok

pub read_statement-returns-then-stands_at-3-clause-err : goal.read_statement-returns-then-stands_at-3-clause-err
read_statement-returns-then-stands_at-3-clause-err t c = c.read_while.ensures.err

pub read_statement-returns-then-stands_at-3-clause-ending : goal.read_statement-returns-then-stands_at-3-clause-ending
read_statement-returns-then-stands_at-3-clause-ending t c = c.read_while.ensures.ending

pub read_statement-returns-then-stands_at-3-clause-shorter : goal.read_statement-returns-then-stands_at-3-clause-shorter
read_statement-returns-then-stands_at-3-clause-shorter t c = c.read_while.ensures.shorter

pub read_statement-returns-then-stands_at-4-clause-ok : goal.read_statement-returns-then-stands_at-4-clause-ok
read_statement-returns-then-stands_at-4-clause-ok t c = c.read_recover.ensures.ok

pub read_statement-returns-then-stands_at-4-clause-err : goal.read_statement-returns-then-stands_at-4-clause-err
read_statement-returns-then-stands_at-4-clause-err t c = c.read_recover.ensures.err

pub read_statement-returns-then-stands_at-4-clause-ending : goal.read_statement-returns-then-stands_at-4-clause-ending
read_statement-returns-then-stands_at-4-clause-ending t c = c.read_recover.ensures.ending

pub read_statement-returns-then-stands_at-4-clause-shorter : goal.read_statement-returns-then-stands_at-4-clause-shorter
read_statement-returns-then-stands_at-4-clause-shorter t c = c.read_recover.ensures.shorter

pub read_statement-returns-then-stands_at-5-clause-ok : goal.read_statement-returns-then-stands_at-5-clause-ok
read_statement-returns-then-stands_at-5-clause-ok t c = c.read_converse.ensures.ok

pub read_statement-returns-then-stands_at-5-clause-err : goal.read_statement-returns-then-stands_at-5-clause-err
read_statement-returns-then-stands_at-5-clause-err t c = c.read_converse.ensures.err

pub read_statement-returns-then-stands_at-5-clause-ending : goal.read_statement-returns-then-stands_at-5-clause-ending
read_statement-returns-then-stands_at-5-clause-ending t c = c.read_converse.ensures.ending

pub read_statement-returns-then-stands_at-5-clause-shorter : goal.read_statement-returns-then-stands_at-5-clause-shorter
read_statement-returns-then-stands_at-5-clause-shorter t c = c.read_converse.ensures.shorter

pub read_statement-returns-else-stands_at-5-clause-ok : goal.read_statement-returns-else-stands_at-5-clause-ok
read_statement-returns-else-stands_at-5-clause-ok t c = c.read_simple.ensures.ok c.args.edition

pub read_statement-returns-else-stands_at-5-clause-err : goal.read_statement-returns-else-stands_at-5-clause-err
read_statement-returns-else-stands_at-5-clause-err t c = c.read_simple.ensures.err c.args.edition

pub read_statement-returns-else-stands_at-5-clause-ending : goal.read_statement-returns-else-stands_at-5-clause-ending
read_statement-returns-else-stands_at-5-clause-ending t c = c.read_simple.ensures.ending

pub read_statement-returns-else-stands_at-5-clause-shorter : goal.read_statement-returns-else-stands_at-5-clause-shorter
read_statement-returns-else-stands_at-5-clause-shorter t c = c.read_simple.ensures.shorter

pub read_statement-read_simple-requires-clause-no_receive : goal.read_statement-read_simple-requires-clause-no_receive
read_statement-read_simple-requires-clause-no_receive t c = sym c.if-stands_at.ensures

pub read_statement-read_simple-requires-clause-no_if : goal.read_statement-read_simple-requires-clause-no_if
read_statement-read_simple-requires-clause-no_if t c = sym c.if-stands_at-2.ensures

pub read_statement-read_simple-requires-clause-no_while : goal.read_statement-read_simple-requires-clause-no_while
read_statement-read_simple-requires-clause-no_while t c = sym c.if-stands_at-3.ensures

pub read_statement-read_simple-requires-clause-no_ensure : goal.read_statement-read_simple-requires-clause-no_ensure
read_statement-read_simple-requires-clause-no_ensure t c = sym c.if-stands_at-4.ensures

pub read_statement-read_simple-requires-clause-no_converse : goal.read_statement-read_simple-requires-clause-no_converse
read_statement-read_simple-requires-clause-no_converse t c = sym c.if-stands_at-5.ensures

pub read_block-read_statements-requires : goal.read_block-read_statements-requires
read_block-read_statements-requires t c = (falls_32 20 15 c.decreases (omega arith) (no_more c.in_ok-vars.ensures.shorter c.in_ok-take.ensures.shorter), tt)

pub read_if-read_block-requires : goal.read_if-read_block-requires
read_if-read_block-requires t c = (falls_32 15 8 c.decreases (omega arith) (and_fewer c.in_ok-test.ensures.shorter c.in_ok-take.ensures.shorter), tt)

pub read_if-read_else-requires : goal.read_if-read_else-requires
read_if-read_else-requires t c = (falls_32 16 8 c.decreases (omega arith) (and_fewer c.in_ok-block.ensures.shorter (and_fewer c.in_ok-test.ensures.shorter c.in_ok-take.ensures.shorter)), tt)

pub read_else-read_block-requires : goal.read_else-read_block-requires
read_else-read_block-requires t c = (falls_32 15 16 c.decreases (omega arith) c.in_ok-take.ensures.shorter, tt)

pub read_while-read_block-requires : goal.read_while-read_block-requires
read_while-read_block-requires t c = (falls_32 15 8 c.decreases (omega arith) (and_fewer c.in_ok-test.ensures.shorter c.in_ok-take.ensures.shorter), tt)

pub read_receive-read_receipt_end-requires : goal.read_receive-read_receipt_end-requires
read_receive-read_receipt_end-requires t c = (falls_32 16 8 c.decreases (omega arith) (and_fewer c.in_ok-place.ensures.shorter c.in_ok-channel.ensures.shorter), tt)

pub read_receipt_end-read_block-requires : goal.read_receipt_end-read_block-requires
read_receipt_end-read_block-requires t c = (falls_32 15 16 c.decreases (omega arith) c.in_ok-take.ensures.shorter, tt)

pub read_converse-read_recovery-requires : goal.read_converse-read_recovery-requires
read_converse-read_recovery-requires t c = (falls_32 7 8 c.decreases (omega arith) c.in_ok-name.ensures.shorter, tt)

pub read_recovery-read_alternates-requires : goal.read_recovery-read_alternates-requires
read_recovery-read_alternates-requires t c = (falls_32 18 7 c.decreases (omega arith) (and_fewer c.in_ok-bound.ensures.shorter (and_fewer c.in_ok-test.ensures.shorter (and_fewer c.in_ok-tested.ensures.shorter c.in_ok-token.ensures.shorter))), tt)

pub read_alternate-read_block-requires : goal.read_alternate-read_block-requires
read_alternate-read_block-requires t c = (falls_32 15 17 c.decreases (omega arith) c.in_ok-take.ensures.shorter, tt)
