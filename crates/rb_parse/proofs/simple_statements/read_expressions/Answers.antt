use Rattle.std.proofs.Common.{refl, sym, ◌∙◌, arith}
use Rattle.rb_grammar.proofs.Pushing.{values_end}
use Rattle.rb_grammar.proofs.Reaching.{by_part, exhausts_within, exit_memory, exit_sure, exit_within, last_start, starts, within}
use Rattle.rb_grammar.proofs.Accepting.Starts.{no_more_expressions}
use Rattle.rb_parse.proofs.Lists.{value_first, value_read}
use Rattle.rb_parse.proofs.Shorter.{and_fewer, fewer_still}
use Rattle.rb_parse.proofs.simple_statements.read_expressions.Goals as goal

pub values-init : goal.values-init
values-init c = record {
  reached = value_first c.new-values.result.items c.args.cursor.now.point c.new-values.ensures.items;
  ending = refl;
  shorter = omega arith;
}

pub returns-in_err-value-clause-err : goal.returns-in_err-value-clause-err
returns-in_err-value-clause-err c =
    exit_within c.from_residual.result c.from_residual.ensures.1 c.values.invariant.ending c.values.invariant.reached
    c.in_err-value.ensures.err

pub returns-in_err-append-clause-err : goal.returns-in_err-append-clause-err
returns-in_err-append-clause-err c =
    exit_memory _ _ _ c.from_residual-in_err-append.result _ c.from_residual-in_err-append.ensures.1 c.in_err-append.ensures.memory

pub returns-then-not-stands_at-clause-ok : goal.returns-then-not-stands_at-clause-ok
returns-then-not-stands_at-clause-ok c =
    values_end c.append.new.list.items (value_read c.values.values.items c.append.new.list.items c.in_ok-value.value
    c.in_ok-append.ensures.items (by_part c.values.invariant.reached c.in_ok-value.ensures.ok))
    (no_more_expressions _ (sym c.if-not-stands_at.ensures))

pub returns-in_err-take-clause-err : goal.returns-in_err-take-clause-err
returns-in_err-take-clause-err c =
    exit_sure _ c.from_residual-in_err-take.result c.from_residual-in_err-take.ensures.1
    (c.in_ok-value.ensures.ending ∙ c.values.invariant.ending) (sym c.if-not-stands_at.ensures)
    (λ l. exhausts_within (value_read c.values.values.items c.append.new.list.items c.in_ok-value.value
    c.in_ok-append.ensures.items (by_part c.values.invariant.reached c.in_ok-value.ensures.ok)) (last_start _ refl l))
    c.in_err-take.ensures.err

pub values-preserved : goal.values-preserved
values-preserved c = record {
  reached = within (value_read c.values.values.items c.append.new.list.items c.in_ok-value.value c.in_ok-append.ensures.items
      (by_part c.values.invariant.reached c.in_ok-value.ensures.ok)) (starts _ refl c.in_ok-take.ensures.ok);
  ending = c.in_ok-take.ensures.ending ∙ c.in_ok-value.ensures.ending ∙ c.values.invariant.ending;
  shorter = omega (arith, c.in_ok-take.ensures.shorter, c.in_ok-value.ensures.shorter, c.values.invariant.shorter);
}

pub returns-in_err-value-clause-ending : goal.returns-in_err-value-clause-ending
returns-in_err-value-clause-ending c = c.in_err-value.ensures.ending ∙ c.values.invariant.ending

pub returns-in_err-append-clause-ending : goal.returns-in_err-append-clause-ending
returns-in_err-append-clause-ending c = c.in_ok-value.ensures.ending ∙ c.values.invariant.ending

pub returns-then-not-stands_at-clause-ending : goal.returns-then-not-stands_at-clause-ending
returns-then-not-stands_at-clause-ending c = c.in_ok-value.ensures.ending ∙ c.values.invariant.ending

pub returns-then-not-stands_at-clause-shorter : goal.returns-then-not-stands_at-clause-shorter
returns-then-not-stands_at-clause-shorter c = fewer_still c.in_ok-value.ensures.shorter c.values.invariant.shorter

pub returns-in_err-take-clause-ending : goal.returns-in_err-take-clause-ending
returns-in_err-take-clause-ending c =
    c.in_err-take.ensures.ending ∙ c.in_ok-value.ensures.ending ∙ c.values.invariant.ending

pub values-smaller : goal.values-smaller
values-smaller c = and_fewer c.in_ok-take.ensures.shorter c.in_ok-value.ensures.shorter
