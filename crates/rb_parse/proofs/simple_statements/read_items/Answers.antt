use Rattle.std.proofs.Common.{refl, sym, ◌∙◌, arith}
use Rattle.rb_grammar.proofs.Pushing.{items_end}
use Rattle.rb_grammar.proofs.Reaching.{by_part, exhausts_within, exit_memory, exit_sure, exit_within, last_start, starts, within}
use Rattle.rb_grammar.proofs.Accepting.Starts.{no_more_items}
use Rattle.rb_parse.proofs.Lists.{item_first, item_read}
use Rattle.rb_parse.proofs.Shorter.{and_fewer, fewer_still}
use Rattle.rb_parse.proofs.simple_statements.read_items.Goals as goal

pub items-init : goal.items-init
items-init c = record {
  reached = item_first c.new-items.result.items c.args.cursor.now.point c.new-items.ensures.items;
  ending = refl;
  shorter = omega arith;
}

pub returns-in_err-item-clause-err : goal.returns-in_err-item-clause-err
returns-in_err-item-clause-err c =
    exit_within c.from_residual.result c.from_residual.ensures.1 c.items.invariant.ending c.items.invariant.reached
    c.in_err-item.ensures.err

pub returns-in_err-append-clause-err : goal.returns-in_err-append-clause-err
returns-in_err-append-clause-err c =
    exit_memory _ _ _ c.from_residual-in_err-append.result _ c.from_residual-in_err-append.ensures.1 c.in_err-append.ensures.memory

pub returns-then-not-stands_at-clause-ok : goal.returns-then-not-stands_at-clause-ok
returns-then-not-stands_at-clause-ok c =
    items_end c.append.new.list.items (item_read c.items.items.items c.append.new.list.items c.in_ok-item.item
    c.in_ok-append.ensures.items (by_part c.items.invariant.reached c.in_ok-item.ensures.ok))
    (no_more_items _ (sym c.if-not-stands_at.ensures))

pub returns-in_err-take-clause-err : goal.returns-in_err-take-clause-err
returns-in_err-take-clause-err c =
    exit_sure _ c.from_residual-in_err-take.result c.from_residual-in_err-take.ensures.1
    (c.in_ok-item.ensures.ending ∙ c.items.invariant.ending) (sym c.if-not-stands_at.ensures)
    (λ l. exhausts_within (item_read c.items.items.items c.append.new.list.items c.in_ok-item.item
    c.in_ok-append.ensures.items (by_part c.items.invariant.reached c.in_ok-item.ensures.ok)) (last_start _ refl l))
    c.in_err-take.ensures.err

pub items-preserved : goal.items-preserved
items-preserved c = record {
  reached = within (item_read c.items.items.items c.append.new.list.items c.in_ok-item.item c.in_ok-append.ensures.items
      (by_part c.items.invariant.reached c.in_ok-item.ensures.ok)) (starts _ refl c.in_ok-take.ensures.ok);
  ending = c.in_ok-take.ensures.ending ∙ c.in_ok-item.ensures.ending ∙ c.items.invariant.ending;
  shorter = omega (arith, c.in_ok-take.ensures.shorter, c.in_ok-item.ensures.shorter, c.items.invariant.shorter);
}

pub returns-in_err-item-clause-ending : goal.returns-in_err-item-clause-ending
returns-in_err-item-clause-ending c = c.in_err-item.ensures.ending ∙ c.items.invariant.ending

pub returns-in_err-append-clause-ending : goal.returns-in_err-append-clause-ending
returns-in_err-append-clause-ending c = c.in_ok-item.ensures.ending ∙ c.items.invariant.ending

pub returns-then-not-stands_at-clause-ending : goal.returns-then-not-stands_at-clause-ending
returns-then-not-stands_at-clause-ending c = c.in_ok-item.ensures.ending ∙ c.items.invariant.ending

pub returns-then-not-stands_at-clause-shorter : goal.returns-then-not-stands_at-clause-shorter
returns-then-not-stands_at-clause-shorter c = fewer_still c.in_ok-item.ensures.shorter c.items.invariant.shorter

pub returns-in_err-take-clause-ending : goal.returns-in_err-take-clause-ending
returns-in_err-take-clause-ending c =
    c.in_err-take.ensures.ending ∙ c.in_ok-item.ensures.ending ∙ c.items.invariant.ending

pub items-smaller : goal.items-smaller
items-smaller c = and_fewer c.in_ok-take.ensures.shorter c.in_ok-item.ensures.shorter
