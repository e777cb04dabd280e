use Rattle.std.proofs.Common.{refl, sym, ◌∙◌, arith}
use Rattle.rb_grammar.proofs.Pushing.{names_end}
use Rattle.rb_grammar.proofs.Reaching.{by_terminal, exhausts_within, exit_memory, exit_missed, exit_sure, last_start, starts, within}
use Rattle.rb_grammar.proofs.Accepting.Starts.{no_more_names}
use Rattle.rb_grammar.proofs.Takes.{name_taken}
use Rattle.rb_parse.proofs.Lists.{name_first, name_read}
use Rattle.rb_parse.proofs.Shorter.{and_fewer, fewer_still}
use Rattle.rb_parse.proofs.declarations.read_names.Goals as goal

pub names-init : goal.names-init
names-init c = record {
  reached = name_first c.new-names.result.items c.args.cursor.now.point c.new-names.ensures.items;
  ending = refl;
  shorter = omega arith;
}

pub returns-in_err-name-clause-err : goal.returns-in_err-name-clause-err
returns-in_err-name-clause-err c =
    exit_missed c.from_residual.result c.from_residual.ensures.1 c.names.invariant.ending c.names.invariant.reached
    c.in_err-name.ensures.err

pub returns-in_err-append-clause-err : goal.returns-in_err-append-clause-err
returns-in_err-append-clause-err c =
    exit_memory _ _ _ c.from_residual-in_err-append.result _ c.from_residual-in_err-append.ensures.1 c.in_err-append.ensures.memory

pub returns-then-not-stands_at-clause-ok : goal.returns-then-not-stands_at-clause-ok
returns-then-not-stands_at-clause-ok c =
    names_end c.append.new.list.items (name_read c.names.names.items c.append.new.list.items c.in_ok-name.name
    c.in_ok-append.ensures.items (c.in_ok-name.ensures.ok).is
    (by_terminal c.names.invariant.reached (name_taken c.in_ok-name.ensures.ok)))
    (no_more_names _ (sym c.if-not-stands_at.ensures))

pub returns-in_err-take-clause-err : goal.returns-in_err-take-clause-err
returns-in_err-take-clause-err c =
    exit_sure _ c.from_residual-in_err-take.result c.from_residual-in_err-take.ensures.1
    (c.in_ok-name.ensures.ending ∙ c.names.invariant.ending) (sym c.if-not-stands_at.ensures)
    (λ l. exhausts_within (name_read c.names.names.items c.append.new.list.items c.in_ok-name.name
    c.in_ok-append.ensures.items (c.in_ok-name.ensures.ok).is
    (by_terminal c.names.invariant.reached (name_taken c.in_ok-name.ensures.ok))) (last_start _ refl l))
    c.in_err-take.ensures.err

pub names-preserved : goal.names-preserved
names-preserved c = record {
  reached = within (name_read c.names.names.items c.append.new.list.items c.in_ok-name.name c.in_ok-append.ensures.items
      (c.in_ok-name.ensures.ok).is
      (by_terminal c.names.invariant.reached (name_taken c.in_ok-name.ensures.ok))) (starts _ refl c.in_ok-take.ensures.ok);
  ending = c.in_ok-take.ensures.ending ∙ c.in_ok-name.ensures.ending ∙ c.names.invariant.ending;
  shorter = omega (arith, c.in_ok-take.ensures.shorter, c.in_ok-name.ensures.shorter, c.names.invariant.shorter);
}

pub returns-in_err-name-clause-ending : goal.returns-in_err-name-clause-ending
returns-in_err-name-clause-ending c = c.in_err-name.ensures.ending ∙ c.names.invariant.ending

pub returns-in_err-append-clause-ending : goal.returns-in_err-append-clause-ending
returns-in_err-append-clause-ending c = c.in_ok-name.ensures.ending ∙ c.names.invariant.ending

pub returns-then-not-stands_at-clause-ending : goal.returns-then-not-stands_at-clause-ending
returns-then-not-stands_at-clause-ending c = c.in_ok-name.ensures.ending ∙ c.names.invariant.ending

pub returns-then-not-stands_at-clause-shorter : goal.returns-then-not-stands_at-clause-shorter
returns-then-not-stands_at-clause-shorter c = fewer_still c.in_ok-name.ensures.shorter c.names.invariant.shorter

pub returns-in_err-take-clause-ending : goal.returns-in_err-take-clause-ending
returns-in_err-take-clause-ending c =
    c.in_err-take.ensures.ending ∙ c.in_ok-name.ensures.ending ∙ c.names.invariant.ending

pub names-smaller : goal.names-smaller
names-smaller c = and_fewer c.in_ok-take.ensures.shorter c.in_ok-name.ensures.shorter
