use Rattle.std.proofs.Common.{refl, sym, ◌∙◌, arith}
use Rattle.rb_grammar.specs.Parts.{Part}
use Rattle.rb_grammar.specs.StatementTable.{declarations_after}
use Rattle.rb_grammar.proofs.Accepting.Starts.{some_declaration, no_declarations}
use Rattle.rb_grammar.proofs.Pushing.{vars_init, vars_step, vars_end}
use Rattle.rb_grammar.proofs.Reaching.{begins_here, by_part, exit_memory, exit_within, within}
use Rattle.rb_parse.proofs.declarations.read_declarations.Goals as goal

pub vars-init : goal.vars-init
vars-init c = record {
  reached = vars_init c.new-vars.result.items c.args.cursor.now.point c.new-vars.ensures.items;
  ending = refl;
  shorter = omega arith;
}

pub returns-in_err-var-clause-err : goal.returns-in_err-var-clause-err
returns-in_err-var-clause-err c =
    exit_within c.from_residual.result c.from_residual.ensures.1 c.vars.invariant.ending
    (within c.vars.invariant.reached (begins_here Part.Declaration _ declarations_after refl
    (some_declaration _ (sym c.vars-test.ensures)))) c.in_err-var.ensures.err

pub returns-in_err-append-clause-err : goal.returns-in_err-append-clause-err
returns-in_err-append-clause-err c =
    exit_memory _ _ _ c.from_residual-in_err-append.result _ c.from_residual-in_err-append.ensures.1 c.in_err-append.ensures.memory

pub vars-preserved : goal.vars-preserved
vars-preserved c = record {
  reached = vars_step c.vars.vars.items c.append.new.list.items c.in_ok-var.var c.in_ok-append.ensures.items c.vars.invariant.reached
      (by_part (begins_here Part.Declaration _ declarations_after refl (some_declaration _ (sym c.vars-test.ensures)))
      c.in_ok-var.ensures.ok);
  ending = c.in_ok-var.ensures.ending ∙ c.vars.invariant.ending;
  shorter = omega (arith, c.in_ok-var.ensures.shorter, c.vars.invariant.shorter);
}

pub returns-clause-ok : goal.returns-clause-ok
returns-clause-ok c = vars_end c.vars.vars.items c.vars.invariant.reached (no_declarations _ (sym c.vars-test.ensures))

pub returns-in_err-var-clause-ending : goal.returns-in_err-var-clause-ending
returns-in_err-var-clause-ending c = c.in_err-var.ensures.ending ∙ c.vars.invariant.ending

pub returns-in_err-append-clause-ending : goal.returns-in_err-append-clause-ending
returns-in_err-append-clause-ending c = c.in_ok-var.ensures.ending ∙ c.vars.invariant.ending

pub vars-smaller : goal.vars-smaller
vars-smaller c = c.in_ok-var.ensures.shorter
