use Rattle.std.proofs.Common.{refl, sym, ◌∙◌, arith}
use Rattle.rb_grammar.proofs.Pushing.{procedures_end, procedures_init, procedures_step}
use Rattle.rb_grammar.proofs.Reaching.{begins_here, by_part, exit_memory, exit_within, within}
use Rattle.rb_grammar.proofs.Accepting.Starts.{no_procedures, some_procedure}
use Rattle.rb_grammar.specs.Parts.{Part}
use Rattle.rb_grammar.specs.Table.{procedures_after}
use Rattle.rb_parse.proofs.program.read_procedures.Goals as goal

pub procedures-init : goal.procedures-init
procedures-init c =
    record {
      reached = procedures_init c.args.edition c.new-procedures.result.items c.args.cursor.now.point c.new-procedures.ensures.items;
      ending = refl;
      shorter = omega arith;
    }

pub returns-in_err-procedure-clause-err : goal.returns-in_err-procedure-clause-err
returns-in_err-procedure-clause-err c =
    exit_within c.from_residual.result c.from_residual.ensures.1 c.procedures.invariant.ending
    (within c.procedures.invariant.reached (begins_here (Part.Procedure c.args.edition) _ (procedures_after c.args.edition) refl
    (some_procedure c.args.edition _ (sym c.procedures-test.ensures)))) c.in_err-procedure.ensures.err

pub returns-in_err-append-clause-err : goal.returns-in_err-append-clause-err
returns-in_err-append-clause-err c =
    exit_memory _ _ _ c.from_residual-in_err-append.result _ c.from_residual-in_err-append.ensures.1 c.in_err-append.ensures.memory

pub procedures-preserved : goal.procedures-preserved
procedures-preserved c =
    record {
      reached = procedures_step c.args.edition c.procedures.procedures.items c.append.new.list.items c.in_ok-procedure.procedure
          c.in_ok-append.ensures.items c.procedures.invariant.reached
          (by_part (begins_here (Part.Procedure c.args.edition) _ (procedures_after c.args.edition) refl
          (some_procedure c.args.edition _ (sym c.procedures-test.ensures))) c.in_ok-procedure.ensures.ok);
      ending = c.in_ok-procedure.ensures.ending ∙ c.procedures.invariant.ending;
      shorter = omega (arith, c.in_ok-procedure.ensures.shorter, c.procedures.invariant.shorter);
    }

pub returns-clause-ok : goal.returns-clause-ok
returns-clause-ok c =
    procedures_end c.args.edition c.procedures.procedures.items c.procedures.invariant.reached
    (no_procedures c.args.edition _ (sym c.procedures-test.ensures))

pub returns-in_err-procedure-clause-ending : goal.returns-in_err-procedure-clause-ending
returns-in_err-procedure-clause-ending c = c.in_err-procedure.ensures.ending ∙ c.procedures.invariant.ending

pub returns-in_err-append-clause-ending : goal.returns-in_err-append-clause-ending
returns-in_err-append-clause-ending c = c.in_ok-procedure.ensures.ending ∙ c.procedures.invariant.ending

pub procedures-smaller : goal.procedures-smaller
procedures-smaller c = c.in_ok-procedure.ensures.shorter
