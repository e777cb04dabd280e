use Rattle.std.proofs.Common.{refl, sym, ◌∙◌, arith}
use Rattle.rb_grammar.proofs.Pushing.{processes_end}
use Rattle.rb_grammar.proofs.Reaching.{begins_here, by_part, exit_memory, exit_within, within}
use Rattle.rb_grammar.proofs.Accepting.Starts.{no_more_processes, some_process}
use Rattle.rb_grammar.specs.Parts.{Part}
use Rattle.rb_grammar.specs.Table.{processes_after}
use Rattle.rb_parse.proofs.Lists.{process_first, process_read}
use Rattle.rb_parse.proofs.Shorter.{fewer_still}
use Rattle.rb_parse.proofs.program.read_processes.Goals as goal

pub processes-init : goal.processes-init
processes-init c = record {
  reached = process_first c.args.edition c.new-processes.result.items c.args.cursor.now.point c.new-processes.ensures.items;
  ending = refl;
  shorter = omega arith;
}

pub returns-in_err-process-clause-err : goal.returns-in_err-process-clause-err
returns-in_err-process-clause-err c =
    exit_within c.from_residual.result c.from_residual.ensures.1 c.processes.invariant.ending c.processes.invariant.reached
    c.in_err-process.ensures.err

pub returns-in_err-append-clause-err : goal.returns-in_err-append-clause-err
returns-in_err-append-clause-err c =
    exit_memory _ _ _ c.from_residual-in_err-append.result _ c.from_residual-in_err-append.ensures.1 c.in_err-append.ensures.memory

pub returns-then-not-stands_at-clause-ok : goal.returns-then-not-stands_at-clause-ok
returns-then-not-stands_at-clause-ok c =
    processes_end c.args.edition c.append.new.list.items (process_read c.args.edition c.processes.processes.items
    c.append.new.list.items c.in_ok-process.process c.in_ok-append.ensures.items
    (by_part c.processes.invariant.reached c.in_ok-process.ensures.ok))
    (no_more_processes c.args.edition _ (sym c.if-not-stands_at.ensures))

pub processes-preserved : goal.processes-preserved
processes-preserved c = record {
  reached = within (process_read c.args.edition c.processes.processes.items c.append.new.list.items c.in_ok-process.process
      c.in_ok-append.ensures.items (by_part c.processes.invariant.reached c.in_ok-process.ensures.ok))
      (begins_here (Part.Process c.args.edition) _ (processes_after c.args.edition) refl
      (some_process c.args.edition _ (sym c.if-not-stands_at.ensures)));
  ending = c.in_ok-process.ensures.ending ∙ c.processes.invariant.ending;
  shorter = omega (arith, c.in_ok-process.ensures.shorter, c.processes.invariant.shorter);
}

pub returns-in_err-process-clause-ending : goal.returns-in_err-process-clause-ending
returns-in_err-process-clause-ending c = c.in_err-process.ensures.ending ∙ c.processes.invariant.ending

pub returns-in_err-append-clause-ending : goal.returns-in_err-append-clause-ending
returns-in_err-append-clause-ending c = c.in_ok-process.ensures.ending ∙ c.processes.invariant.ending

pub processes-smaller : goal.processes-smaller
processes-smaller c = c.in_ok-process.ensures.shorter

pub returns-then-not-stands_at-clause-ending : goal.returns-then-not-stands_at-clause-ending
returns-then-not-stands_at-clause-ending c = c.in_ok-process.ensures.ending ∙ c.processes.invariant.ending

pub returns-then-not-stands_at-clause-shorter : goal.returns-then-not-stands_at-clause-shorter
returns-then-not-stands_at-clause-shorter c =
    fewer_still c.in_ok-process.ensures.shorter c.processes.invariant.shorter
