-- The next process is pushed.
use Rattle.std.proofs.Common.{arith}
use Rattle.std.proofs.lemmas.List.{length-map}
use Rattle.rb_code.specs.Instructions.Plain.{code as plain, part}
use Rattle.rb_machine.proofs.Beginning.FirstProcesses.{one_more_pushed}
use Rattle.rb_machine.proofs.loading.load_processes.Goals as goal

pub loop-process-preserved : goal.loop-process-preserved
loop-process-preserved g c =
    let processes = c.args.code.now.processes in
    one_more_pushed (plain c.args.code.now) c.loop-process.process _ _ _
    (omega (arith, length-map processes.items part, processes.ok.0, c.len-process-end.ensures, c.loop-process-test.true))
    c.loop-process.invariant c.in_ok-new.ensures c.in_ok-push.ensures.items

pub new-requires-clause-process : goal.new-requires-clause-process
new-requires-clause-process g c =
    let processes = c.args.code.now.processes in
    omega (arith, length-map processes.items part, processes.ok.0, c.len-process-end.ensures, c.loop-process-test.true)

pub overflow_cast-process : goal.overflow_cast-process
overflow_cast-process g c =
    let processes = c.args.code.now.processes in
    omega (arith, length-map processes.items part, processes.ok.0, c.len-process-end.ensures, c.loop-process-test.true, c.requires.few)
