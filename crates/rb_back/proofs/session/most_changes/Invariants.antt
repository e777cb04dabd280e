use Rattle.std.proofs.Common.{◌≡◌, sum_by, take}
use Rattle.rb_code.specs.declared.code.ProcessCode.{ProcessCode}
use Rattle.rb_back.proofs.session.most_changes.Given as goal

abbrev pub invariant-loop-process : goal.invariant-loop-process
invariant-loop-process l = l.words ≡ sum_by (λ (one : ProcessCode). one.words) (take l.process-index l.code.processes.items)
