use Rattle.rb_make.specs.Trial.{later_process}
use Rattle.rb_make.proofs.Texts.{ArePut}
use Rattle.rb_make.proofs.source.push_later_processes.Given as goal

abbrev pub invariant-loop-process : goal.invariant-loop-process
invariant-loop-process l = ArePut (later_process l.sizes.processes l.sizes.rounds) l.initial.text.items 2 l.process l.text.items
