-- The link of the turn, by how the process stands before it.
use Rattle.rb_proc.specs.Given.{alternate_by}
use Rattle.rb_machine.proofs.step.step_kept.Given as goal

abbrev pub ghost-note : goal.ghost-note
ghost-note g a = record {
  turn = a.turn;
  process = a.p;
  alternate = alternate_by a.wanted a.proc.now.process.levels;
  before = a.proc.now.process.state.last_kept;
}
