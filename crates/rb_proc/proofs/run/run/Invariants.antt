use Rattle.rb_proc.specs.Runs.{CursorsRise}
use Rattle.std.proofs.Common.{ℤ, List, ◌≡◌, ◌≤◌, ◌+◌, ◌*◌}
use Rattle.rb_world.specs.World.{copy_of, last_of}
use Rattle.rb_code.specs.Instructions.Plain.{code as plain}
use Rattle.rb_code.specs.WordMachine.Act.{execute}
use Rattle.rb_code.specs.SoundCode.Safe.{IsUnchanged, steps_left}
use Rattle.rb_code.specs.SoundCode.Stays.{entry_calls}
use Rattle.rb_code.specs.WordMachine.Turn.{most_steps}
use Rattle.rb_proc.specs.Outcomes.{whole}
use Rattle.rb_proc.specs.Sees.{AreSized, see_of}
use Rattle.rb_proc.specs.Work.{named_along}
use Rattle.rb_proc.proofs.Running.{Runs}
use Rattle.rb_proc.proofs.run.run.Given as goal

abbrev pub invariant-turn : goal.invariant-turn
invariant-turn g l = record {
  start : List ℤ;
  cursors : CursorsRise (plain l.code) l.sight.process start;
  runs :
      Runs (plain l.code) (see_of l.sight l.fn.memory.levels) (IsUnchanged (whole (plain l.code).texts l.fn.bench l.fn.memory l.fn.mails))
      (entry_calls (copy_of (last_of l.fn.memory.levels))) start (most_steps (plain l.code))
      (execute (plain l.code) (see_of l.sight l.fn.memory.levels) (most_steps (plain l.code)) l.from l.fn.operands
      (whole (plain l.code).texts l.fn.bench l.fn.memory l.fn.mails))
      l.at l.operands (whole (plain l.code).texts l.bench l.memory l.mails);
  levels : l.memory.levels ≡ l.fn.memory.levels;
  waiting : l.memory.waiting ≡ l.fn.memory.waiting;
  sized : AreSized (plain l.code) l.mails;
  -- what was worked so far and what is named from here on are no more than what was named from the start
  work :
      l.steps + 3 * named_along (plain l.code) (see_of l.sight l.fn.memory.levels) runs.n l.at l.operands
      (whole (plain l.code).texts l.bench l.memory l.mails)
      ≤ l.fn.steps + 3 * named_along (plain l.code) (see_of l.sight l.fn.memory.levels)
      (most_steps (plain l.code)) l.from l.fn.operands
      (whole (plain l.code).texts l.fn.bench l.fn.memory l.fn.mails);
}

abbrev pub decreases-turn : goal.decreases-turn
decreases-turn g l =
    steps_left (plain l.code) (see_of l.sight l.fn.memory.levels) (most_steps (plain l.code)) l.at l.operands
    (whole (plain l.code).texts l.bench l.memory l.mails)
