-- The counts of a machine at work can be read.
use Rattle.std.proofs.Common.{ℕ, List, arith}
use Rattle.rb_world.specs.Slots.{Slots}
use Rattle.rb_code.specs.Instructions.Plain.{Code}
use Rattle.rb_code.specs.SoundCode.WellFormed.{JoinsTwo}
use Rattle.rb_code.proofs.WholeRuns.ProcessesBegin.{all_there}
use Rattle.rb_conv.specs.Conversations.{Conversation}
use Rattle.rb_proc.specs.Process.{Seen}
use Rattle.rb_machine.specs.AtWork.{IsAtWork}
use Rattle.rb_recovery.specs.Reading.{AreCounted}
use Rattle.rb_recovery.specs.declared.links.Link.{Link}
use Rattle.rb_machine.proofs.Knowing.KnownNumbers.{numbered_at_work}
use Rattle.rb_machine.proofs.ReadAt.{process_there}

pub counted_at_work : (c : Code) (t : ℕ) (procs : List Seen) (table : List Conversation) (slots : Slots) (links : List Link)
    → IsAtWork c t procs table slots links → AreCounted c procs
counted_at_work c t procs table slots links work = record {
  numbered = numbered_at_work c t procs table slots links work;
  ends = λ channel ends e. all_there (JoinsTwo c) c.channels channel ends work.sound.well.channels e;
  cursors = λ p one e channel among.
      let below = (work.known.counted p one.process (process_there procs p one e)).cursors channel among in
      omega (arith, below, work.turns);
}
