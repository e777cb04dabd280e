-- How a command ends once it has written its text, or as far as it came.
use Rattle.std.proofs.Common.{ℕ, List, Option, Result, Ok, Err, inl, inr}
use Rattle.rb_outside.specs.Outside.{Faults}
use Rattle.rb_hall.specs.declared.fault.Fault.{Fault}
use Rattle.rb_hall.specs.declared.command.Unwritten.{Unwritten}
use Rattle.rb_hall.specs.declared.command.Unwritten.TheVariants as unwritten
use Rattle.rb_hall.specs.Judgement.{Judgement, Writes}
use Rattle.rb_hall.specs.Ends.{WriteEnds}
use Rattle.rb_turns.specs.Written.{PutsOrMemory}
use Rattle.rb_commands.specs.Written.{PutsFrontOrMemory}
use Rattle.rb_commands.specs.declared.why.Why.{Why}

module _ (judged : Judgement → Type 0) (known : Fault → Why → Type 0) (takes : Type 0) (text : List ℕ) (is : judged (Writes text))
    (old new : Option (List ℕ)) (before after : Faults) where
  -- where memory is taken before the first byte alone
  pub whole_ends : (result : Result (Unit {0}) (Unwritten Why)) → PutsOrMemory text old new before after result
      → WriteEnds judged known takes old new before after result
  whole_ends (Ok done) (written, quiet) = (text, is, written, quiet)
  whole_ends (Err (unwritten.Refused fault why)) h = absurd h
  whole_ends (Err unwritten.Fault) (part, failed) = (text, is, part, failed)
  whole_ends (Err unwritten.Memory) same = inl same

  -- where it is taken later too
  pub front_ends : takes → (result : Result (Unit {0}) (Unwritten Why)) → PutsFrontOrMemory text old new before after result
      → WriteEnds judged known takes old new before after result
  front_ends may (Ok done) (written, quiet) = (text, is, written, quiet)
  front_ends may (Err (unwritten.Refused fault why)) h = absurd h
  front_ends may (Err unwritten.Fault) (part, failed) = (text, is, part, failed)
  front_ends may (Err unwritten.Memory) (inl same) = inl same
  front_ends may (Err unwritten.Memory) (inr (part, quiet)) = inr (may, (text, is, part, quiet))
