-- How a command ends whose bytes go through a buffer: what stands at the sink behind it.
use Rattle.std.specs.Prelude.{◌≡◌, ◌⊎◌, ℕ, true, List, [], Option, Some, None}
use Rattle.rb_outside.specs.Outside.{Faults, failed_once}
use Rattle.rb_hall.specs.Judgement.{Explaining, Judging, Wants}
use Rattle.rb_hall.specs.Answers.{Scene, Answers}
use Rattle.rb_hall.specs.Complete.{IsComplete}
use Rattle.rb_hall.specs.declared.outcome.Outcome.{Outcome}
use Rattle.rb_hall.specs.declared.outcome.Outcome.TheVariants as out

-- nothing was written to a sink yet, as far as it tells
abbrev pub IsUnwritten : Option (List ℕ) → Type 0
IsUnwritten None = Unit {0}
IsUnwritten (Some bytes) = bytes ≡ []

-- What a call comes to, seen at the sink behind its buffer: files, starts, faults of reads and bytes are the same, and so is
-- the count of faults of writes; where the call's last write failed, so did the sink's last put. (Where none failed, a
-- put that failed before the call may still be the sink's last.)
pub record SeenBehind (told seen : Scene) : Type 0 where
  pub files : seen.files ≡ told.files
  pub starts : seen.starts ≡ told.starts
  pub read_faults : seen.read_faults ≡ told.read_faults
  pub written : seen.written ≡ told.written
  pub write_faults : seen.write_faults.count ≡ told.write_faults.count
  pub failed_last : told.write_faults.failed_last ≡ true → seen.write_faults.failed_last ≡ true

-- The call ended so, and its bytes went through a buffer; where nothing outside stands in the way, it ends as judged.
pub record EndsBehind {W : Type 0} (judges : Judging) (explains : Explaining W) (wanted : List Wants) (takes : Type 0) (old new : Scene)
    (outcome : Outcome W) : Type 0 where
  pub told : Scene
  pub answers : Answers judges explains wanted takes old told outcome
  pub seen : SeenBehind told new
  pub complete : IsComplete judges wanted old new outcome

-- what is left to do: the buffer was passed on, or that was a fault
abbrev pub IsPassedOn : {W : Type 0} → Outcome W → Outcome W → Option (List ℕ) → Option (List ℕ) → Faults → Faults → Type 0
IsPassedOn before after waiting written f0 f1 =
    ((after ≡ before) × (written ≡ waiting) × (f1.count ≡ f0.count)) ⊎ ((after ≡ out.WriteFault) × (f1 ≡ failed_once f0))

-- The end of a call: what was written is passed on, unless a write failed or nothing was written.
abbrev pub Finishes : {W : Type 0} → Outcome W → Outcome W → Option (List ℕ) → Option (List ℕ) → Option (List ℕ) → Faults → Faults → Type 0
Finishes out.Done after waiting old new f0 f1 = IsPassedOn out.Done after waiting new f0 f1
Finishes (out.Refused refusal) after waiting old new f0 f1 = IsPassedOn (out.Refused refusal) after waiting new f0 f1
Finishes (out.ReadFault number) after waiting old new f0 f1 = (after ≡ out.ReadFault number) × (new ≡ old) × (f1 ≡ f0)
Finishes out.WriteFault after waiting old new f0 f1 = (after ≡ out.WriteFault) × (new ≡ old) × (f1 ≡ f0)
Finishes out.Memory after waiting old new f0 f1 = (after ≡ out.Memory) × (new ≡ old) × (f1 ≡ f0)
