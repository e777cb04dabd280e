-- What standard error is told of the end of a command.
use Rattle.std.specs.Prelude.{◌≡◌, ◌++◌, ℕ, List, codes, Option, Some, None, Result, Ok, Err, Vec}
use Rattle.std.specs.declared.alloc.Global.{Global}
use Rattle.rb_outside.specs.Outside.{Faults, WrotePart, failed_once, then_written}
use Rattle.rb_hall.specs.Judgement.{Wants}
use Rattle.rb_hall.specs.declared.outcome.Outcome.{Outcome}
use Rattle.rb_hall.specs.declared.outcome.Outcome.TheVariants as out
use Rattle.rb_commands.specs.declared.why.Why.{Why}
use Rattle.rb_tell.specs.Reasons.{IsReasonFor, IsShort}
use Rattle.rb_tell.specs.declared.end.Telling.{Telling}
use Rattle.rb_tell.specs.declared.end.Telling.TheVariants as tell

-- nothing was written
abbrev pub IsQuiet : Option (List ℕ) → Option (List ℕ) → Faults → Faults → Type 0
IsQuiet old new before after = (new ≡ old) × (after ≡ before)

-- what became of these bytes: all were written, and no write failed; or a front of them, and then one write failed
abbrev pub IsPut : List ℕ → Option (List ℕ) → Option (List ℕ) → Faults → Faults → Telling → Type 0
IsPut bytes old new before after tell.Told = (new ≡ then_written old bytes) × (after.count ≡ before.count)
IsPut bytes old new before after tell.Unheard = WrotePart old new bytes × (after ≡ failed_once before)
IsPut bytes old new before after telling = ⊥

-- what became of something that is told: some bytes were put of which this is so; or memory was wanting for them, and nothing was put
abbrev pub IsTold : (List ℕ → Type 0) → Option (List ℕ) → Option (List ℕ) → Faults → Faults → Telling → Type 0
IsTold so old new before after tell.Memory = IsQuiet old new before after
IsTold so old new before after telling = (bytes : List ℕ) × so bytes × IsPut bytes old new before after telling

-- there was nothing to tell
abbrev pub IsUntold : Option (List ℕ) → Option (List ℕ) → Faults → Faults → Telling → Type 0
IsUntold old new before after telling = (telling ≡ tell.Nothing) × IsQuiet old new before after

-- a text was put, if memory was there for it
abbrev pub PutsTold : {M : Type 0} → Result (Vec ℕ Global) M → Option (List ℕ) → Option (List ℕ) → Faults → Faults → Telling → Type 0
PutsTold (Ok text) old new before after telling = IsPut text.items old new before after telling
PutsTold (Err memory) old new before after telling = (telling ≡ tell.Memory) × IsQuiet old new before after

-- that a file could not be read, with what the system said
abbrev pub IsUnread : List ℕ → List ℕ → List ℕ → Type 0
IsUnread program name bytes = (said : List ℕ) × (bytes ≡ program ++ (codes ": cannot read " ++ (name ++ (said ++ codes "\n"))))

-- that standard output could not be written, with what the system said
abbrev pub IsUnwritten : List ℕ → List ℕ → Type 0
IsUnwritten program bytes = (said : List ℕ) × (bytes ≡ program ++ (codes ": cannot write to standard output" ++ (said ++ codes "\n")))

-- of the text that an end refuses no more was read than a text may have, where it is looked at
abbrev pub IsShortEnd : Outcome Why → Type 0
IsShortEnd (out.Refused refusal) = IsShort refusal.fault refusal.text.now
IsShortEnd outcome = Unit {0}

-- Of a refusal the reason is told, of the file that has the text, with the bytes that were read of it; which file could not be read; that nothing
-- could be written; and of another end, and of a refusal of no file, nothing.
abbrev pub Tells : List ℕ → Option Wants → Outcome Why → Option (List ℕ) → Option (List ℕ) → Faults → Faults → Telling → Type 0
Tells program (Some file) (out.Refused refusal) old new before after telling = IsTold (IsReasonFor file.name refusal) old new before after telling
Tells program None (out.Refused refusal) old new before after telling = IsUntold old new before after telling
Tells program (Some file) (out.ReadFault number) old new before after telling = IsTold (IsUnread program file.name) old new before after telling
Tells program None (out.ReadFault number) old new before after telling = IsUntold old new before after telling
Tells program file out.WriteFault old new before after telling = IsTold (IsUnwritten program) old new before after telling
Tells program file out.Done old new before after telling = IsUntold old new before after telling
Tells program file out.Memory old new before after telling = IsUntold old new before after telling

-- Of what was written nothing is told, but for words that ask for nothing what was wrong with them.
abbrev pub TellsDone : Option (List ℕ) → Option (List ℕ) → Option (List ℕ) → Faults → Faults → Telling → Type 0
TellsDone None old new before after telling = IsUntold old new before after telling
TellsDone (Some wrong) old new before after telling = IsTold (λ bytes. bytes ≡ wrong) old new before after telling

-- what is told of an end, where this was wrong with the words
abbrev pub TellsEnd : List ℕ → Option (List ℕ) → Option Wants → Outcome Why → Option (List ℕ) → Option (List ℕ) → Faults → Faults → Telling → Type 0
TellsEnd program wrong file out.Done old new before after telling = TellsDone wrong old new before after telling
TellsEnd program wrong file outcome old new before after telling = Tells program file outcome old new before after telling
