-- What a command that the driver carries out answers when, what it has written by then, and which files were started, and how far they were read.
-- Every statement is of any way to judge, and of any files that are wanted.
use Rattle.std.specs.Prelude.{◌≡◌, ◌⊎◌, ℕ, ◌+◌, ◌<◌, ◌≤◌, Bool, true, false, List, [], ◌∷◌, ◌++◌, length, take, Option, Some, None, slice_get}
use Rattle.rb_outside.specs.Outside.{File, Start, Faults, WrotePart, bytes_of, named, failed_once, was_missing, then_written}
use Rattle.rb_hall.specs.Judgement.{Explained, Explaining, Judgement, Judging, ReadsOn, RefusedWith, Writes, Wants, AreShort, Limited, line_of}
use Rattle.rb_hall.specs.declared.fault.Fault.{Fault}
use Rattle.rb_hall.specs.declared.outcome.Refusal.{Refusal}
use Rattle.rb_hall.specs.declared.outcome.Outcome.{Outcome}
use Rattle.rb_hall.specs.declared.outcome.Outcome.TheVariants as out
use Rattle.rb_hall.specs.declared.driver.Halted.{Halted}
use Rattle.rb_hall.specs.declared.driver.Halted.TheVariants as halt

-- What a contract sees of the shelf and the sink.
pub record Scene : Type 0 where
  pub files : Option (List File)
  pub starts : List Start
  pub read_faults : Faults
  pub written : Option (List ℕ)
  pub write_faults : Faults

-- the scene of a shelf and a sink, by what each tells
abbrev pub scene_of : {F S : Type 0} → (F → Option (List File)) → (F → List Start) → (F → Faults) →
    (S → Option (List ℕ)) → (S → Faults) → F → S → Scene
scene_of files starts read_faults written write_faults shelf out = record {
  files = files shelf;
  starts = starts shelf;
  read_faults = read_faults shelf;
  written = written out;
  write_faults = write_faults out;
}

-- a file is read in pieces of so many bytes, at most
abbrev pub piece_bytes : ℕ
piece_bytes = 4096

-- of a file of these bytes so many were passed: all of them, and its end was told; or more than the command takes, by less than a piece
pub record IsRead (most : ℕ) (bytes : List ℕ) (passed : ℕ) (ended : Bool) : Type 0 where
  pub enough : ((passed ≡ length bytes) × (ended ≡ true)) ⊎ ((most < passed) × (ended ≡ false))
  pub within : passed ≤ length bytes
  pub not_far : passed ≤ most + piece_bytes

-- The command has read these texts, one after another, and these files are left; each was started once, after the texts
-- before it let the command read on, and was read. The newest start stands first.
pub data HasRead (files : List File) (judges : Judging) (wanted : List Wants) : List (List ℕ) → List Wants → List Start → Type 0 where
  nothing_yet : HasRead files judges wanted [] wanted []
  one_more : (texts : List (List ℕ)) (next : Wants) (rest : List Wants) (starts : List Start) (bytes : List ℕ) (passed : ℕ)
      (ended : Bool) → HasRead files judges wanted texts (next ∷ rest) starts → judges texts ReadsOn →
      bytes_of files next.name ≡ Some bytes → IsRead next.most bytes passed ended →
      HasRead files judges wanted (texts ++ bytes ∷ []) rest (record { file = Some next.name; passed = passed; went = true; ended = ended } ∷ starts)

-- the same since a shelf had these starts
pub record HasReadSince (files : List File) (judges : Judging) (wanted : List Wants) (texts : List (List ℕ)) (rest : List Wants)
    (old now : List Start) : Type 0 where
  pub starts : List Start
  pub read : HasRead files judges wanted texts rest starts
  pub started : now ≡ starts ++ old

-- Where a shelf tells no files: the command has read these texts, one after another, each after those before it let the command
-- read on, and these files are left. From where the texts came is not told.
pub data HasReadUntold (judges : Judging) (wanted : List Wants) : List (List ℕ) → List Wants → Type 0 where
  none_read : HasReadUntold judges wanted [] wanted
  one_read : (texts : List (List ℕ)) (next : Wants) (rest : List Wants) (bytes : List ℕ) →
      HasReadUntold judges wanted texts (next ∷ rest) → judges texts ReadsOn →
      HasReadUntold judges wanted (texts ++ bytes ∷ []) rest

-- the same, whether files are told or not
abbrev pub HasReadIn : Option (List File) → Judging → List Wants → List (List ℕ) → List Wants → List Start → List Start → Type 0
HasReadIn None judges wanted texts rest old now = HasReadUntold judges wanted texts rest
HasReadIn (Some files) judges wanted texts rest old now = HasReadSince files judges wanted texts rest old now

-- The command ended with this judgement of what it has read.
pub record EndedIn (files : Option (List File)) (judges : Judging) (wanted : List Wants) (old new : List Start) (judgement : Judgement) : Type 0 where
  pub texts : List (List ℕ)
  pub rest : List Wants
  pub read : HasReadIn files judges wanted texts rest old new
  pub judged : judges texts judgement

-- The bytes are what was read of the text: all of it, or so much that it is above its limit, by less than a piece.
pub record IsFront (most : ℕ) (text bytes : List ℕ) : Type 0 where
  pub front : bytes ≡ take (length bytes) text
  pub ended : Bool
  pub read : IsRead most text (length bytes) ended

-- the same, where files are told; else from where the bytes came is not told
abbrev pub IsFrontIn : Option (List File) → ℕ → List ℕ → List ℕ → Type 0
IsFrontIn None most text bytes = text ≡ bytes
IsFrontIn (Some files) most text bytes = IsFront most text bytes

-- What a refusal keeps of the texts that were read: the number of the last, which is that of its file, and the bytes of it as they were read;
-- or that none was read.
pub data IsOfLast (files : Option (List File)) (wanted : List Wants) (texts : List (List ℕ)) (number : ℕ) (bytes : List ℕ) : Type 0 where
  of_none : texts ≡ [] → number ≡ 0 → bytes ≡ [] → IsOfLast files wanted texts number bytes
  of_last : (before : List (List ℕ)) (text : List ℕ) (next : Wants) → texts ≡ before ++ text ∷ [] → number ≡ length before →
      slice_get wanted number ≡ Some next → IsFrontIn files next.most text bytes → IsOfLast files wanted texts number bytes

-- The command was refused for the fault that the refusal keeps, with the text that was read last.
pub record RefusesIn {W : Type 0} (files : Option (List File)) (judges : Judging) (explains : Explaining W) (wanted : List Wants)
    (old new : List Start) (refusal : Refusal W) : Type 0 where
  pub texts : List (List ℕ)
  pub rest : List Wants
  pub read : HasReadIn files judges wanted texts rest old new
  pub judged : judges texts (RefusedWith refusal.fault)
  pub explained : Explained explains texts refusal.fault refusal.why
  pub keeps : IsOfLast files wanted texts refusal.number refusal.text.now

-- The command stopped at its next file, of which the last start is one.
pub record StoppedAt (files : List File) (judges : Judging) (wanted : List Wants) (old new : List Start) (next : Wants) (last : Start) : Type 0 where
  pub texts : List (List ℕ)
  pub rest : List Wants
  pub starts : List Start
  pub read : HasRead files judges wanted texts (next ∷ rest) starts
  pub goes_on : judges texts ReadsOn
  pub is_of : last.file ≡ named files next.name
  pub not_far : last.passed ≤ next.most + piece_bytes
  pub started : new ≡ last ∷ starts ++ old

-- it stopped at its next file, for a fault of a start or of a piece
pub record StoppedByFault (files : List File) (judges : Judging) (wanted : List Wants) (old new : List Start) (number : ℕ) : Type 0 where
  pub next : Wants
  pub last : Start
  pub stopped : StoppedAt files judges wanted old new next last
  pub numbered : number ≡ length stopped.texts

-- it stopped at its next file, which is not there
pub record StoppedByMissing (files : List File) (judges : Judging) (wanted : List Wants) (old new : List Start) (number : ℕ) : Type 0 where
  pub next : Wants
  pub last : Start
  pub stopped : StoppedAt files judges wanted old new next last
  pub missing : bytes_of files next.name ≡ None
  pub numbered : number ≡ length stopped.texts

-- it ran out of memory: between two files, or at its next file, whose start went well
pub data RanOut (files : List File) (judges : Judging) (wanted : List Wants) (old new : List Start) : Type 0 where
  between : (texts : List (List ℕ)) (rest : List Wants) (starts : List Start) → HasRead files judges wanted texts rest starts →
      new ≡ starts ++ old → RanOut files judges wanted old new
  within : (next : Wants) (last : Start) → StoppedAt files judges wanted old new next last → last.went ≡ true
      → RanOut files judges wanted old new

-- it stopped at its next file, which it wanted after these texts
pub record StoppedUntold (judges : Judging) (wanted : List Wants) (number : ℕ) : Type 0 where
  pub texts : List (List ℕ)
  pub next : Wants
  pub rest : List Wants
  pub read : HasReadUntold judges wanted texts (next ∷ rest)
  pub goes_on : judges texts ReadsOn
  pub numbered : number ≡ length texts

-- a stop for a fault, whether files are told or not
abbrev pub StoppedByFaultIn : Option (List File) → Judging → List Wants → List Start → List Start → ℕ → Type 0
StoppedByFaultIn None judges wanted old new number = StoppedUntold judges wanted number
StoppedByFaultIn (Some files) judges wanted old new number = StoppedByFault files judges wanted old new number

-- the same of a stop at a file that is not there, of which only a shelf that tells its files may speak
abbrev pub StoppedByMissingIn : Option (List File) → Judging → List Wants → List Start → List Start → ℕ → Type 0
StoppedByMissingIn None judges wanted old new number = ⊥
StoppedByMissingIn (Some files) judges wanted old new number = StoppedByMissing files judges wanted old new number

-- the same of want of memory, which may come at any time, so that nothing is known where no files are told
abbrev pub RanOutIn : Option (List File) → Judging → List Wants → List Start → List Start → Type 0
RanOutIn None judges wanted old new = Unit {0}
RanOutIn (Some files) judges wanted old new = RanOut files judges wanted old new

-- a read of the file of this number failed, which was the last call of the shelf, and was counted; or that file is not there
pub data ReadFailsIn (files : Option (List File)) (judges : Judging) (wanted : List Wants) (old new : List Start) (before after : Faults)
    (number : ℕ) : Type 0 where
  by_fault : after ≡ failed_once before → StoppedByFaultIn files judges wanted old new number
      → ReadFailsIn files judges wanted old new before after number
  by_missing : after ≡ was_missing before → StoppedByMissingIn files judges wanted old new number
      → ReadFailsIn files judges wanted old new before after number

-- how the reading of the texts stops before the last of them was judged
abbrev pub StopsReading : {W : Type 0} → Option (List File) → Judging → Explaining W → List Wants → List Start → List Start → Faults → Faults
    → Halted W → Type 0
StopsReading files judges explains wanted old new before after (halt.Refused refusal) =
    RefusesIn files judges explains wanted old new refusal × (after.count ≡ before.count)
StopsReading files judges explains wanted old new before after (halt.ReadFault number) = ReadFailsIn files judges wanted old new before after number
StopsReading files judges explains wanted old new before after halt.Memory =
    RanOutIn files judges wanted old new × (after.count ≡ before.count)

-- The texts of all files were read and judged, and this is known of what is held of them.
pub record ReadAll {H : Type 0} (files : Option (List File)) (judges : Judging) (wanted : List Wants) (holds : List (List ℕ) → H → Type 0)
    (old new : List Start) (held : H) (number : ℕ) (bytes : List ℕ) : Type 0 where
  pub texts : List (List ℕ)
  pub read : HasReadIn files (Limited judges wanted) wanted texts [] old new
  pub short : AreShort wanted texts []
  pub many : length texts ≡ length wanted
  pub holding : holds texts held
  pub keeps : IsOfLast files wanted texts number bytes

-- no write failed
abbrev pub WritesWell : Scene → Scene → Type 0
WritesWell old new = new.write_faults.count ≡ old.write_faults.count

-- no read failed, unless as a start that was no fault
abbrev pub ReadsWell : Scene → Scene → Type 0
ReadsWell old new = new.read_faults.count ≡ old.read_faults.count

-- nothing was written
pub record WritesNothing (old new : Scene) : Type 0 where
  pub written : new.written ≡ old.written
  pub faults : new.write_faults ≡ old.write_faults

-- exactly these bytes were written
pub record WritesAll (bytes : List ℕ) (old new : Scene) : Type 0 where
  pub written : new.written ≡ then_written old.written bytes
  pub well : WritesWell old new

-- a write failed, which was the last; a prefix of these bytes was written
pub record WritesPart (bytes : List ℕ) (old new : Scene) : Type 0 where
  pub written : WrotePart old.written new.written bytes
  pub failed : new.write_faults ≡ failed_once old.write_faults

-- a prefix of what the command would have written was written, and no write failed
pub record WritesFront (judges : Judging) (wanted : List Wants) (old new : Scene) : Type 0 where
  pub text : List ℕ
  pub ended : EndedIn old.files judges wanted old.starts new.starts (Writes text)
  pub front : WrotePart old.written new.written text
  pub well : WritesWell old new

-- what the command would have written: its text, or the line of its refusal
pub data WouldWrite (judges : Judging) (wanted : List Wants) (old new : Scene) (bytes : List ℕ) : Type 0 where
  its_text : EndedIn old.files judges wanted old.starts new.starts (Writes bytes) → WouldWrite judges wanted old new bytes
  its_line : (fault : Fault) → EndedIn old.files judges wanted old.starts new.starts (RefusedWith fault) → bytes ≡ line_of fault
      → WouldWrite judges wanted old new bytes

-- Each answer of a command that judges so, wants these files, and takes memory while it writes or not.
abbrev pub Answers : {W : Type 0} → Judging → Explaining W → List Wants → Type 0 → Scene → Scene → Outcome W → Type 0
Answers judges explains wanted takes old new out.Done =
    (text : List ℕ) × EndedIn old.files judges wanted old.starts new.starts (Writes text) × ReadsWell old new × WritesAll text old new
Answers judges explains wanted takes old new (out.Refused refusal) =
    RefusesIn old.files judges explains wanted old.starts new.starts refusal × ReadsWell old new × WritesAll (line_of refusal.fault) old new
Answers judges explains wanted takes old new (out.ReadFault number) =
    ReadFailsIn old.files judges wanted old.starts new.starts old.read_faults new.read_faults number × WritesNothing old new
Answers judges explains wanted takes old new out.WriteFault =
    (bytes : List ℕ) × WouldWrite judges wanted old new bytes × ReadsWell old new × WritesPart bytes old new
Answers judges explains wanted takes old new out.Memory =
    RanOutIn old.files judges wanted old.starts new.starts × ReadsWell old new
    × (WritesNothing old new ⊎ (takes × WritesFront judges wanted old new))
