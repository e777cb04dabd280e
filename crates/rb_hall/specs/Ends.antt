-- How a command ends once it has judged all its texts, and writes.
use Rattle.std.specs.Prelude.{◌≡◌, ◌⊎◌, ℕ, ◌<◌, ◌≤◌, List, [], ◌∷◌, ◌++◌, length, slice_get, Option, Some, None, Result, Ok, Err}
use Rattle.rb_outside.specs.Outside.{Faults, WrotePart, failed_once, then_written}
use Rattle.rb_hall.specs.declared.command.Stop.{Stop}
use Rattle.rb_hall.specs.declared.command.Stop.TheVariants as stop
use Rattle.rb_hall.specs.declared.command.Unwritten.{Unwritten}
use Rattle.rb_hall.specs.declared.command.Unwritten.TheVariants as unwritten
use Rattle.rb_hall.specs.declared.driver.Unjudged.{Unjudged}
use Rattle.rb_hall.specs.declared.driver.Unjudged.TheVariants as unjudged
use Rattle.rb_hall.specs.declared.fault.Fault.{Fault}
use Rattle.rb_hall.specs.declared.command.Wanted.{Wanted}
use Rattle.rb_hall.specs.declared.fault.Fault.TheVariants as reason
use Rattle.rb_hall.specs.Judgement.{Explained, Explaining, Judgement, Judging, ReadsOn, RefusedWith, Writes, Wants, line_of}
use Rattle.rb_hall.specs.declared.outcome.Refusal.{Refusal}
use Rattle.rb_hall.specs.declared.outcome.Outcome.{Outcome}
use Rattle.rb_hall.specs.declared.outcome.Outcome.TheVariants as out

-- a file, as contracts see it
abbrev pub wanted_of : Wanted → Wants
wanted_of file = record { name = file.name.now; most = file.most }

-- After these texts so much is held of them; and while files are left, the command reads on.
abbrev pub HoldsOn : {H : Type 0} → Judging → List Wants → (List (List ℕ) → H → Type 0) → List (List ℕ) → H → Type 0
HoldsOn judges wanted holds texts held = holds texts held × (length texts < length wanted → judges texts ReadsOn)

-- This may be the next text of a command with these files: it is no longer than its file may be, and so much is held of the texts before it.
-- (A command without files is never given a text, so nothing is said of one.)
abbrev pub MayTake : {H : Type 0} → List Wants → (List (List ℕ) → H → Type 0) → H → List ℕ → Type 0
MayTake [] holds held text = Unit {0}
MayTake (first ∷ more) holds held text =
    (texts : List (List ℕ)) × (file : Wants) × (slice_get (first ∷ more) (length texts) ≡ Some file) × (length text ≤ file.most) × holds texts held

-- the last of these texts is refused for this fault, of which this is known
abbrev pub Refuses : {W : Type 0} → Judging → Explaining W → List (List ℕ) → Fault → W → Type 0
Refuses judges explains texts fault why = judges texts (RefusedWith fault) × explains texts fault why

-- where a text was refused, this is so of its fault and of what is known of it
abbrev pub IfRefused : {T W : Type 0} → Result T (Stop W) → (Fault → W → Type 0) → Type 0
IfRefused (Ok held) so = Unit {0}
IfRefused (Err (stop.Refused fault why)) so = so fault why
IfRefused (Err stop.Memory) so = Unit {0}

-- All of the text was written; or the last text was refused, with nothing written; or a prefix was written, and then one call failed, after
-- which none followed; or memory was wanting, before anything was written, or, of a command that takes memory while it writes, behind a prefix.
abbrev pub WriteEnds : {W : Type 0} → (Judgement → Type 0) → (Fault → W → Type 0) → Type 0 → Option (List ℕ) → Option (List ℕ) → Faults → Faults
    → Result (Unit {0}) (Unwritten W) → Type 0
WriteEnds judged explained takes old new before after (Ok done) =
    (text : List ℕ) × judged (Writes text) × (new ≡ then_written old text) × (after.count ≡ before.count)
WriteEnds judged explained takes old new before after (Err (unwritten.Refused fault why)) =
    judged (RefusedWith fault) × explained fault why × (new ≡ old) × (after ≡ before)
WriteEnds judged explained takes old new before after (Err unwritten.Fault) =
    (text : List ℕ) × judged (Writes text) × WrotePart old new text × (after ≡ failed_once before)
WriteEnds judged explained takes old new before after (Err unwritten.Memory) =
    ((new ≡ old) × (after ≡ before))
    ⊎ (takes × ((text : List ℕ) × judged (Writes text) × WrotePart old new text × (after.count ≡ before.count)))

-- A text was judged by what was read of it: where that is above its limit, it is too long; else it is taken, or refused.
abbrev pub JudgesText : {H W : Type 0} → Judging → Explaining W → List Wants → (List (List ℕ) → H → Type 0) → H → ℕ → List ℕ
    → Result H (Unjudged W) → Type 0
JudgesText judges explains wanted holds held most bytes (Ok next) =
    (length bytes ≤ most) × ((texts : List (List ℕ)) → holds texts held → HoldsOn judges wanted holds (texts ++ bytes ∷ []) next)
JudgesText judges explains wanted holds held most bytes (Err (unjudged.Refused fault why)) =
    ((most < length bytes) × (fault ≡ reason.Long) × (why ≡ None))
    ⊎ ((length bytes ≤ most) × ((texts : List (List ℕ)) → holds texts held
    → judges (texts ++ bytes ∷ []) (RefusedWith fault) × Explained explains (texts ++ bytes ∷ []) fault why))
JudgesText judges explains wanted holds held most bytes (Err unjudged.Memory) = Unit {0}

-- The line of a refusal was written whole, and the call ends so; or a prefix of it was.
abbrev pub IsRefused : {W : Type 0} → Refusal W → Option (List ℕ) → Option (List ℕ) → Faults → Faults → Outcome W → Type 0
IsRefused refusal old new before after (out.Refused told) =
    (told ≡ refusal) × (new ≡ then_written old (line_of refusal.fault)) × (after.count ≡ before.count)
IsRefused refusal old new before after out.WriteFault = WrotePart old new (line_of refusal.fault) × (after ≡ failed_once before)
IsRefused refusal old new before after out.Done = ⊥
IsRefused refusal old new before after (out.ReadFault number) = ⊥
IsRefused refusal old new before after out.Memory = ⊥

-- How a call ends after a command wrote: with its text, after a failed write, or for want of memory, with nothing more written; or refused for a
-- fault of the last text, of which this is the number and so much was read, with the line of the refusal.
abbrev pub EndsAfter : {W : Type 0} → Result (Unit {0}) (Unwritten W) → ℕ → List ℕ → Option (List ℕ) → Option (List ℕ) → Faults → Faults
    → Outcome W → Type 0
EndsAfter (Ok done) number text old new before after outcome = (outcome ≡ out.Done) × (new ≡ old) × (after ≡ before)
EndsAfter (Err unwritten.Fault) number text old new before after outcome = (outcome ≡ out.WriteFault) × (new ≡ old) × (after ≡ before)
EndsAfter (Err unwritten.Memory) number text old new before after outcome = (outcome ≡ out.Memory) × (new ≡ old) × (after ≡ before)
EndsAfter {W = W} (Err (unwritten.Refused fault why)) number text old new before after outcome =
    (refusal : Refusal W) × (refusal.fault ≡ fault) × (refusal.number ≡ number) × (refusal.text.now ≡ text) × (refusal.why ≡ Some why)
    × IsRefused refusal old new before after outcome
