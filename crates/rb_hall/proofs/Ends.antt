-- How a command ends once it writes: from one way to judge its texts, and to know of their faults, to another.
use Rattle.std.proofs.Common.{ℕ, List, Option, Result, Ok, Err, inl, inr}
use Rattle.rb_outside.specs.Outside.{Faults}
use Rattle.rb_outside.specs.Puts.{Puts}
use Rattle.rb_hall.specs.declared.fault.Fault.{Fault}
use Rattle.rb_hall.specs.declared.command.Unwritten.{Unwritten}
use Rattle.rb_hall.specs.declared.command.Unwritten.TheVariants as unwritten
use Rattle.rb_hall.specs.Judgement.{Judgement, RefusedWith, Writes}
use Rattle.rb_hall.specs.Ends.{WriteEnds}

-- what one judges the other does, what is known by the one is by the other, and who may take memory still may
pub ends_as : {W : Type 0} (judged meant : Judgement → Type 0) (known told : Fault → W → Type 0) (takes may_take : Type 0)
    (old new : Option (List ℕ)) (before after : Faults) (result : Result (Unit {0}) (Unwritten W))
    → ((judgement : Judgement) → judged judgement → meant judgement) → ((fault : Fault) (why : W) → known fault why → told fault why)
    → (takes → may_take) → WriteEnds judged known takes old new before after result → WriteEnds meant told may_take old new before after result
ends_as judged meant known told takes may_take old new before after (Ok done) judges knows may (text, is, written, quiet) =
    (text, judges (Writes text) is, written, quiet)
ends_as judged meant known told takes may_take old new before after (Err (unwritten.Refused fault why)) judges knows may (is, knowing, written, same) =
    (judges (RefusedWith fault) is, knows fault why knowing, written, same)
ends_as judged meant known told takes may_take old new before after (Err unwritten.Fault) judges knows may (text, is, part, failed) =
    (text, judges (Writes text) is, part, failed)
ends_as judged meant known told takes may_take old new before after (Err unwritten.Memory) judges knows may (inl same) = inl same
ends_as judged meant known told takes may_take old new before after (Err unwritten.Memory) judges knows may (inr (takes_memory, (text, is, part, quiet))) =
    inr (may takes_memory, (text, judges (Writes text) is, part, quiet))

-- the text was put, all of it
pub put_whole : {W T E : Type 0} (judged : Judgement → Type 0) (known : Fault → W → Type 0) (takes : Type 0) (text : List ℕ)
    (old new : Option (List ℕ)) (before after : Faults) (v : T) (done : Unit {0}) → judged (Writes text)
    → Puts {T = T} {E = E} text old new before after (Ok v) → WriteEnds judged known takes old new before after (Ok done)
put_whole judged known takes text old new before after v done is puts = (text, is, puts.ok, puts.quiet)

-- a put of it failed
pub put_failed : {W T E : Type 0} (judged : Judgement → Type 0) (known : Fault → W → Type 0) (takes : Type 0) (text : List ℕ)
    (old new : Option (List ℕ)) (before after : Faults) (e : E) → judged (Writes text)
    → Puts {T = T} {E = E} text old new before after (Err e) → WriteEnds judged known takes old new before after (Err unwritten.Fault)
put_failed judged known takes text old new before after e is puts = (text, is, puts.err, puts.failed)
