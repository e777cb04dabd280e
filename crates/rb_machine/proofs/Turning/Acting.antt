-- What stands first in a process decides: what the machine asks it, and where each answer leads in the world.
use Rattle.std.proofs.Common.{◌≡◌, ℕ, ◌<◌, Bool, cond, List, length, get_or, Some, slice_get, refl, ap, sym, ◌∙◌, subst}
use Rattle.std.proofs.lemmas.Option.{slice_get_read}
use Rattle.rb_base.specs.declared.event.Event.{Event}
use Rattle.rb_world.specs.Turn.{Moved}
use Rattle.rb_world.specs.World.{ProcessStatus}
use Rattle.rb_world.proofs.ListFacts.{some_same}
use Rattle.rb_code.specs.Instructions.Plain.{Code}
use Rattle.rb_code.specs.WordMachine.Turn.{Common, Copy, Standing, want}
use Rattle.rb_proc.specs.Process.{Seen, wanted_by, wanted_now, wanted_of}
use Rattle.rb_proc.specs.declared.answers.Wanted.{Wanted}
use Rattle.rb_proc.specs.declared.answers.Wanted.TheVariants as wanted
use Rattle.rb_machine.specs.AtWork.{MayActNow}
use Rattle.rb_machine.specs.Moves.{HasMoved}
use Rattle.rb_machine.specs.declared.came.Came.{Came}
use Rattle.rb_recovery.specs.declared.parts.Parts.{Parts}

-- a process that may act wants what stands first in it
pub wanted_here : (c : Code) (one : Seen) → MayActNow one → wanted_of c one.process ≡ wanted_by (want c one.process.state)
wanted_here c one may =
    ap (λ (s : ProcessStatus). wanted_now c s one.process.at_line one.process.state) may.running
    ∙ ap (λ (b : Bool). cond b wanted.Line (wanted_by (want c one.process.state))) may.away

-- so the answer tells it
pub answered : (c : Code) (procs : List Seen) (p : ℕ) (read one : Seen) (answer : Wanted) → p < length procs → read ≡ get_or procs p read
    → slice_get procs p ≡ Some one → MayActNow one → answer ≡ wanted_of c read.process → wanted_by (want c one.process.state) ≡ answer
answered c procs p read one answer within is there may answers =
    let same : read ≡ one = some_same (sym (slice_get_read procs (length procs) p read refl within is) ∙ there) in
    sym (answers ∙ (ap (λ (x : Seen). wanted_of c x.process) same ∙ wanted_here c one may))

-- a move that is the same as another has come to the same
pub moved_as : {L : Type 0} {parts : Parts L} {events : List Event} {came : Came} {one other : Moved Standing Copy Common} → one ≡ other
    → HasMoved parts events came one → HasMoved parts events came other
moved_as {L} {parts} {events} {came} e h = subst (HasMoved parts events came) e h
