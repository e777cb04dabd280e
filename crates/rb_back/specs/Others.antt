-- Which turns leave all other processes as they are: those in which no test line is passed and no conversation is rejected.
use Rattle.std.specs.Prelude.{◌≡◌, ℕ, Bool, true, false, List, slice_get}
use Rattle.std.specs.List.{list_all}
use Rattle.rb_base.specs.declared.event.Event.{Event}
use Rattle.rb_base.specs.declared.event.Event.TheVariants.{Reject, RejectAll, Error, Pass, Done}
use Rattle.rb_world.specs.Kind.{Membership}
use Rattle.rb_code.specs.Instructions.Plain.{Code}
use Rattle.rb_machine.specs.TurnLaws.{OfSoundCode, next_turn, world_after}

-- an event that says nothing of others
abbrev pub keeps_others : Event → Bool
keeps_others (Reject p line a cause) = true
keeps_others (RejectAll c a p cause) = false
keeps_others (Error p cause) = true
keeps_others (Pass c a) = false
keeps_others (Done p) = true

abbrev pub all_keep_others : List Event → Bool
all_keep_others events = list_all keeps_others events

-- a turn of process number p with such events alone changes no other process
abbrev pub LeavesOthers : Code → List Membership → Type 0
LeavesOthers c groups = (turns : List ℕ) (p : ℕ) → all_keep_others (next_turn c groups turns p).1.events ≡ true
    → (r : ℕ) → (r ≡ p → ⊥) → slice_get (next_turn c groups turns p).0.processes r ≡ slice_get (world_after c groups turns).processes r

abbrev pub OthersStay : Type 0
OthersStay = OfSoundCode LeavesOthers
