-- Processes whose turns change nothing, as long as no other process goes on.
use Rattle.std.specs.Prelude.{◌≡◌, ◌≤◌, ℕ, nat_eq, nat_lt, cond, Bool, true, false, List, [], count_by, length, replicate, slice_get, Option, Some, None}
use Rattle.rb_base.specs.declared.event.TurnKind.{TurnKind}
use Rattle.rb_base.specs.declared.event.TurnKind.TheVariants.{Idle, Wait, Took, Undone}
use Rattle.rb_world.specs.Kind.{Membership}
use Rattle.rb_world.specs.World.{Process}
use Rattle.rb_world.specs.Turn.{turn}
use Rattle.rb_code.specs.Instructions.Plain.{Code}
use Rattle.rb_code.specs.WordMachine.WordKind.{word_kind}
use Rattle.rb_code.specs.WordMachine.WordRun.{WordWorld}
use Rattle.rb_machine.specs.declared.moves.Move.{Move}
use Rattle.rb_machine.specs.declared.moves.Move.TheVariants as did
use Rattle.rb_machine.specs.declared.rests.Rest.{Rest}

-- a turn that was neither taken nor undone
abbrev pub is_still : TurnKind → Bool
is_still Idle = true
is_still Wait = true
is_still Took = false
is_still Undone = false

-- what a process does that waits, or is done
abbrev pub waits_or_rests : Move → Bool
waits_or_rests did.Waits = true
waits_or_rests did.Rests = true
waits_or_rests _ = false

-- a process that has no level, if there is one
abbrev pub IsBare : {S C : Type 0} → Option (Process S C) → Type 0
IsBare None = Unit {0}
IsBare (Some q) = q.levels ≡ []

-- a turn of process p changes nothing and tells nothing, whatever its number is
abbrev pub RestsAs : Code → List Membership → WordWorld → ℕ → TurnKind → Type 0
RestsAs c groups w p kind = (n : ℕ)
    → turn (word_kind c groups) n p w ≡ (w, record { kind = kind; events = []; released = replicate (length w.processes) [] })

-- the kind of a process's next turn, where it was noted that it rests, later than the last turn in which notes were forgotten
abbrev pub kind_noted : ℕ → Option Rest → Option TurnKind
kind_noted changed None = None
kind_noted changed (Some rest) = cond (nat_lt changed rest.since) (Some rest.kind) None

abbrev pub kind_of : List Rest → ℕ → ℕ → Option TurnKind
kind_of rests changed p = kind_noted changed (slice_get rests p)

-- What is noted is so, and was noted in turns that were taken.
pub record AreNoted (c : Code) (groups : List Membership) (w : WordWorld) (rests : List Rest) (changed taken : ℕ) : Type 0 where
  pub rest : (p : ℕ) (kind : TurnKind) → kind_of rests changed p ≡ Some kind → RestsAs c groups w p kind
  pub past : (p : ℕ) (one : Rest) → slice_get rests p ≡ Some one → one.since ≤ taken

-- no process changes, tells or releases anything in any turn
abbrev pub AllRest : Code → List Membership → WordWorld → Type 0
AllRest c groups w = (p : ℕ) → (kind : TurnKind) × RestsAs c groups w p kind

-- whether it was noted later than the last turn in which notes were forgotten
abbrev pub is_noted : ℕ → Rest → Bool
is_noted changed rest = nat_lt changed rest.since

-- Each process has a note, and so many of them are later than the last turn in which notes were forgotten, which was taken.
pub record AreTallied (processes : ℕ) (rests : List Rest) (changed noted taken : ℕ) : Type 0 where
  pub each : length rests ≡ processes
  pub last : changed ≤ taken
  pub count : noted ≡ count_by (is_noted changed) rests

-- one more is noted, where it wasn't yet
abbrev pub one_more : ℕ → Option Rest → ℕ
one_more changed None = 0
one_more changed (Some rest) = cond (is_noted changed rest) 0 1

-- In a turn that changes something the notes are forgotten, if some were made since the last such turn.
abbrev pub changed_after : ℕ → ℕ → ℕ → ℕ
changed_after noted changed turn = cond (nat_eq noted 0) changed turn
