-- What callers see of an open level.
use Rattle.std.specs.Prelude.{◌≡◌, ◌≤◌, ℕ, List, length, drop, Option, Some, None}
use Rattle.rb_world.specs.Kind.{Facts}
use Rattle.rb_world.specs.World.{Level}
use Rattle.rb_code.specs.Instructions.Plain.{Code}
use Rattle.rb_code.specs.WordMachine.Turn.{Copy}
use Rattle.rb_code.specs.WordMachine.Workspace.{OpenCall}
use Rattle.rb_code.specs.WordMachine.WordKind.{cursor_in}
use Rattle.rb_recoverable.specs.declared.level_view.CopyView.{CopyView}
use Rattle.rb_recoverable.specs.declared.level_view.LevelView.{LevelView}

abbrev pub facts_seen : LevelView → Facts
facts_seen view = record {
  number = view.block;
  line = view.line;
  conversation = view.conversation;
  bound = view.bound;
  alternates = view.alternates;
}

-- a level is there, and its facts, its alternate and the turns that it used are these
abbrev pub IsViewOf : Option (Level Copy) → LevelView → Type 0
IsViewOf None view = ⊥
IsViewOf (Some level) view = (facts_seen view ≡ level.facts) × (view.alternate ≡ level.alternate) × (view.used ≡ level.used)

-- a level is there, and this is the cursor of a channel in its copy
abbrev pub CursorThen : Code → ℕ → ℕ → Option (Level Copy) → ℕ → Type 0
CursorThen c p channel None n = ⊥
CursorThen c p channel (Some level) n = n ≡ cursor_in c p level.copy.words channel

-- a level is there, and it was entered in this turn, the last kept one of its copy
abbrev pub IsEntryOf : Option (Level Copy) → ℕ → Type 0
IsEntryOf None turn = ⊥
IsEntryOf (Some level) turn = turn ≡ level.copy.last_kept

-- Of the copy of a level this is the address and how many words it has; its calls are those that are open now, without the newest.
pub record IsCopy (copy : Copy) (calls : List OpenCall) (view : CopyView) : Type 0 where
  pub at : view.at ≡ copy.at
  pub height : view.height ≡ length copy.words
  pub newer : view.newer_calls ≤ length calls
  pub calls_then : copy.calls ≡ drop view.newer_calls calls

-- a level is there, and so is its copy
abbrev pub IsCopyOf : Option (Level Copy) → List OpenCall → CopyView → Type 0
IsCopyOf None calls view = ⊥
IsCopyOf (Some level) calls view = IsCopy level.copy calls view
