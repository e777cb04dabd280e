-- How far the cursors of a process rise: in a step of sound code each of them by at most one, and while the process settles none. None falls.
use Rattle.std.specs.Prelude.{◌≡◌, ℕ, ◌+◌, ◌≤◌, ℤ, List, Option}
use Rattle.rb_world.specs.Kind.{Membership, Stepped, Trapped, Went, Held}
use Rattle.rb_world.specs.World.{Level, copy_of, last_of}
use Rattle.rb_code.specs.Instructions.Plain.{Code}
use Rattle.rb_code.specs.WordMachine.Workspace.{part_of}
use Rattle.rb_code.specs.SoundCode.Stands.{IsAmong, Serves, SettlesSoundly, StandsSoundly}
use Rattle.rb_code.specs.WordMachine.Turn.{Common, Copy, Standing, settle, step, want}
use Rattle.rb_code.specs.WordMachine.WordKind.{cursor_in}

-- each cursor of process p among its later words is at most one above that among its words
abbrev pub RiseByOne : Code → ℕ → List ℤ → List ℤ → Type 0
RiseByOne c p words later =
    (channel : ℕ) → IsAmong channel (part_of c p).channels → cursor_in c p later channel ≤ cursor_in c p words channel + 1

-- each is no less
abbrev pub NoneFalls : Code → ℕ → List ℤ → List ℤ → Type 0
NoneFalls c p words later =
    (channel : ℕ) → IsAmong channel (part_of c p).channels → cursor_in c p words channel ≤ cursor_in c p later channel

-- and each is the same
abbrev pub StaySame : Code → ℕ → List ℤ → List ℤ → Type 0
StaySame c p words later =
    (channel : ℕ) → IsAmong channel (part_of c p).channels → cursor_in c p later channel ≡ cursor_in c p words channel

-- what a step comes to: cursors rise by at most one where it went on, and none falls; where its acceptance test held no word is another
abbrev pub RiseAfter : Code → Standing → Stepped Standing Common → Type 0
RiseAfter c s (Trapped cause) = Unit {0}
RiseAfter c s (Went later memory) = RiseByOne c s.process s.words later.words × NoneFalls c s.process s.words later.words
RiseAfter c s (Held later) = later.words ≡ s.words

-- A step of a process that stands raises each of its cursors by at most one, and lowers none.
abbrev pub SoundStepsRaise : Type 0
SoundStepsRaise =
    (c : Code) (groups : List Membership) (s : Standing) (levels : List (Level Copy)) (alternate : ℕ) (message : Option ℤ) (memory : Common)
    → StandsSoundly c groups s levels → Serves (want c s) alternate message levels
    → RiseAfter c s (step c alternate (copy_of (last_of levels)) s message memory)

-- Settling raises none.
abbrev pub SoundSettlingKeeps : Type 0
SoundSettlingKeeps = (c : Code) (groups : List Membership) (s : Standing) (levels : List (Level Copy)) → SettlesSoundly c groups s levels
    → StaySame c s.process s.words (settle c (copy_of (last_of levels)) s).words
