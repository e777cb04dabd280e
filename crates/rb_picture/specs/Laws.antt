-- The trace of the code of a tree is that of the tree's meaning: what is drawn is what is proved.
use Rattle.std.specs.Prelude.{◌≡◌, ℕ, List, [], ◌∷◌, ◌++◌, length, slice_get, Option, Some, None}
use Rattle.rb_base.specs.declared.place.Place.{Place}
use Rattle.rb_syntax.specs.Numbered.{IsNumbered}
use Rattle.rb_syntax.specs.Tree.{Tree}
use Rattle.rb_world.specs.World.{Process}
use Rattle.rb_meaning.specs.Groups.{groups_of}
use Rattle.rb_meaning.specs.Meaning.{final_of, naming_of, opening_world, run_of}
use Rattle.rb_meaning.specs.Nesting.{IsNested, alternates_of}
use Rattle.rb_meaning.specs.State.{State}
use Rattle.rb_scope.specs.InFrames.{Resolved}
use Rattle.rb_scope.specs.Limits.{IsWithinLimits}
use Rattle.rb_scope.specs.declared.slot.Slot.{Slot}
use Rattle.rb_code.specs.Instructions.Plain.{Code}
use Rattle.rb_code.specs.Agreement.Places.{places_told}
use Rattle.rb_code.specs.Agreement.RoomInTree.{FewOperands}
use Rattle.rb_code.specs.Agreement.StandsFor.{StandsFor}
use Rattle.rb_code.specs.WordMachine.Turn.{Copy, Standing}
use Rattle.rb_code.specs.WordMachine.WordRun.{word_run}
use Rattle.rb_picture.specs.Meant.{before_run, place_meant, tree_head, tree_reading, tree_trace_text}
use Rattle.rb_changes.specs.Shown.{Reading}
use Rattle.rb_picture.specs.Trace.{address_told, place_at, trace_from, trace_text}

-- these numbers of alternates are those of the conversations of a tree
pub record AreCounts (tree : Tree) (counts : List ℕ) : Type 0 where
  pub as_many : length counts ≡ length tree.conversations
  pub each : (d n : ℕ) → slice_get counts d ≡ Some n → alternates_of tree d ≡ Some n

-- A code that stands for an accepted tree: its names are resolved to these slots, it is within the limits and nested, its expressions find
-- room for their operands, and its recovery blocks are numbered.
pub record IsCodeOf (tree : Tree) (slots : List Slot) (c : Code) : Type 0 where
  pub resolved : Resolved tree slots
  pub limits : IsWithinLimits tree
  pub nested : IsNested tree
  pub operands : FewOperands tree
  pub numbered : IsNumbered tree
  pub stands : StandsFor tree slots c

-- before each of these turns the place that the code tells of its process is the place that is meant
abbrev pub TellsPlaces : Tree → Code → List (Option Place) → List ℕ → Type 0
TellsPlaces tree c places turns =
    (before after : List ℕ) (p : ℕ) (q : Process State State) (r : Process Standing Copy) → turns ≡ before ++ p ∷ after
    → slice_get (run_of tree before).0.processes p ≡ Some q → slice_get (word_run c (groups_of tree) before).0.processes p ≡ Some r
    → place_at places (address_told c r.status r) ≡ place_meant q.status q

-- The places that are told of the code of a tree are those that are meant, before each turn of every run.
abbrev pub PlacesAreMeant : Type 0
PlacesAreMeant = (tree : Tree) (slots : List Slot) (c : Code) (turns : List ℕ) → IsCodeOf tree slots c
    → TellsPlaces tree c (places_told tree c.instrs) turns

abbrev pub TraceIsMeantWhere : Type 0
TraceIsMeantWhere = (tree : Tree) (slots : List Slot) (c : Code) (counts : List ℕ) (places : List (Option Place)) (turns : List ℕ)
    → IsCodeOf tree slots c → AreCounts tree counts → TellsPlaces tree c places turns
    → trace_text c (groups_of tree) counts places turns ≡ tree_trace_text tree turns

-- So with these places the trace is that of the meaning, to the last byte.
abbrev pub TraceIsToldAsMeant : Type 0
TraceIsToldAsMeant = (tree : Tree) (slots : List Slot) (c : Code) (counts turns : List ℕ) → IsCodeOf tree slots c → AreCounts tree counts
    → trace_text c (groups_of tree) counts (places_told tree c.instrs) turns ≡ tree_trace_text tree turns

-- a reading that knows no place
abbrev pub unplaced : {S C M : Type 0} → Reading S C M → Reading S C M
unplaced r = record r { place = λ q. None }

-- the trace of a tree with no place in it
abbrev pub unplaced_trace_text : Tree → List ℕ → List ℕ
unplaced_trace_text tree turns =
    trace_from (unplaced (tree_reading tree)) (naming_of tree) (tree_head tree (length turns)) (before_run tree) (final_of tree)
    (opening_world tree) turns

abbrev pub TraceIsMeant : Type 0
TraceIsMeant = (tree : Tree) (slots : List Slot) (c : Code) (counts turns : List ℕ) → IsCodeOf tree slots c → AreCounts tree counts
    → trace_text c (groups_of tree) counts [] turns ≡ unplaced_trace_text tree turns
