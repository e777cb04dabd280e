-- What holds of all trees: one first fault or none, one slot for each name, and what a tree without a fault is like.
use Rattle.std.specs.Prelude.{◌≡◌, ℕ, ◌⊎◌, List, [], slice_get, Option, Some, None}
use Rattle.std.specs.List.{All}
use Rattle.rb_base.specs.declared.fault.SourceFault.{SourceFault}
use Rattle.rb_syntax.specs.Tree.{Tree}
use Rattle.rb_scope.specs.FirstFault.{IsFirstOf}
use Rattle.rb_scope.specs.Scopes.{Declared, meaning_of}
use Rattle.rb_scope.specs.Sites.{Site, Declares, Uses, Calls, LooksBack, Sizes, Lists, Channels, Bounds, Takes, Quantifies, tree_sites}
use Rattle.rb_scope.specs.Rules.{faults_of}
use Rattle.rb_scope.specs.Slots.{AreSlots}
use Rattle.rb_scope.specs.Resolved.{IsResolved}
use Rattle.rb_scope.specs.InFrames.{Resolved}
use Rattle.rb_scope.specs.Limits.{HasDistinctNames, IsWithinLimits}
use Rattle.rb_scope.specs.declared.slot.Slot.{Slot}

-- A tree has no fault of scopes and limits, or one that is the first.
abbrev pub AreJudged : Type 0
AreJudged = (tree : Tree) → (faults_of tree ≡ []) ⊎ ((fault : SourceFault) × IsFirstOf (faults_of tree) fault)

-- No two faults of a tree are both the first.
abbrev pub HaveOneFirst : Type 0
HaveOneFirst = (tree : Tree) (fault other : SourceFault) → IsFirstOf (faults_of tree) fault → IsFirstOf (faults_of tree) other → fault ≡ other

-- two lists have the same slot for the name of this number, if it has a meaning
abbrev pub AgreeOn : List Slot → List Slot → ℕ → Option Declared → Type 0
AgreeOn slots others id None = Unit {0}
AgreeOn slots others id (Some one) = slice_get slots id ≡ slice_get others id

-- the same of the name that is declared or used at a site
abbrev pub AgreeAt : List Slot → List Slot → Site → Type 0
AgreeAt slots others (Declares earlier one) = AgreeOn slots others one.name.id (Some one)
AgreeAt slots others (Uses want name scopes) = AgreeOn slots others name.id (meaning_of name.text scopes)
AgreeAt slots others (Calls name n scopes) = Unit {0}
AgreeAt slots others (LooksBack place in_test) = Unit {0}
AgreeAt slots others (Sizes size) = Unit {0}
AgreeAt slots others (Lists most before place) = Unit {0}
AgreeAt slots others (Channels size) = Unit {0}
AgreeAt slots others (Bounds bound) = Unit {0}
AgreeAt slots others (Takes most before words place) = Unit {0}
AgreeAt slots others (Quantifies around place) = Unit {0}

-- Two lists of slots of one tree agree at each name of it.
abbrev pub SlotsAreDetermined : Type 0
SlotsAreDetermined =
    (tree : Tree) (slots others : List Slot) → AreSlots tree slots → AreSlots tree others → All (AgreeAt slots others) (tree_sites tree)

-- In a tree that is resolved each name stands for what the meaning finds under it.
abbrev pub ResolvedInFrames : Type 0
ResolvedInFrames = (tree : Tree) (slots : List Slot) → IsResolved tree slots → Resolved tree slots

-- A tree without a fault is within the limits.
abbrev pub AcceptedAreWithinLimits : Type 0
AcceptedAreWithinLimits = (tree : Tree) → faults_of tree ≡ [] → IsWithinLimits tree

-- Its processes, channels and conversations have names of their own.
abbrev pub AcceptedHaveDistinctNames : Type 0
AcceptedHaveDistinctNames = (tree : Tree) → faults_of tree ≡ [] → HasDistinctNames tree
