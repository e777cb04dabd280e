-- What each name of a tree stands for, by the number of the name.
use Rattle.std.specs.Prelude.{◌≡◌, ℕ, ◌<◌, nat_eq, List, [], ◌∷◌, length, slice_get, Option, Some, None}
use Rattle.std.specs.List.{All, IsDistinct, flat_map}
use Rattle.rb_syntax.specs.Tree.{Tree}
use Rattle.rb_scope.specs.Scopes.{Declared, meaning_of}
use Rattle.rb_scope.specs.Sites.{Site, Declares, Uses, Calls, LooksBack, Sizes, Lists, Channels, Bounds, Takes, Quantifies, tree_sites}
use Rattle.rb_scope.specs.declared.slot.Slot.{Slot}
use Rattle.rb_scope.specs.declared.slot.Slot.TheVariants.{ProgramName}

-- the name of this number stands for what the declaration says
abbrev pub StandsFor : List Slot → ℕ → Option Declared → Type 0
StandsFor slots id None = Unit {0}
StandsFor slots id (Some one) = slice_get slots id ≡ Some one.slot

-- a name that is declared or used has the slot of its meaning
abbrev pub HasItsSlot : List Slot → Site → Type 0
HasItsSlot slots (Declares earlier one) = StandsFor slots one.name.id (Some one)
HasItsSlot slots (Uses want name scopes) = StandsFor slots name.id (meaning_of name.text scopes)
HasItsSlot slots (Calls name n scopes) = Unit {0}
HasItsSlot slots (LooksBack place in_test) = Unit {0}
HasItsSlot slots (Sizes size) = Unit {0}
HasItsSlot slots (Lists most before place) = Unit {0}
HasItsSlot slots (Channels size) = Unit {0}
HasItsSlot slots (Bounds bound) = Unit {0}
HasItsSlot slots (Takes most before words place) = Unit {0}
HasItsSlot slots (Quantifies around place) = Unit {0}

-- There is one slot for each name of a tree, and each is that of the name's meaning.
pub record AreSlots (tree : Tree) (slots : List Slot) : Type 0 where
  pub one_each : length slots ≡ tree.names
  pub program : slice_get slots tree.name.id ≡ Some ProgramName
  pub each : All (HasItsSlot slots) (tree_sites tree)

-- the number of the name that is declared or used at a site
abbrev pub number_at : Site → List ℕ
number_at (Declares earlier one) = one.name.id ∷ []
number_at (Uses want name scopes) = name.id ∷ []
number_at (Calls name n scopes) = []
number_at (LooksBack place in_test) = []
number_at (Sizes size) = []
number_at (Lists most before place) = []
number_at (Channels size) = []
number_at (Bounds bound) = []
number_at (Takes most before words place) = []
number_at (Quantifies around place) = []

-- the numbers of the names of a tree, that of the program first
abbrev pub numbers_in : Tree → List ℕ
numbers_in tree = tree.name.id ∷ flat_map number_at (tree_sites tree)

-- Each name of a tree has a number of its own, which is below the number of names.
pub record HasOwnNumbers (tree : Tree) : Type 0 where
  pub distinct : IsDistinct nat_eq (numbers_in tree)
  pub within : All (λ n. n < tree.names) (numbers_in tree)
