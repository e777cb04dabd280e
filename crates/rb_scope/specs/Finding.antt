-- What is found as sites are visited in order: the first fault so far, and the slots of the names so far.
use Rattle.std.specs.Prelude.{ℕ, cond, List, [], ◌∷◌, slice_set, replicate, Option, Some, None}
use Rattle.rb_base.specs.declared.fault.SourceFault.{SourceFault}
use Rattle.rb_scope.specs.FirstFault.{comes_before}
use Rattle.rb_scope.specs.Scopes.{Declared, meaning_of}
use Rattle.rb_scope.specs.Sites.{Site, Declares, Uses, Calls, LooksBack, Sizes, Lists, Channels, Bounds, Takes, Quantifies}
use Rattle.rb_scope.specs.Rules.{broken_at}
use Rattle.rb_scope.specs.declared.slot.Slot.{Slot}
use Rattle.rb_scope.specs.declared.slot.Slot.TheVariants.{ProgramName}

-- the first fault so far, and the slots so far
pub record Found : Type 0 where
  pub first : Option SourceFault
  pub slots : List Slot

-- one more fault, or the first so far, whichever comes first
abbrev pub first_with : Option SourceFault → SourceFault → SourceFault
first_with None fault = fault
first_with (Some first) fault = cond (comes_before fault first) fault first

-- the first fault so far, and then the first with those that are met in turn
abbrev pub first_after : Option SourceFault → List SourceFault → Option SourceFault
first_after first [] = first
first_after first (fault ∷ faults) = first_after (Some (first_with first fault)) faults

-- a name gets the slot of its meaning, if it has one
abbrev pub given : List Slot → ℕ → Option Declared → List Slot
given slots id None = slots
given slots id (Some one) = slice_set slots id one.slot

-- the name at a site gets its slot
abbrev pub slots_after : List Slot → Site → List Slot
slots_after slots (Declares earlier one) = given slots one.name.id (Some one)
slots_after slots (Uses want name scopes) = given slots name.id (meaning_of name.text scopes)
slots_after slots (Calls name n scopes) = slots
slots_after slots (LooksBack place in_test) = slots
slots_after slots (Sizes size) = slots
slots_after slots (Lists most before place) = slots
slots_after slots (Channels size) = slots
slots_after slots (Bounds bound) = slots
slots_after slots (Takes most before words place) = slots
slots_after slots (Quantifies around place) = slots

-- what is found behind one site more
unfoldable pub visit : Found → Site → Found
visit found site = record { first = first_after found.first (broken_at site); slots = slots_after found.slots site }

-- what is found behind sites in turn
abbrev pub visited : Found → List Site → Found
visited found [] = found
visited found (site ∷ sites) = visited (visit found site) sites

-- nothing found yet: each of so many names is taken for that of the program
abbrev pub nothing_found : ℕ → Found
nothing_found names = record { first = None; slots = replicate names ProgramName }
