-- Names that have numbers of their own keep the slots that they are given.
use Rattle.std.proofs.Common.{◌≡◌, ℕ, zero, suc, ◌<◌, List, [], ◌∷◌, ◌++◌, length, get_or, slice_set, Option, Some, None, refl, sym, ap, subst, ◌∙◌, arith}
use Rattle.std.specs.List.{flat_map, slice_get}
use Rattle.std.proofs.Math.ListN.{length-set}
use Rattle.rb_base.specs.declared.fault.SourceFault.{SourceFault}
use Rattle.rb_scope.specs.Scopes.{Declared, meaning_of}
use Rattle.rb_scope.specs.Sites.{Site, Declares, Uses, Calls, LooksBack, Sizes, Lists, Channels, Bounds, Takes, Quantifies}
use Rattle.rb_scope.specs.Rules.{broken_at}
use Rattle.rb_scope.specs.Slots.{HasItsSlot, StandsFor, number_at}
use Rattle.rb_scope.specs.Finding.{Found, visit, visited, first_after, first_with, given, slots_after}
use Rattle.rb_scope.specs.declared.slot.Slot.{Slot}

-- faults that are met, and then others
after-append : (first : Option SourceFault) (xs ys : List SourceFault) → first_after (first_after first xs) ys ≡ first_after first (xs ++ ys)
after-append first [] ys = refl
after-append first (x ∷ xs) ys = after-append (Some (first_with first x)) xs ys

visit-first : (found : Found) (site : Site) → (visit found site).first ≡ first_after found.first (broken_at site)
unfolding visit
visit-first found site = refl

visit-slots : (found : Found) (site : Site) → (visit found site).slots ≡ slots_after found.slots site
unfolding visit
visit-slots found site = refl

-- the first fault behind sites is the first of all that they tell
pub visited_first : (found : Found) (sites : List Site) → (visited found sites).first ≡ first_after found.first (flat_map broken_at sites)
visited_first found [] = refl
visited_first found (site ∷ sites) =
    visited_first (visit found site) sites
    ∙ ap (λ first. first_after first (flat_map broken_at sites)) (visit-first found site)
    ∙ after-append found.first (broken_at site) (flat_map broken_at sites)

-- a number is none of these
abbrev pub IsApart : ℕ → List ℕ → Type 0
IsApart n [] = Unit {0}
IsApart n (m ∷ ms) = (n ≡ m → ⊥) × IsApart n ms

-- a write elsewhere
kept-set : (slots : List Slot) (n m : ℕ) (slot : Slot) → (n ≡ m → ⊥) → slice_get (slice_set slots m slot) n ≡ slice_get slots n
kept-set [] n m slot e = refl
kept-set (s ∷ slots) zero zero slot e = absurd (e refl)
kept-set (s ∷ slots) zero (suc m) slot e = refl
kept-set (s ∷ slots) (suc n) zero slot e = refl
kept-set (s ∷ slots) (suc n) (suc m) slot e = kept-set slots n m slot (λ p. e (ap suc p))

-- a write there
there-set : (slots : List Slot) (n : ℕ) (slot : Slot) → n < length slots → slice_get (slice_set slots n slot) n ≡ Some slot
there-set [] n slot h = absurd (omega arith)
there-set (s ∷ slots) zero slot h = refl
there-set (s ∷ slots) (suc n) slot h = there-set slots n slot (omega arith)

kept-given : (slots : List Slot) (n m : ℕ) (meaning : Option Declared) → (n ≡ m → ⊥) → slice_get (given slots m meaning) n ≡ slice_get slots n
kept-given slots n m None e = refl
kept-given slots n m (Some one) e = kept-set slots n m one.slot e

there-given : (slots : List Slot) (n : ℕ) (meaning : Option Declared) → n < length slots → StandsFor (given slots n meaning) n meaning
there-given slots n None h = tt
there-given slots n (Some one) h = there-set slots n one.slot h

length-given : (slots : List Slot) (n : ℕ) (meaning : Option Declared) → length (given slots n meaning) ≡ length slots
length-given slots n None = refl
length-given slots n (Some one) = length-set slots n one.slot

-- a site gives no slot to a name that is not there
kept-site : (slots : List Slot) (n : ℕ) (site : Site) → IsApart n (number_at site) → slice_get (slots_after slots site) n ≡ slice_get slots n
kept-site slots n (Declares earlier one) a = kept-given slots n one.name.id (Some one) a.0
kept-site slots n (Uses want name scopes) a = kept-given slots n name.id (meaning_of name.text scopes) a.0
kept-site slots n (Calls name k scopes) a = refl
kept-site slots n (LooksBack place in_test) a = refl
kept-site slots n (Sizes size) a = refl
kept-site slots n (Lists most before place) a = refl
kept-site slots n (Channels size) a = refl
kept-site slots n (Bounds bound) a = refl
kept-site slots n (Takes most before words place) a = refl
kept-site slots n (Quantifies around place) a = refl

-- there are as many slots as before
length-site : (slots : List Slot) (site : Site) → length (slots_after slots site) ≡ length slots
length-site slots (Declares earlier one) = length-given slots one.name.id (Some one)
length-site slots (Uses want name scopes) = length-given slots name.id (meaning_of name.text scopes)
length-site slots (Calls name k scopes) = refl
length-site slots (LooksBack place in_test) = refl
length-site slots (Sizes size) = refl
length-site slots (Lists most before place) = refl
length-site slots (Channels size) = refl
length-site slots (Bounds bound) = refl
length-site slots (Takes most before words place) = refl
length-site slots (Quantifies around place) = refl

-- apart from numbers is apart from each part of them
apart-front : (n : ℕ) (xs ys : List ℕ) → IsApart n (xs ++ ys) → IsApart n xs
apart-front n [] ys a = tt
apart-front n (x ∷ xs) ys (e, a) = (e, apart-front n xs ys a)

apart-back : (n : ℕ) (xs ys : List ℕ) → IsApart n (xs ++ ys) → IsApart n ys
apart-back n [] ys a = a
apart-back n (x ∷ xs) ys (e, a) = apart-back n xs ys a

-- a name that is at none of these sites keeps its slot
pub kept_slot : (found : Found) (n : ℕ) (sites : List Site) → IsApart n (flat_map number_at sites)
    → slice_get (visited found sites).slots n ≡ slice_get found.slots n
kept_slot found n [] a = refl
kept_slot found n (site ∷ sites) a =
    kept_slot (visit found site) n sites (apart-back n (number_at site) (flat_map number_at sites) a)
    ∙ ap (λ slots. slice_get slots n) (visit-slots found site)
    ∙ kept-site found.slots n site (apart-front n (number_at site) (flat_map number_at sites) a)

pub visited_length : (found : Found) (sites : List Site) → length (visited found sites).slots ≡ length found.slots
visited_length found [] = refl
visited_length found (site ∷ sites) =
    visited_length (visit found site) sites ∙ ap length (visit-slots found site) ∙ length-site found.slots site

-- each of these numbers is below a bound, and apart from the others
abbrev pub AreApart : List ℕ → Type 0
AreApart [] = Unit {0}
AreApart (n ∷ ns) = IsApart n ns × AreApart ns

abbrev pub AreBelow : ℕ → List ℕ → Type 0
AreBelow most [] = Unit {0}
AreBelow most (n ∷ ns) = (n < most) × AreBelow most ns

apart-rest : (xs ys : List ℕ) → AreApart (xs ++ ys) → AreApart ys
apart-rest [] ys a = a
apart-rest (x ∷ xs) ys (e, a) = apart-rest xs ys a

below-rest : (most : ℕ) (xs ys : List ℕ) → AreBelow most (xs ++ ys) → AreBelow most ys
below-rest most [] ys a = a
below-rest most (x ∷ xs) ys (e, a) = below-rest most xs ys a

-- a slot that is there stays, where the name is at no later site
stands : (found : Found) (n : ℕ) (meaning : Option Declared) (sites : List Site) → StandsFor found.slots n meaning
    → IsApart n (flat_map number_at sites) → StandsFor (visited found sites).slots n meaning
stands found n None sites h a = tt
stands found n (Some one) sites h a = kept_slot found n sites a ∙ h

-- the slot that a name is given at a site stays
gets : (found : Found) (site : Site) (n : ℕ) (meaning : Option Declared) (sites : List Site)
    → slots_after found.slots site ≡ given found.slots n meaning → n < length found.slots → IsApart n (flat_map number_at sites)
    → StandsFor (visited (visit found site) sites).slots n meaning
gets found site n meaning sites e h a =
    stands (visit found site) n meaning sites
    (subst (λ slots. StandsFor slots n meaning) (sym (visit-slots found site ∙ e)) (there-given found.slots n meaning h)) a

has-slot : (found : Found) (site : Site) (sites : List Site) → AreApart (number_at site ++ flat_map number_at sites)
    → AreBelow (length found.slots) (number_at site ++ flat_map number_at sites)
    → HasItsSlot (visited (visit found site) sites).slots site
has-slot found (Declares earlier one) sites a b = gets found (Declares earlier one) one.name.id (Some one) sites refl b.0 a.0
has-slot found (Uses want name scopes) sites a b = gets found (Uses want name scopes) name.id (meaning_of name.text scopes) sites refl b.0 a.0
has-slot found (Calls name k scopes) sites a b = tt
has-slot found (LooksBack place in_test) sites a b = tt
has-slot found (Sizes size) sites a b = tt
has-slot found (Lists most before place) sites a b = tt
has-slot found (Channels size) sites a b = tt
has-slot found (Bounds bound) sites a b = tt
has-slot found (Takes most before words place) sites a b = tt
has-slot found (Quantifies around place) sites a b = tt

-- each site of a list has its slot
abbrev pub HaveSlots : List Slot → List Site → Type 0
HaveSlots slots [] = Unit {0}
HaveSlots slots (site ∷ sites) = HasItsSlot slots site × HaveSlots slots sites

pub have_slots : (found : Found) (sites : List Site) → AreApart (flat_map number_at sites)
    → AreBelow (length found.slots) (flat_map number_at sites) → HaveSlots (visited found sites).slots sites
have_slots found [] a b = tt
have_slots found (site ∷ sites) a b = (
  has-slot found site sites a b,
  have_slots (visit found site) sites (apart-rest (number_at site) (flat_map number_at sites) a)
      (subst (λ n. AreBelow n (flat_map number_at sites)) (sym (ap length (visit-slots found site) ∙ length-site found.slots site))
      (below-rest (length found.slots) (number_at site) (flat_map number_at sites) b)),
)

-- the same by index
pub slot_at : (slots : List Slot) (sites : List Site) (k : ℕ) (d : Site) → HaveSlots slots sites → k < length sites
    → HasItsSlot slots (get_or sites k d)
slot_at slots [] k d h l = absurd (omega arith)
slot_at slots (site ∷ sites) zero d h l = h.0
slot_at slots (site ∷ sites) (suc k) d h l = slot_at slots sites k d h.1 (omega arith)
