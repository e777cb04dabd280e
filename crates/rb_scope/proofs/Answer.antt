-- What is found behind all sites of a tree is its answer: its slots, or its first fault.
use Rattle.std.proofs.Common.{◌≡◌, ℕ, zero, suc, ◌<◌, nat_eq, false, List, [], ◌∷◌, replicate, Some, None, refl, sym, ap, subst, ◌∙◌, arith}
use Rattle.std.specs.List.{All, AllByRecursion, IsDistinct, flat_map, slice_get}
use Rattle.std.proofs.lemmas.Bool.Decides.{nat_tests}
use Rattle.std.proofs.lemmas.List.{length-replicate}
use Rattle.std.proofs.lemmas.Map.Keys.{IsDistinct-head, IsDistinct-tail}
use Rattle.rb_base.specs.declared.fault.SourceFault.{SourceFault}
use Rattle.rb_syntax.specs.Tree.{Tree}
use Rattle.rb_scope.specs.FirstFault.{IsFirstOf}
use Rattle.rb_scope.specs.Sites.{tree_sites}
use Rattle.rb_scope.specs.Rules.{faults_of}
use Rattle.rb_scope.specs.Slots.{AreSlots, HasOwnNumbers, number_at, numbers_in}
use Rattle.rb_scope.specs.Resolved.{IsResolved}
use Rattle.rb_scope.specs.Finding.{Found, visited, nothing_found}
use Rattle.rb_scope.specs.declared.slot.Slot.{Slot}
use Rattle.rb_scope.specs.declared.slot.Slot.TheVariants.{ProgramName}
use Rattle.rb_scope.proofs.Order.{first_kept, nothing_kept}
use Rattle.rb_scope.proofs.Given.{IsApart, AreApart, AreBelow, have_slots, kept_slot, slot_at, visited_first, visited_length}

-- numbers that differ
apart-of : (n : ℕ) (ns : List ℕ) → AllByRecursion (λ m. nat_eq n m ≡ false) ns → IsApart n ns
apart-of n [] a = tt
apart-of n (m ∷ ns) (e, a) = (λ p. grind (arith, nat_tests), apart-of n ns a)

all-apart : (ns : List ℕ) → IsDistinct nat_eq ns → AreApart ns
all-apart [] d = tt
all-apart (n ∷ ns) d = (apart-of n ns (IsDistinct-head nat_eq n ns d), all-apart ns (IsDistinct-tail nat_eq n ns d))

all-below : (most : ℕ) (ns : List ℕ) → All (λ n. n < most) ns → AreBelow most ns
all-below most [] a = tt
all-below most (n ∷ ns) a = (a 0 n (omega arith), all-below most ns (λ k d h. a (suc k) d (omega arith)))

-- the first slots, all that of the program
first-slot : (count n : ℕ) (slot : Slot) → n < count → slice_get (replicate count slot) n ≡ Some slot
first-slot zero n slot h = absurd (omega arith)
first-slot (suc count) zero slot h = refl
first-slot (suc count) (suc n) slot h = first-slot count n slot (omega arith)

-- the slots behind all sites
pub slots_found : (tree : Tree) → HasOwnNumbers tree → AreSlots tree (visited (nothing_found tree.names) (tree_sites tree)).slots
slots_found tree own =
    let sites = tree_sites tree in
    let count = length-replicate tree.names ProgramName in
    let apart = all-apart (numbers_in tree) own.distinct in
    let below = all-below tree.names (numbers_in tree) own.within in
    let have = have_slots (nothing_found tree.names) sites apart.1 (subst (λ n. AreBelow n (flat_map number_at sites)) (sym count) below.1) in
    record {
      one_each = visited_length (nothing_found tree.names) sites ∙ count;
      program = kept_slot (nothing_found tree.names) tree.name.id sites apart.0 ∙ first-slot tree.names tree.name.id ProgramName below.0;
      each = λ k d h. slot_at (visited (nothing_found tree.names) sites).slots sites k d have h;
    }

-- no fault was found
pub found_none : (tree : Tree) (found : Found) (slots : List Slot) → HasOwnNumbers tree
    → found ≡ visited (nothing_found tree.names) (tree_sites tree) → found.first ≡ None → slots ≡ found.slots
    → IsResolved tree slots
found_none tree found slots own e n s =
    let first = sym (visited_first (nothing_found tree.names) (tree_sites tree)) ∙ ap (λ (f : Found). f.first) (sym e) ∙ n in
    record {
      no_fault = nothing_kept (faults_of tree) first;
      slots_of = subst (AreSlots tree) (sym (s ∙ ap (λ (f : Found). f.slots) e)) (slots_found tree own);
    }

-- a fault was found
pub found_first : (tree : Tree) (found : Found) (fault : SourceFault)
    → found ≡ visited (nothing_found tree.names) (tree_sites tree) → found.first ≡ Some fault → IsFirstOf (faults_of tree) fault
found_first tree found fault e f =
    first_kept fault (faults_of tree) (sym (visited_first (nothing_found tree.names) (tree_sites tree)) ∙ ap (λ (g : Found). g.first) (sym e) ∙ f)
