-- What a use of a name is that breaks no rule: the name has a declaration, which fits, and its slot.
use Rattle.std.proofs.Common.{◌≡◌, ℕ, ◌≤◌, true, false, not, cond, ◌&&◌, nat_eq, List, [], Option, Some, None, refl, sym, ap, ◌∙◌}
use Rattle.std.specs.List.{AllByRecursion, flat_map, slice_get}
use Rattle.std.proofs.lemmas.Bool.{not-false, eqb-true, and_parts, leb-true}
use Rattle.rb_base.specs.declared.limits.TheConstants.{MOST_ELEMENTS}
use Rattle.rb_syntax.specs.declared.expression.Number.{Number}
use Rattle.rb_syntax.specs.Tree.{Declaration, Identifier}
use Rattle.rb_meaning.specs.Environment.{natural, size_of}
use Rattle.rb_scope.specs.Scopes.{Declared, is_array_size, words_of}
use Rattle.rb_scope.specs.Sites.{size_sites}
use Rattle.rb_scope.specs.Rules.{fits, is_miscalled, misused}
use Rattle.rb_scope.specs.Slots.{StandsFor}
use Rattle.rb_scope.specs.declared.want.Want.{Want}
use Rattle.rb_scope.specs.declared.want.Want.TheVariants.{AProcedure}
use Rattle.rb_scope.specs.declared.slot.Slot.{Slot}
use Rattle.rb_scope.proofs.EachSite.{AreKept, IsKept, all_parts, unbroken}

-- a name that has a meaning which fits its use, and the slot of it
pub record IsUsed (slots : List Slot) (want : Want) (name : Identifier) (meaning : Option Declared) : Type 0 where
  pub one : Declared
  pub meant : meaning ≡ Some one
  pub fitting : fits want one.slot ≡ true
  pub slot : slice_get slots name.id ≡ Some one.slot

pub used : (slots : List Slot) (want : Want) (name : Identifier) (meaning : Option Declared) → StandsFor slots name.id meaning
    → misused want name meaning ≡ [] → IsUsed slots want name meaning
used slots want name None stands kept = absurd (cc)
used slots want name (Some one) stands kept = record {
  one = one;
  meant = refl;
  fitting = not-false (fits want one.slot) (unbroken (not (fits want one.slot)) _ name.place kept);
  slot = stands;
}

-- a call of a procedure with as many arguments as it has parameters
pub called : (n : ℕ) (meaning : Option Declared) (one : Declared) → meaning ≡ Some one → fits AProcedure one.slot ≡ true
    → is_miscalled n meaning ≡ false → one.parameters ≡ n
called n None one e fitting kept = absurd (cc)
called n (Some other) one e fitting kept =
    let same : other ≡ one = cc in
    let differ = not (nat_eq one.parameters n) in
    let both : fits AProcedure one.slot && differ ≡ false = ap (λ (d : Declared). is_miscalled n (Some d)) (sym same) ∙ kept in
    eqb-true one.parameters n (not-false (nat_eq one.parameters n) (ap (λ b. b && differ) (sym fitting) ∙ both))

-- a variable is a scalar, or an array of a size that arrays may have
abbrev pub HasArraySize : Option Number → Type 0
HasArraySize None = Unit {0}
HasArraySize (Some number) = is_array_size (natural number.value) ≡ true

abbrev pub HaveArraySizes : List Declaration → Type 0
HaveArraySizes variables = AllByRecursion (λ one. HasArraySize one.size) variables

sized : (size : Option Number) → AreKept (size_sites size) → HasArraySize size
sized None kept = tt
sized (Some number) kept =
    let fitting = is_array_size (natural number.value) in not-false fitting (unbroken (not fitting) _ number.place kept.0)

-- where no size is a fault, all variables are so
pub all_sized : (variables : List Declaration) → AreKept (flat_map (λ one. size_sites one.size) variables) → HaveArraySizes variables
all_sized variables kept =
    all_parts IsKept (λ (one : Declaration). size_sites one.size) (λ one. HasArraySize one.size) variables (λ one. sized one.size) kept

-- then it takes as many words as the meaning gives it
pub same_words : (size : Option Number) → HasArraySize size → words_of size ≡ size_of size
same_words None h = refl
same_words (Some number) h = ap (λ b. cond b (natural number.value) 0) h

-- an array has at least one element, and not too many
pub array_words : (n : ℕ) → is_array_size n ≡ true → (1 ≤ n) × (n ≤ MOST_ELEMENTS)
array_words n h =
    let both = and_parts _ _ h in
    (leb-true 1 n both.0, leb-true n MOST_ELEMENTS both.1)
