-- The slots of names have small numbers where the declarations in the scopes around have.
use Rattle.std.proofs.Common.{◌≡◌, ℕ, ◌+◌, ◌*◌, ◌≤◌, ◌^◌, Bool, true, false, cond, List, [], ◌∷◌, length, Option, Some, None, refl, sym, subst, arith}
use Rattle.std.specs.List.{AllByRecursion}
use Rattle.rb_syntax.specs.declared.expression.Number.{Number}
use Rattle.rb_syntax.specs.Tree.{Identifier, ChannelDeclaration, ConversationDeclaration, Declaration, ProcedureDeclaration, ProcessDeclaration, Tree}
use Rattle.rb_world.proofs.ListFacts.{none_some, some_same}
use Rattle.rb_meaning.specs.Environment.{natural, or_else, same_name}
use Rattle.rb_scope.specs.FirstFault.{is_before}
use Rattle.rb_scope.specs.Scopes.{Declared, channels_from, conversations_from, declared_in, elements, in_text_order, is_array_size, meaning_of, parameters_from, procedures_from, process_scope, processes_from, program_scope, take_place, variables_from, words_in, words_of}
use Rattle.rb_scope.specs.Sites.{Uses}
use Rattle.rb_scope.specs.declared.slot.Slot.{Slot}
use Rattle.rb_scope.specs.declared.slot.Slot.TheVariants as slot
use Rattle.rb_scope.specs.declared.want.Want.{Want}
use Rattle.rb_scope.proofs.EachSite.{IsSettled, all_append}
use Rattle.rb_scope.proofs.Uses.{array_words, used}
use Rattle.rb_code.specs.Agreement.Slots.{elements_in, elements_of, elements_or_none, spot_in, spot_of}
use Rattle.rb_image.specs.Ranges.{IsNatural, IsSpot}
use Rattle.rb_sizes.proofs.Weighing.Sizes.{size_some}
use Rattle.rb_sizes.proofs.Weighing.Weights.{declarations_weight}

-- a slot of small numbers
abbrev pub IsFew : Slot → Type 0
IsFew (slot.Global at size) = IsNatural at × IsNatural (elements_or_none size)
IsFew (slot.Local at size) = IsNatural at × IsNatural (elements_or_none size)
IsFew other = Unit {0}

abbrev pub DeclaresFew : Declared → Type 0
DeclaresFew one = IsFew one.slot

abbrev pub AreFew : List (List Declared) → Type 0
AreFew scopes = AllByRecursion (λ (scope : List Declared). AllByRecursion DeclaresFew scope) scopes

declared_few : (x : List ℕ) (scope : List Declared) (one : Declared) → AllByRecursion DeclaresFew scope → declared_in x scope ≡ Some one
    → DeclaresFew one
declared_few x [] one all e = absurd (none_some e)
declared_few x (first ∷ others) one all e = by (same_name first.name.text x) (λ h. declared_few x others one all.1 h) e
  where
    by : (t : Bool) → (declared_in x others ≡ Some one → DeclaresFew one) → cond t (Some first) (declared_in x others) ≡ Some one → DeclaresFew one
    by true rest h = subst DeclaresFew (some_same h) all.0
    by false rest h = rest h

meant_few : (x : List ℕ) (scopes : List (List Declared)) (one : Declared) → AreFew scopes → meaning_of x scopes ≡ Some one → DeclaresFew one
meant_few x [] one all e = absurd (none_some e)
meant_few x (scope ∷ around) one all e =
    by (declared_in x scope) (λ other h. declared_few x scope other all.0 h) (λ h. meant_few x around one all.1 h) e
  where
    by : (o : Option Declared) → ((other : Declared) → o ≡ Some other → DeclaresFew other)
        → (meaning_of x around ≡ Some one → DeclaresFew one) → or_else o (meaning_of x around) ≡ Some one → DeclaresFew one
    by None here rest h = rest h
    by (Some other) here rest h = here one h

by_slot : (s : Slot) → IsFew s → IsSpot (spot_in (Some s)) × IsNatural (elements_in (Some s))
by_slot (slot.Global at size) h = h
by_slot (slot.Local at size) h = h
by_slot _ h = (omega arith, omega arith)

-- a name that is used has one
pub used_few : (slots : List Slot) (want : Want) (name : Identifier) (scopes : List (List Declared))
    → IsSettled slots (Uses want name scopes) → AreFew scopes → IsSpot (spot_of slots name.id) × IsNatural (elements_of slots name.id)
used_few slots want name scopes settled few =
    let meant = used slots want name (meaning_of name.text scopes) settled.0 settled.1 in
    let small = by_slot meant.one.slot (meant_few name.text scopes meant.one few meant.meant) in
    subst (λ (o : Option Slot). IsSpot (spot_in o) × IsNatural (elements_in o)) (sym meant.slot) small

-- variables, of which each takes 1,024 words at most
pub words_few : (size : Option Number) → words_of size ≤ 1024
words_few None = omega arith
words_few (Some number) = by (is_array_size (natural number.value)) refl
  where
    by : (t : Bool) → is_array_size (natural number.value) ≡ t → cond t (natural number.value) 0 ≤ 1024
    by true e = let few = array_words (natural number.value) e in omega arith
    by false e = omega arith

elements_few : (size : Option Number) → IsNatural (elements_or_none (elements size))
elements_few None = omega arith
elements_few (Some number) = let few = words_few (Some number) in omega arith

pub words_in_few : (variables : List Declaration) → words_in variables ≤ 1024 * declarations_weight variables
words_in_few [] = omega arith
words_in_few (one ∷ others) =
    let few = words_few one.size in let some = size_some one.name.text in let rest = words_in_few others in omega arith

module _ (kind : ℕ → Option ℕ → Slot) (few : (a : ℕ) (size : Option ℕ) → IsNatural a → IsNatural (elements_or_none size) → IsFew (kind a size)) where
  pub variables_few : (at : ℕ) (variables : List Declaration) → at + 1024 * declarations_weight variables ≤ 2 ^ 31
      → AllByRecursion DeclaresFew (variables_from kind at variables)
  variables_few at [] room = tt
  variables_few at (one ∷ others) room =
      let words = words_few one.size in
      let some = size_some one.name.text in (
        few at (elements one.size) (omega arith) (elements_few one.size),
        variables_few (at + words_of one.size) others (omega arith),
      )

pub locals_few : (at : ℕ) (variables : List Declaration) → at + 1024 * declarations_weight variables ≤ 2 ^ 31
    → AllByRecursion DeclaresFew (variables_from slot.Local at variables)
locals_few at variables room = variables_few slot.Local (λ a size h k. (h, k)) at variables room

pub globals_few : (variables : List Declaration) → 1024 * declarations_weight variables ≤ 2 ^ 31
    → AllByRecursion DeclaresFew (variables_from slot.Global 0 variables)
globals_few variables room = variables_few slot.Global (λ a size h k. (h, k)) 0 variables (omega arith)

pub parameters_few : (at : ℕ) (names : List Identifier) → at + length names ≤ 2 ^ 31 → AllByRecursion DeclaresFew (parameters_from at names)
parameters_few at [] room = tt
parameters_few at (name ∷ names) room = ((omega arith, omega arith), parameters_few (at + 1) names (omega arith))

-- no other declaration has words
procedures_few : (k : ℕ) (procedures : List ProcedureDeclaration) → AllByRecursion DeclaresFew (procedures_from k procedures)
procedures_few k [] = tt
procedures_few k (one ∷ others) = (tt, procedures_few (k + 1) others)

channels_few : (k : ℕ) (channels : List ChannelDeclaration) → AllByRecursion DeclaresFew (channels_from k channels)
channels_few k [] = tt
channels_few k (one ∷ others) = (tt, channels_few (k + 1) others)

conversations_few : (k : ℕ) (conversations : List ConversationDeclaration) → AllByRecursion DeclaresFew (conversations_from k conversations)
conversations_few k [] = tt
conversations_few k (one ∷ others) = (tt, conversations_few (k + 1) others)

processes_few : (k : ℕ) (processes : List ProcessDeclaration) → AllByRecursion DeclaresFew (processes_from k processes)
processes_few k [] = tt
processes_few k (one ∷ others) = (tt, processes_few (k + 1) others)

placed_few : (one : Declared) (others : List Declared) → DeclaresFew one → AllByRecursion DeclaresFew others
    → AllByRecursion DeclaresFew (take_place one others)
placed_few one [] h all = (h, tt)
placed_few one (other ∷ others) h all = by (is_before one.name.place other.name.place) (placed_few one others h all.1)
  where
    by : (t : Bool) → AllByRecursion DeclaresFew (take_place one others)
        → AllByRecursion DeclaresFew (cond t (one ∷ other ∷ others) (other ∷ take_place one others))
    by true rest = (h, all)
    by false rest = (all.0, rest)

ordered_few : (more others : List Declared) → AllByRecursion DeclaresFew more → AllByRecursion DeclaresFew others
    → AllByRecursion DeclaresFew (in_text_order more others)
ordered_few [] others h all = all
ordered_few (one ∷ more) others h all = ordered_few more (take_place one others) h.1 (placed_few one others h.0 all)

pub program_few : (tree : Tree) → AllByRecursion DeclaresFew (program_scope tree)
program_few tree =
    all_append DeclaresFew (in_text_order (conversations_from 0 tree.conversations) (channels_from 0 tree.channels)) (processes_from 0 tree.processes)
    (ordered_few (conversations_from 0 tree.conversations) (channels_from 0 tree.channels) (conversations_few 0 tree.conversations)
    (channels_few 0 tree.channels))
    (processes_few 0 tree.processes)

pub process_few : (process : ProcessDeclaration) → 1024 * declarations_weight process.variables ≤ 2 ^ 31
    → AllByRecursion DeclaresFew (process_scope process)
process_few process room =
    all_append DeclaresFew (variables_from slot.Global 0 process.variables) (procedures_from 0 process.procedures)
    (globals_few process.variables room) (procedures_few 0 process.procedures)
