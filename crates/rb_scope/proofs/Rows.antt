-- Declarations in a row against the frame that the meaning makes of them: the first of a name is declared in the one exactly where it
-- lies in the other, at the word of its slot.
use Rattle.std.proofs.Common.{◌≡◌, ℕ, pos, ◌+◌, ◌≤◌, Bool, true, false, cond, List, [], ◌∷◌, ◌++◌, length, option_map, replicate, Option, Some, None, refl, sym, ap, subst, ◌∙◌, add-zero, add_assoc, arith}
use Rattle.std.proofs.lemmas.List.{length-replicate}
use Rattle.std.proofs.lemmas.List.Sums.{sum_by-cons}
use Rattle.rb_base.specs.declared.limits.TheConstants.{MOST_ELEMENTS}
use Rattle.rb_syntax.specs.declared.expression.Number.{Number}
use Rattle.rb_syntax.specs.Tree.{Declaration, Identifier}
use Rattle.rb_meaning.specs.Environment.{frame_of, natural, or_else, same_name, size_of}
use Rattle.rb_meaning.specs.Step.{bound_to}
use Rattle.rb_scope.specs.Frames.{Sized, lies_in, moved, shape_of, shape_words}
use Rattle.rb_scope.specs.Scopes.{Declared, declared, declared_in, elements, parameters_from, variables_from, words_in, words_of}
use Rattle.rb_scope.specs.declared.slot.Slot.{Slot}
use Rattle.rb_scope.specs.declared.slot.Slot.TheVariants.{Local}
use Rattle.rb_scope.proofs.Uses.{HasArraySize, HaveArraySizes, array_words, same_words}

-- a scalar has one word; an array has as many as it has elements, which are some and not too many
abbrev pub HasWords : Option ℕ → ℕ → Type 0
HasWords None words = words ≡ 1
HasWords (Some n) words = (n ≡ words) × (1 ≤ words) × (words ≤ MOST_ELEMENTS)

-- A declaration whose slot, of the words of this row, is that of the words that lie there, where the row begins at this word;
-- or no declaration, and no words
abbrev pub LiesThere : (ℕ → Option ℕ → Slot) → ℕ → Option Declared → Option (ℕ × ℕ) → Type 0
LiesThere slot at None None = Unit {0}
LiesThere slot at (Some one) (Some words) = (size : Option ℕ) × (one.slot ≡ slot (at + words.0) size) × HasWords size words.1
LiesThere slot at _ _ = ⊥

has-words : (size : Option Number) → HasArraySize size → HasWords (elements size) (size_of size)
has-words None h = refl
has-words (Some number) h =
    let bounds = array_words (natural number.value) h in
    (same_words (Some number) h, bounds.0, bounds.1)

-- one that is further on in the row
later : (slot : ℕ → Option ℕ → Slot) (at words : ℕ) (one : Option Declared) (lies : Option (ℕ × ℕ))
    → LiesThere slot (at + words) one lies → LiesThere slot at one (option_map (moved words) lies)
later slot at words None None there = tt
later slot at words (Some one) (Some lies) there =
    (there.0, there.1 ∙ ap (λ n. slot n there.0) (add_assoc at words lies.0), there.2)
later slot at words None (Some lies) there = there
later slot at words (Some one) None there = there

-- the first of a row, or one of the others
first_or_later : (slot : ℕ → Option ℕ → Slot) (at words : ℕ) (size : Option ℕ) (name : Identifier) (one : Option Declared)
    (lies : Option (ℕ × ℕ)) (is_first : Bool) → HasWords size words → LiesThere slot (at + words) one lies
    → LiesThere slot at (cond is_first (Some (declared name (slot at size))) one)
    (cond is_first (Some (0, words)) (option_map (moved words) lies))
first_or_later slot at words size name one lies true has there = (size, ap (λ n. slot n size) (sym (add-zero at)), has)
first_or_later slot at words size name one lies false has there = later slot at words one lies there

-- variables
pub variables_lie : (slot : ℕ → Option ℕ → Slot) (x : List ℕ) (at : ℕ) (variables : List Declaration) → HaveArraySizes variables
    → LiesThere slot at (declared_in x (variables_from slot at variables)) (lies_in x (shape_of (frame_of variables)))
variables_lie slot x at [] sized = tt
variables_lie slot x at (one ∷ others) sized =
    let words : ℕ = length (replicate (size_of one.size) (pos 0)) in
    let many : words ≡ size_of one.size = length-replicate (size_of one.size) (pos 0) in
    let same : words_of one.size ≡ words = same_words one.size sized.0 ∙ sym many in
    let Has : ℕ → Type 0 = λ n. HasWords (elements one.size) n in
    let rest = declared_in x (variables_from slot (at + words_of one.size) others) in
    let lies = lies_in x (shape_of (frame_of others)) in
    let Lies : ℕ → Type 0 = λ n. LiesThere slot (at + n) rest lies in
    first_or_later slot at words (elements one.size) one.name rest lies (same_name one.name.text x)
    (subst Has (sym many) (has-words one.size sized.0)) (subst Lies same (variables_lie slot x (at + words_of one.size) others sized.1))

-- the parameters and variables of a call
pub call_lies : (x : List ℕ) (at later : ℕ) (parameters : List Identifier) (variables : List Declaration)
    → at + length parameters ≡ later → HaveArraySizes variables
    → LiesThere Local at (declared_in x (parameters_from at parameters ++ variables_from Local later variables))
    (lies_in x (shape_of (bound_to parameters [] ++ frame_of variables)))
call_lies x at later [] variables e sized =
    let declares = declared_in x (variables_from Local later variables) in
    let Lies : ℕ → Type 0 = λ n. LiesThere Local n declares (lies_in x (shape_of (frame_of variables))) in
    subst Lies (sym e ∙ add-zero at) (variables_lie Local x later variables sized)
call_lies x at later (name ∷ names) variables e sized =
    first_or_later Local at 1 None name (declared_in x (parameters_from (at + 1) names ++ variables_from Local later variables))
    (lies_in x (shape_of (bound_to names [] ++ frame_of variables))) (same_name name.text x) refl
    (call_lies x (at + 1) later names variables (omega arith) sized)

-- how many words they are
pub variables_words : (variables : List Declaration) → HaveArraySizes variables
    → shape_words (shape_of (frame_of variables)) ≡ words_in variables
variables_words [] sized = refl
variables_words (one ∷ others) sized =
    let words : ℕ = length (replicate (size_of one.size) (pos 0)) in
    let many : words ≡ words_of one.size = length-replicate (size_of one.size) (pos 0) ∙ sym (same_words one.size sized.0) in
    let rest = variables_words others sized.1 in
    let first : Sized = record { name = one.name.text; words = words } in
    let all = sum_by-cons (λ (s : Sized). s.words) first (shape_of (frame_of others)) in
    all ∙ ap (λ n. n + shape_words (shape_of (frame_of others))) many ∙ ap (λ n. words_of one.size + n) rest

pub call_words : (parameters : List Identifier) (variables : List Declaration) → HaveArraySizes variables
    → shape_words (shape_of (bound_to parameters [] ++ frame_of variables)) ≡ length parameters + words_in variables
call_words [] variables sized = variables_words variables sized ∙ omega arith
call_words (name ∷ names) variables sized =
    let first : Sized = record { name = name.text; words = 1 } in
    let rest = call_words names variables sized in
    let all = sum_by-cons (λ (s : Sized). s.words) first (shape_of (bound_to names [] ++ frame_of variables)) in
    all ∙ ap (λ k. 1 + k) rest ∙ omega arith

-- what is declared in two rows, one behind the other
pub declared_behind : (x : List ℕ) (first second : List Declared)
    → declared_in x (first ++ second) ≡ or_else (declared_in x first) (declared_in x second)
declared_behind x [] second = refl
declared_behind x (one ∷ others) second =
    behind (same_name one.name.text x) (declared_behind x others second)
  where
    behind : (b : Bool) → declared_in x (others ++ second) ≡ or_else (declared_in x others) (declared_in x second)
        → cond b (Some one) (declared_in x (others ++ second)) ≡ or_else (cond b (Some one) (declared_in x others)) (declared_in x second)
    behind true e = refl
    behind false e = e
