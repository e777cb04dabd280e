-- What is left of so many words, behind one part of an environment after the other.
use Rattle.std.proofs.Common.{◌≡◌, ◌+◌, ◌-◌, ◌<◌, ◌≤◌, ℕ, ℤ, pos, Bool, true, false, List, [], ◌∷◌, ◌++◌, drop, get_or, length, map, reverse, sum_by, cond, nat_le, Some, None, refl, sym, ap, ◌∙◌, arith}
use Rattle.std.specs.List.{flat_map}
use Rattle.std.proofs.lemmas.Bool.Decides.{nat_tests}
use Rattle.std.proofs.lemmas.List.{drop_all, drop_more, get_or_append_left, get_or-append_right, get_or-map, get_or_default, length-map, length-replicate}
use Rattle.std.proofs.lemmas.List.Sums.{sum_by-drop_more, sum_by-cons}
use Rattle.std.proofs.lemmas.List.Sorted.{sum_by-IsPermutation, IsPermutation-reverse}
use Rattle.rb_syntax.specs.declared.statement.Var.{Var}
use Rattle.rb_syntax.specs.declared.expression.Name.{Name}
use Rattle.rb_syntax.specs.Tree.{Identifier}
use Rattle.rb_syntax.specs.Plain.{declaration, identifier}
use Rattle.rb_meaning.specs.Environment.{Stored, Frame, Environment, size_of, zeros, frame_words, frames_words, words, push_call}
use Rattle.rb_meaning.specs.Step.{bound_to}
use Rattle.rb_walk.specs.declared.frames.Slot.{Slot}
use Rattle.rb_walk.specs.Slots.{stored, frame, left_of}

-- words that are there are taken away
left_more : (left w rest : ℕ) → w ≤ left → left_of (left - w) rest ≡ left_of left (w + rest)
left_more left w rest h = grind (arith, nat_tests)

-- there are not so many
left_none : (left w rest : ℕ) → (w ≤ left → ⊥) → None ≡ left_of left (w + rest)
left_none left w rest h = grind (arith, nat_tests)

-- nothing is taken away
left_all : (left : ℕ) → Some left ≡ left_of left 0
left_all left = grind (arith, nat_tests)

-- what is left tells that there are so many
some_left : (left w n : ℕ) (b : Bool) → nat_le w left ≡ b → Some n ≡ cond b (Some (left - w)) None → (w ≤ left) × (n ≡ left - w)
some_left left w n true t e = (grind (arith, nat_tests), cc)
some_left left w n false t e = cc

pub left_some : (left w n : ℕ) → Some n ≡ left_of left w → (w ≤ left) × (n ≡ left - w)
left_some left w n e = some_left left w n (nat_le w left) refl e

-- and nothing is left where there are not
none_left : (left w : ℕ) (b : Bool) → nat_le w left ≡ b → None ≡ cond b (Some (left - w)) None → w ≤ left → ⊥
none_left left w true t e h = cc
none_left left w false t e h = grind (arith, nat_tests)

pub left_not : (left w : ℕ) → None ≡ left_of left w → w ≤ left → ⊥
left_not left w e h = none_left left w (nat_le w left) refl e h

-- a part in memory stands for one of the list
item_at : {A B : Type 0} (g : A → B) (xs : List A) (k : ℕ) (x : A) → k < length xs → x ≡ get_or xs k x → g x ≡ get_or (map g xs) k (g x)
item_at g xs k x here is = ap g is ∙ sym (get_or-map g xs k x (g x) here)

module _ {A B : Type 0} (g : A → B) (f : B → ℕ) (xs : List A) (k left w : ℕ) (x : A) (here : k < length xs)
    (is : x ≡ get_or xs k x) (words : w ≡ f (g x)) where
  -- one part more
  one_part : (n : ℕ) → n ≡ w + sum_by f (drop (k + 1) (map g xs)) → left_of left n ≡ left_of left (sum_by f (drop k (map g xs)))
  one_part n e =
      ap (left_of left)
      (e
      ∙ ap (λ m. m + sum_by f (drop (k + 1) (map g xs))) (words ∙ ap f (item_at g xs k x here is))
      ∙ sym (sum_by-drop_more f (map g xs) k (g x) (omega (arith, length-map xs g))))

  -- its words are taken away
  pub part_more : (n : ℕ) → (w ≤ left) × (n ≡ left - w) → left_of n (sum_by f (drop (k + 1) (map g xs))) ≡ left_of left (sum_by f (drop k (map g xs)))
  part_more n h =
      let rest : ℕ = sum_by f (drop (k + 1) (map g xs)) in
      ap (λ m. left_of m rest) h.1 ∙ left_more left w rest h.0 ∙ one_part (w + rest) refl

  -- it has too many
  pub part_none : (w ≤ left → ⊥) → None ≡ left_of left (sum_by f (drop k (map g xs)))
  part_none h = left_none left w (sum_by f (drop (k + 1) (map g xs))) h ∙ one_part (w + sum_by f (drop (k + 1) (map g xs))) refl

-- no part is left
pub parts_all : {A : Type 0} (f : A → ℕ) (xs : List A) (k left : ℕ) → length xs ≤ k → Some left ≡ left_of left (sum_by f (drop k xs))
parts_all f xs k left h = left_all left ∙ ap (λ ys. left_of left (sum_by f ys)) (sym (drop_all k xs h))

-- the order of the parts does not matter
pub sum_by-reverse : {A : Type 0} (f : A → ℕ) (xs : List A) → sum_by f (reverse xs) ≡ sum_by f xs
sum_by-reverse f xs = sum_by-IsPermutation f xs (reverse xs) (IsPermutation-reverse xs)

-- a declaration in memory stands for one of the list
pub declared_at : (vs : List Var) (k : ℕ) (d : Var) → k < length vs
    → declaration (get_or vs k d) ≡ get_or (map declaration vs) k (declaration (get_or vs k d))
declared_at vs k d here = item_at declaration vs k (get_or vs k d) here (get_or_default vs k d (get_or vs k d) here)

-- and has as many words as its size
pub declared_words : (variable : Var) (n : ℕ) → n ≡ size_of variable.size → n ≡ length (zeros (declaration variable)).values
declared_words variable n e = e ∙ sym (length-replicate (size_of variable.size) (pos 0))

-- one variable more in front of a frame
frame_words-cons : (s : Stored) (f : Frame) → frame_words (s ∷ f) ≡ length s.values + frame_words f
frame_words-cons s f = sum_by-cons (λ (one : Stored). length one.values) s f

-- a parameter has one word
bound_words-each : (xs : List Identifier) (vs : List ℤ) (f : Frame) → frame_words (bound_to xs vs ++ f) ≡ length xs + frame_words f
bound_words-each [] vs f = grind arith
bound_words-each (x ∷ xs) [] f =
    frame_words-cons (record { name = x.text; values = pos 0 ∷ [] }) (bound_to xs [] ++ f)
    ∙ ap (λ n. 1 + n) (bound_words-each xs [] f)
    ∙ grind arith
bound_words-each (x ∷ xs) (v ∷ vs) f =
    frame_words-cons (record { name = x.text; values = v ∷ [] }) (bound_to xs vs ++ f)
    ∙ ap (λ n. 1 + n) (bound_words-each xs vs f)
    ∙ grind arith

-- the words of the frame of a call, whatever the values
bound_words : (ps : List Name) (vs : List ℤ) (f : Frame) → frame_words (bound_to (map identifier ps) vs ++ f) ≡ length ps + frame_words f
bound_words ps vs f = bound_words-each (map identifier ps) vs f ∙ ap (λ n. n + frame_words f) (length-map ps identifier)

-- a call adds the words of its frame
pushed_words : (f : Frame) (env : Environment) → words (push_call f env) ≡ words env + frame_words f
pushed_words f env =
    let call : sum_by frames_words ((f ∷ []) ∷ env.calls) ≡ frames_words (f ∷ []) + sum_by frames_words env.calls =
    sum_by-cons frames_words (f ∷ []) env.calls in
    omega (arith, call)

-- a call adds a word for each parameter, and the words of its block
pub call_words : (ps : List Name) (vs : List ℤ) (f : Frame) (env : Environment)
    → words (push_call (bound_to (map identifier ps) vs ++ f) env) ≡ words env + (length ps + frame_words f)
call_words ps vs f env = pushed_words (bound_to (map identifier ps) vs ++ f) env ∙ ap (λ n. words env + n) (bound_words ps vs f)

-- the numbers of the variables that are left are those of the next one and those of the others
next_numbers : (slots : List Slot) (k : ℕ) (slot : Slot) → k < length slots → slot ≡ get_or slots k slot
    → flat_map (λ stored. stored.values) (drop k (frame slots)) ≡ slot.values.items ++ flat_map (λ stored. stored.values) (drop (k + 1) (frame slots))
next_numbers slots k slot here is =
    ap (flat_map (λ (s : Stored). s.values))
    (drop_more (frame slots) k (stored slot) (omega (arith, length-map slots stored))
    ∙ ap (λ s. s ∷ drop (k + 1) (frame slots)) (sym (item_at stored slots k slot here is)))

-- a number of the next variable
pub number_here : (slots : List Slot) (k i : ℕ) (slot : Slot) (v : ℤ) → k < length slots → slot ≡ get_or slots k slot → i < length slot.values.items
    → v ≡ get_or slot.values.items i (pos 0) → v ≡ get_or (flat_map (λ stored. stored.values) (drop k (frame slots))) i (pos 0)
number_here slots k i slot v here is within e =
    e
    ∙ sym (get_or_append_left slot.values.items (flat_map (λ (s : Stored). s.values) (drop (k + 1) (frame slots))) (pos 0) i within)
    ∙ ap (λ ns. get_or ns i (pos 0)) (sym (next_numbers slots k slot here is))

-- a number of the others
pub number_later : (slots : List Slot) (k i w : ℕ) (slot : Slot) → k < length slots → slot ≡ get_or slots k slot
    → length slot.values.items ≡ w → w ≤ i
    → get_or (flat_map (λ stored. stored.values) (drop (k + 1) (frame slots))) (i - w) (pos 0)
    ≡ get_or (flat_map (λ stored. stored.values) (drop k (frame slots))) i (pos 0)
number_later slots k i w slot here is many beyond =
    sym (get_or-append_right slot.values.items (flat_map (λ (s : Stored). s.values) (drop (k + 1) (frame slots))) w i (pos 0) many beyond)
    ∙ ap (λ ns. get_or ns i (pos 0)) (sym (next_numbers slots k slot here is))

-- no variable is left
pub number_beyond : (slots : List Slot) (k i : ℕ) → length slots ≤ k
    → pos 0 ≡ get_or (flat_map (λ stored. stored.values) (drop k (frame slots))) i (pos 0)
number_beyond slots k i h =
    ap (λ (fs : Frame). get_or (flat_map (λ (s : Stored). s.values) fs) i (pos 0))
    (sym (drop_all k (frame slots) (omega (arith, length-map slots stored))))
