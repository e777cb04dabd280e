-- Names, and the maps that find them: what a name more changes.
use Rattle.std.proofs.Common.{◌≡◌, ℕ, zero, suc, ◌+◌, ◌<◌, Bool, true, false, cond, ◌||◌, nat_eq, List, [], ◌∷◌, ◌++◌, length, Option, Some, None, map, slice_index_or, refl, ap, ◌∙◌, sym, arith}
use Rattle.std.specs.Borrow.{Bor}
use Rattle.std.specs.declared.cmp.Ordering.{Ordering}
use Rattle.std.specs.Map.{lookup}
use Rattle.std.specs.Ordering.{is_eq, nat_cmp}
use Rattle.std.specs.List.{list_any, position_from}
use Rattle.std.specs.Cmp.Lexicographic.{pointwise, same_text, slice_cmp, texts_ties}
use Rattle.std.specs.BTreeMap.{BTreeMap, get, is_at}
use Rattle.std.proofs.lemmas.List.{map-append}
use Rattle.std.proofs.lemmas.List.Quantifiers.{position-Some}
use Rattle.std.proofs.lemmas.Iterator.Adapters.{position_from-zero}
use Rattle.std.proofs.lemmas.List.Folds.{list_any-append}
use Rattle.std.proofs.Math.Bool.{or-false, or-true}
use Rattle.rb_base.specs.Naming.{first_named}
use Rattle.rb_domino.specs.declared.line.Message.{Message}
use Rattle.rb_domino.specs.Reading.{number_in, FindsNames}

-- the first of two, where it is there
abbrev or_last : Option ℕ → Option ℕ → Option ℕ
or_last (Some n) last = Some n
or_last None last = last

or_last-None : (o : Option ℕ) → or_last o None ≡ o
or_last-None None = refl
or_last-None (Some n) = refl

-- what stands first in a list with one more at its end
position_from-added : {X : Type 0} (p : X → Bool) (i : ℕ) (xs : List X) (x : X)
    → position_from p i (xs ++ x ∷ []) ≡ or_last (position_from p i xs) (cond (p x) (Some (i + length xs)) None)
position_from-added p i [] x = let e : i ≡ i + 0 = omega arith in ap (λ n. cond (p x) (Some n) None) e
position_from-added p i (y ∷ xs) x =
    let e : i + 1 + length xs ≡ i + length (y ∷ xs) = omega arith in
    by (p y)
    (position_from-added p (i + 1) xs x ∙ ap (λ n. or_last (position_from p (i + 1) xs) (cond (p x) (Some n) None)) e)
  where
    by : (b : Bool) → position_from p (i + 1) (xs ++ x ∷ [])
        ≡ or_last (position_from p (i + 1) xs) (cond (p x) (Some (i + length (y ∷ xs))) None)
        → cond b (Some i) (position_from p (i + 1) (xs ++ x ∷ []))
        ≡ or_last (cond b (Some i) (position_from p (i + 1) xs)) (cond (p x) (Some (i + length (y ∷ xs))) None)
    by true h = refl
    by false h = h

-- a name that is new has the next number, and the others keep theirs
pub first_named-added : (names : List (List ℕ)) (new name : List ℕ) → first_named names new ≡ None
    → first_named (names ++ new ∷ []) name ≡ cond (pointwise nat_eq new name) (Some (length names)) (first_named names name)
first_named-added names new name unknown =
    position_from-zero (λ text. pointwise nat_eq text name) (names ++ new ∷ [])
    ∙ position_from-added (λ text. pointwise nat_eq text name) 0 names new
    ∙ ap (λ o. or_last o (cond (pointwise nat_eq new name) (Some (0 + length names)) None))
    (sym (position_from-zero (λ text. pointwise nat_eq text name) names))
    ∙ by (pointwise nat_eq new name) refl
  where
    by : (b : Bool) → pointwise nat_eq new name ≡ b
        → or_last (first_named names name) (cond b (Some (0 + length names)) None) ≡ cond b (Some (length names)) (first_named names name)
    by true same =
        let none : first_named names name ≡ None = ap (first_named names) (sym (same_text new name (sym same))) ∙ unknown in
        let e : 0 + length names ≡ length names = omega arith in
        ap (λ o. or_last o (Some (0 + length names))) none ∙ ap (λ n. Some n) e
    by false other = or_last-None (first_named names name)

-- the order of keys that are names
abbrev pub name_cmp : Bor (List ℕ) → Bor (List ℕ) → Ordering
name_cmp x y = slice_cmp nat_cmp x.now y.now

-- a map that finds the names, with a new name at the next number
pub finds_added : (old new : BTreeMap (Bor (List ℕ)) ℕ) (key : Bor (List ℕ)) (names : List (List ℕ)) (n : ℕ)
    → FindsNames old names → first_named names key.now ≡ None → n ≡ length names
    → ((q : Bor (List ℕ)) → get name_cmp new q ≡ cond (is_at (name_cmp key) q) (Some n) (get name_cmp old q))
    → FindsNames new (names ++ key.now ∷ [])
finds_added old new key names n finds unknown is updates name =
    let q : Bor (List ℕ) = record { ref_ptr = (0, 0); now = name } in
    updates q
    ∙ ap (λ b. cond b (Some n) (number_in old name)) (sym (texts_ties key.now name))
    ∙ ap (λ o. cond (pointwise nat_eq key.now name) (Some n) o) (finds name)
    ∙ ap (λ m. cond (pointwise nat_eq key.now name) (Some m) (first_named names name)) is
    ∙ sym (first_named-added names key.now name unknown)

-- what holds of one more element at a list's end
pub any_still : {X : Type 0} (p : X → Bool) (xs : List X) (x : X) → p x ≡ false → list_any p (xs ++ x ∷ []) ≡ list_any p xs
any_still p xs x none =
    list_any-append p xs (x ∷ []) ∙ ap (λ b. list_any p xs || (b || false)) none ∙ or-false (list_any p xs)

pub any_now : {X : Type 0} (p : X → Bool) (xs : List X) (x : X) → p x ≡ true → list_any p (xs ++ x ∷ []) ≡ true
any_now p xs x here =
    list_any-append p xs (x ∷ []) ∙ ap (λ b. list_any p xs || (b || false)) here ∙ or-true (list_any p xs)

-- the names of messages, with one more
pub names_added : (messages : List Message) (message : Message)
    → map (λ m. m.name) (messages ++ message ∷ []) ≡ map (λ m. m.name) messages ++ message.name ∷ []
names_added messages message = map-append (λ m. m.name) messages (message ∷ [])

-- a mark more that isn't set
pub marks_added : (marks : List Bool) (m : ℕ) → slice_index_or (marks ++ false ∷ []) m false ≡ slice_index_or marks m false
marks_added [] zero = refl
marks_added [] (suc m) = refl
marks_added (mark ∷ marks) zero = refl
marks_added (mark ∷ marks) (suc m) = marks_added marks m

-- a name that is found has a number below theirs
pub named_below : (names : List (List ℕ)) (name : List ℕ) (n : ℕ) → first_named names name ≡ Some n → n < length names
named_below names name n known = (position-Some (λ text. pointwise nat_eq text name) names n [] known).0

-- an empty map finds no name
pub finds_nothing : (numbers : BTreeMap (Bor (List ℕ)) ℕ) (names : List (List ℕ)) → numbers.entries ≡ [] → names ≡ [] → FindsNames numbers names
finds_nothing numbers names empty none name =
    ap (lookup (λ (key : Bor (List ℕ)). is_eq (slice_cmp nat_cmp name key.now))) empty
    ∙ ap (λ (texts : List (List ℕ)). first_named texts name) (sym none)
