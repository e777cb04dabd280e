-- A text of parts, one for each of a list, of which some are written.
use Rattle.std.specs.Prelude.{codes}
use Rattle.std.proofs.Common.{subst, ◌≡◌, append_assoc, ℕ, zero, suc, ◌+◌, ◌<◌, ◌≤◌, List, [], ◌∷◌, ◌++◌, drop, get_or, length, map, refl, ap, sym, ◌∙◌, arith, drop_of_length-le}
use Rattle.std.specs.List.{AllByRecursion, flat_map}
use Rattle.std.proofs.lemmas.List.{length-map}
use Rattle.rb_base.specs.declared.names.Variable.{Variable}
use Rattle.rb_trace.specs.Fitting.{LiesWithin}
use Rattle.rb_world.specs.Text.{line_of}
use Rattle.rb_changes.specs.Numbered.{numbered}

-- the next of the parts that are left, where they are numbered
module _ {A B : Type 0} (text : ℕ → B → List ℕ) (f : A → B) where
  pub numbered_next : (n i : ℕ) (xs : List A) (x d : A) → i < length xs → x ≡ get_or xs i d
      → numbered text n (drop i (map f xs)) ≡ text n (f x) ++ numbered text (n + 1) (drop (i + 1) (map f xs))
  numbered_next n i [] x d h e = absurd (omega (arith, h))
  numbered_next n zero (y ∷ xs) x d h e = ap (λ (z : A). text n (f z) ++ numbered text (n + 1) (map f xs)) (sym e)
  numbered_next n (suc i) (y ∷ xs) x d h e =
      let k : suc (i + 1) ≡ suc i + 1 = omega arith in
      numbered_next n i xs x d (omega (arith, h)) e
      ∙ ap (λ (m : ℕ). text n (f x) ++ numbered text (n + 1) (drop m (map f (y ∷ xs)))) k

  -- and after the last none is left
  pub numbered_end : (n i : ℕ) (xs : List A) → length xs ≤ i → numbered text n (drop i (map f xs)) ≡ []
  numbered_end n i xs h = ap (numbered text n) (drop_of_length-le (map f xs) (omega (arith, h, length-map xs f)))

-- the same of a list itself
module _ {A : Type 0} (text : ℕ → A → List ℕ) where
  pub numbered_at : (n i : ℕ) (xs : List A) (x d : A) → i < length xs → x ≡ get_or xs i d
      → numbered text n (drop i xs) ≡ text n x ++ numbered text (n + 1) (drop (i + 1) xs)
  numbered_at n i [] x d h e = absurd (omega (arith, h))
  numbered_at n zero (y ∷ xs) x d h e = ap (λ (z : A). text n z ++ numbered text (n + 1) xs) (sym e)
  numbered_at n (suc i) (y ∷ xs) x d h e =
      let k : suc (i + 1) ≡ suc i + 1 = omega arith in
      numbered_at n i xs x d (omega (arith, h)) e ∙ ap (λ (m : ℕ). text n x ++ numbered text (n + 1) (drop m (y ∷ xs))) k

  pub numbered_over : (n i : ℕ) (xs : List A) → length xs ≤ i → numbered text n (drop i xs) ≡ []
  numbered_over n i xs h = ap (numbered text n) (drop_of_length-le xs h)

-- the same where they are not
module _ {A B : Type 0} (text : B → List ℕ) (f : A → B) where
  pub flat_next : (i : ℕ) (xs : List A) (x d : A) → i < length xs → x ≡ get_or xs i d
      → flat_map text (drop i (map f xs)) ≡ text (f x) ++ flat_map text (drop (i + 1) (map f xs))
  flat_next i [] x d h e = absurd (omega (arith, h))
  flat_next zero (y ∷ xs) x d h e = ap (λ (z : A). text (f z) ++ flat_map text (map f xs)) (sym e)
  flat_next (suc i) (y ∷ xs) x d h e =
      let k : suc (i + 1) ≡ suc i + 1 = omega arith in
      flat_next i xs x d (omega (arith, h)) e ∙ ap (λ (m : ℕ). text (f x) ++ flat_map text (drop m (map f (y ∷ xs)))) k

  pub flat_end : (i : ℕ) (xs : List A) → length xs ≤ i → flat_map text (drop i (map f xs)) ≡ []
  flat_end i xs h = ap (flat_map text) (drop_of_length-le (map f xs) (omega (arith, h, length-map xs f)))

-- a line by its first word and the others
pub line_begins : (first : List ℕ) (words : List (List ℕ)) → 0 < length words → (first ++ 32 ∷ []) ++ line_of words ≡ line_of (first ∷ words)
line_begins first [] h = absurd (omega (arith, h))
line_begins first (word ∷ words) h = append_assoc first (32 ∷ []) (line_of (word ∷ words))

-- the words of a line that follow four others
pub line_ends : (a b c d : List ℕ) (words : List (List ℕ)) → 0 < length words
    → line_of (a ∷ b ∷ c ∷ d ∷ words) ≡ a ++ 32 ∷ (b ++ 32 ∷ (c ++ 32 ∷ (d ++ 32 ∷ line_of words)))
line_ends a b c d [] h = absurd (omega (arith, h))
line_ends a b c d (word ∷ words) h = refl

front_joined : (a b c rest : List ℕ) → (a ++ (codes " turn " ++ (b ++ 32 ∷ (c ++ 32 ∷ [])))) ++ rest
    ≡ a ++ (codes " turn " ++ (b ++ 32 ∷ (c ++ 32 ∷ rest)))
front_joined a b c rest =
    append_assoc a (codes " turn " ++ (b ++ 32 ∷ (c ++ 32 ∷ []))) rest
    ∙ ap (λ (x : List ℕ). a ++ (codes " turn " ++ x))
    (append_assoc b (32 ∷ (c ++ 32 ∷ [])) rest ∙ ap (λ (x : List ℕ). b ++ 32 ∷ x) (append_assoc c (32 ∷ []) rest))

-- the line of a turn, by what stands before its last words
pub turn_joined : (a b c : List ℕ) (words : List (List ℕ)) → 0 < length words
    → (a ++ (codes " turn " ++ (b ++ 32 ∷ (c ++ 32 ∷ [])))) ++ line_of words ≡ line_of (a ∷ codes "turn" ∷ b ∷ c ∷ words)
turn_joined a b c words h = front_joined a b c (line_of words) ∙ sym (line_ends a (codes "turn") b c words h)

-- each of some variables lies within so many words
pub lies_at : (n : ℕ) (xs : List Variable) (i : ℕ) (x d : Variable) → AllByRecursion (LiesWithin n) xs → i < length xs → x ≡ get_or xs i d
    → LiesWithin n x
lies_at n [] i x d lie h e = absurd (omega (arith, h))
lies_at n (y ∷ xs) zero x d lie h e = subst (LiesWithin n) (sym e) lie.0
lies_at n (y ∷ xs) (suc i) x d lie h e = lies_at n xs i x d lie.1 (omega (arith, h)) e
