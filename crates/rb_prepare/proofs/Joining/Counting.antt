-- Instructions that are counted are there; and lists that keep something at each place.
use Rattle.std.proofs.Common.{◌≡◌, ℕ, zero, suc, ◌+◌, ◌<◌, ◌≤◌, nat_eq, Bool, true, false, List, [], ◌∷◌, map, slice_get, Option, Some, None, refl, ap, sym, ◌∙◌, true≢false, arith}
use Rattle.std.proofs.lemmas.Bool.{eqb-true}
use Rattle.std.proofs.lemmas.List.Elements.{All-from_recursion}
use Rattle.std.specs.List.{All, AllByRecursion}
use Rattle.rb_world.proofs.ListFacts.{none_some, some_same}
use Rattle.rb_code.specs.Agreement.StandsFor.{numbers_from, text_numbers}
use Rattle.rb_code.specs.SoundCode.WellFormed.{is_entry}
use Rattle.rb_code.specs.declared.instr.Instr.{Instr}
use Rattle.rb_code.specs.declared.instr.Instr.TheVariants.{Enter, Text}
use Rattle.rb_prepare.proofs.Walking.Laid.{count_one, count_to, one_if}

-- what holds at each place of a list holds of all
each_placed : {A : Type 0} (P : A → Type 0) (xs : List A) → ((k : ℕ) (x : A) → slice_get xs k ≡ Some x → P x) → AllByRecursion P xs
each_placed P [] h = tt
each_placed P (x ∷ xs) h = (h zero x refl, each_placed P xs (λ k y at. h (suc k) y at))

pub all_placed : {A : Type 0} (P : A → Type 0) (xs : List A) → ((k : ℕ) (x : A) → slice_get xs k ≡ Some x → P x) → All P xs
all_placed P xs h = All-from_recursion P xs (each_placed P xs h)

-- one that is mapped comes of one that is there
pub mapped_from : {A B : Type 0} (g : A → B) (xs : List A) (k : ℕ) (y : B) → slice_get (map g xs) k ≡ Some y
    → (x : A) × (slice_get xs k ≡ Some x) × (g x ≡ y)
mapped_from g [] k y at = absurd (none_some at)
mapped_from g (x ∷ xs) zero y at = (x, refl, some_same at)
mapped_from g (x ∷ xs) (suc k) y at = mapped_from g xs k y at

module _ (f : Instr → Bool) (instrs : List Instr) where
  count_past : (rest : List Instr) (n : ℕ) → slice_get rest n ≡ None → count_to f (suc n) rest ≡ count_to f n rest
  count_past [] zero at = refl
  count_past [] (suc n) at = refl
  count_past (instr ∷ rest) zero at = absurd (none_some (sym at))
  count_past (instr ∷ rest) (suc n) at = ap (λ k. one_if (f instr) + k) (count_past rest n at)

  pub count_upward : (p q : ℕ) → p ≤ q → count_to f p instrs ≤ count_to f q instrs
  count_upward p zero le = let e : p ≡ zero = omega arith in omega (arith, ap (λ k. count_to f k instrs) e)
  count_upward p (suc q) le = by (slice_get instrs q) refl (nat_eq p (suc q)) refl (count_upward p q)
    where
      by : (o : Option Instr) → slice_get instrs q ≡ o → (b : Bool) → nat_eq p (suc q) ≡ b → (p ≤ q → count_to f p instrs ≤ count_to f q instrs)
          → count_to f p instrs ≤ count_to f (suc q) instrs
      by o at true e before = omega (arith, ap (λ k. count_to f k instrs) (eqb-true p (suc q) e))
      by None at false e before = let lower : p ≤ q = grind arith in omega (arith, count_past instrs q at, before lower)
      by (Some instr) at false e before = let lower : p ≤ q = grind arith in omega (arith, count_one f instrs q instr at, before lower)

  -- where some are counted one is there
  pub counted_there : (p q : ℕ) → p ≤ q → count_to f p instrs < count_to f q instrs
      → (x : ℕ) × (instr : Instr) × (p ≤ x) × (x < q) × (slice_get instrs x ≡ Some instr) × (f instr ≡ true)
  counted_there p zero le more = let e : p ≡ zero = omega arith in absurd (let same = ap (λ k. count_to f k instrs) e in omega arith)
  counted_there p (suc q) le more = by (slice_get instrs q) refl (nat_eq p (suc q)) refl (counted_there p q)
    where
      found : (instr : Instr) → slice_get instrs q ≡ Some instr → p ≤ q → (b : Bool) → f instr ≡ b
          → (count_to f p instrs < count_to f q instrs → (x : ℕ) × (i : Instr) × (p ≤ x) × (x < q) × (slice_get instrs x ≡ Some i) × (f i ≡ true))
          → (x : ℕ) × (i : Instr) × (p ≤ x) × (x < suc q) × (slice_get instrs x ≡ Some i) × (f i ≡ true)
      found instr at lower true e before = (q, instr, lower, omega arith, at, e)
      found instr at lower false e before =
          let h = before (omega (arith, more, count_one f instrs q instr at, ap one_if e)) in
          let below = h.3 in (h.0, h.1, h.2, omega arith, h.4, h.5)

      by : (o : Option Instr) → slice_get instrs q ≡ o → (b : Bool) → nat_eq p (suc q) ≡ b
          → (p ≤ q → count_to f p instrs < count_to f q instrs
          → (x : ℕ) × (i : Instr) × (p ≤ x) × (x < q) × (slice_get instrs x ≡ Some i) × (f i ≡ true))
          → (x : ℕ) × (i : Instr) × (p ≤ x) × (x < suc q) × (slice_get instrs x ≡ Some i) × (f i ≡ true)
      by o at true e before =
          let same = ap (λ k. count_to f k instrs) (eqb-true p (suc q) e) in absurd (omega (arith, same, more))
      by None at false e before =
          let lower : p ≤ q = grind arith in
          let h = before lower (omega (arith, more, count_past instrs q at)) in
          let below = h.3 in (h.0, h.1, h.2, omega arith, h.4, h.5)
      by (Some instr) at false e before =
          let lower : p ≤ q = grind arith in found instr at lower (f instr) refl (before lower)

  -- where one at most is counted it stands at one address
  pub counted_once : (p q x y : ℕ) (i j : Instr) → count_to f q instrs ≤ count_to f p instrs + 1 → p ≤ x → x < y → y < q
      → slice_get instrs x ≡ Some i → slice_get instrs y ≡ Some j → f i ≡ true → f j ≡ true → ⊥
  counted_once p q x y i j few low between high at there e g =
      omega (
        arith,
        few,
        count_upward p x low,
        count_one f instrs x i at,
        ap one_if e,
        count_upward (suc x) y (omega arith),
        count_one f instrs y j there,
        ap one_if g,
        count_upward (suc y) q (omega arith),
      )

-- the entry of a block
pub entry_is : (b : ℕ) (instr : Instr) → is_entry b instr ≡ true → instr ≡ Enter b
entry_is b (Enter d) e = ap Enter (eqb-true d b e)
entry_is b other e = absurd (true≢false (sym e))

-- a text that is numbered is named by an instruction
pub text_named : (instrs : List Instr) (j k : ℕ) → slice_get (text_numbers instrs) j ≡ Some k → (x : ℕ) × (slice_get instrs x ≡ Some (Text k))
text_named [] j k at = absurd (none_some at)
text_named (Text n ∷ instrs) zero k at = (zero, ap (λ m. Some (Text m)) (some_same at))
text_named (Text n ∷ instrs) (suc j) k at = let h = text_named instrs j k at in (suc h.0, h.1)
text_named (other ∷ instrs) j k at = let h = text_named instrs j k at in (suc h.0, h.1)

pub number_at : {A : Type 0} (n k : ℕ) (xs : List A) (x : A) → slice_get xs k ≡ Some x → slice_get (numbers_from n xs) k ≡ Some (n + k)
number_at n k [] x at = absurd (none_some at)
number_at n zero (y ∷ xs) x at = ap Some (omega arith)
number_at n (suc k) (y ∷ xs) x at = number_at (n + 1) k xs x at ∙ ap Some (omega arith)
