-- A set of numbers that spreads step by step from those that it begins with, along ways from numbers below some length. As each step
-- that brings something new below this length adds one number there, it has come to all below the length after one step more than that.
use Rattle.std.proofs.Common.{◌≡◌, ◌⊎◌, inl, inr, ℕ, zero, suc, ◌+◌, ◌-◌, ◌<◌, ◌≤◌, Bool, true, false, cond, ◌&&◌, refl, ap, sym, ◌∙◌, subst, arith}
use Rattle.std.proofs.Math.Bool.{◌||◌}
use Rattle.std.proofs.Math.Nat.{eq-or-lt_of_le}
use Rattle.std.proofs.lemmas.Bool.{and_from, and_parts, or_cases, or_left, or_right}

abbrev pub Numbers : Type 0
Numbers = ℕ → Bool

-- every number of the one set is in the other
abbrev IsPartOf : Numbers → Numbers → Type 0
IsPartOf f g = (x : ℕ) → f x ≡ true → g x ≡ true

-- two sets have the same numbers below some number
abbrev Agree : ℕ → Numbers → Numbers → Type 0
Agree n f g = (x : ℕ) → x < n → f x ≡ g x

-- how many numbers below some number are in a set
abbrev count : Numbers → ℕ → ℕ
count f zero = 0
count f (suc n) = cond (f n) 1 0 + count f n

count_few : (f : Numbers) (n : ℕ) → count f n ≤ n
count_few f zero = omega arith
count_few f (suc n) = by (f n) (count_few f n)
  where
    by : (t : Bool) → count f n ≤ n → cond t 1 0 + count f n ≤ suc n
    by true few = omega arith
    by false few = omega arith

agree_more : (f g : Numbers) (n : ℕ) → f n ≡ g n → Agree n f g → Agree (suc n) f g
agree_more f g n same agree x low = by (eq-or-lt_of_le {n = x} {m = n} (omega arith))
  where
    by : (x ≡ n) ⊎ (x < n) → f x ≡ g x
    by (inl e) = subst (λ k. f k ≡ g k) (sym e) same
    by (inr l) = agree x l

count_same : (f g : Numbers) (n : ℕ) → Agree n f g → count f n ≡ count g n
count_same f g zero agree = refl
count_same f g (suc n) agree =
    ap (λ t. cond t 1 0 + count f n) (agree n (omega arith))
    ∙ ap (λ k. cond (g n) 1 0 + k) (count_same f g n (λ x low. agree x (omega arith)))

-- of two sets, the one part of the other, the greater one has more numbers below n, or they agree there
grown : (f g : Numbers) → IsPartOf f g → (n : ℕ) → Agree n f g ⊎ (count f n < count g n)
grown f g more zero = inl (λ x low. absurd (omega arith))
grown f g more (suc n) = by (f n) (g n) refl refl (more n) (agree_more f g n) (count_same f g n) (grown f g more n)
  where
    by : (p q : Bool) → f n ≡ p → g n ≡ q → (f n ≡ true → g n ≡ true) → (f n ≡ g n → Agree n f g → Agree (suc n) f g)
        → (Agree n f g → count f n ≡ count g n) → Agree n f g ⊎ (count f n < count g n)
        → Agree (suc n) f g ⊎ (cond p 1 0 + count f n < cond q 1 0 + count g n)
    by true false e d keep agrees same after = let kept = keep e in absurd cc
    by false true e d keep agrees same (inl agree) = inr (let as_many = same agree in omega arith)
    by false true e d keep agrees same (inr less) = inr (omega arith)
    by true true e d keep agrees same (inl agree) = inl (agrees (e ∙ sym d) agree)
    by true true e d keep agrees same (inr less) = inr (omega arith)
    by false false e d keep agrees same (inl agree) = inl (agrees (e ∙ sym d) agree)
    by false false e d keep agrees same (inr less) = inr (omega arith)

module _ (first : Numbers) (leads : ℕ → ℕ → Bool) (most : ℕ) where
  -- a way leads to a number from one of a set that is below n
  abbrev from_below : Numbers → ℕ → ℕ → Bool
  from_below f x zero = false
  from_below f x (suc n) = (f n && leads n x) || from_below f x n

  abbrev step : Numbers → Numbers
  step f x = f x || from_below f x most

  -- the set after n steps
  abbrev pub spread : ℕ → Numbers
  spread zero = first
  spread (suc n) = step (spread n)

  led : (f : Numbers) (y x n : ℕ) → f y ≡ true → leads y x ≡ true → y < n → from_below f x n ≡ true
  led f y x zero in_f way low = absurd (omega arith)
  led f y x (suc n) in_f way low = by (eq-or-lt_of_le {n = y} {m = n} (omega arith)) (led f y x n in_f way)
    where
      by : (y ≡ n) ⊎ (y < n) → (y < n → from_below f x n ≡ true) → ((f n && leads n x) || from_below f x n) ≡ true
      by (inl e) more = or_left (f n && leads n x) (from_below f x n)
          (subst (λ k. (f k && leads k x) ≡ true) e (and_from (f y) (leads y x) in_f way))
      by (inr l) more = or_right (f n && leads n x) (from_below f x n) (more l)

  pub record Comes (f : Numbers) (x : ℕ) : Type 0 where
    pub from : ℕ
    pub there : f from ≡ true
    pub way : leads from x ≡ true

  comes : (f : Numbers) (x n : ℕ) → from_below f x n ≡ true → Comes f x
  comes f x zero h = absurd cc
  comes f x (suc n) h = by (or_cases (f n && leads n x) (from_below f x n) h) (comes f x n)
    where
      by : ((f n && leads n x) ≡ true) ⊎ (from_below f x n ≡ true) → (from_below f x n ≡ true → Comes f x) → Comes f x
      by (inl here) more = let parts = and_parts (f n) (leads n x) here in record { from = n; there = parts.0; way = parts.1 }
      by (inr below) more = more below

  -- what is in the set after one more step: what was in it before, and that to which a way leads
  pub spread_more : (n x : ℕ) → spread n x ≡ true → spread (suc n) x ≡ true
  spread_more n x h = or_left (spread n x) (from_below (spread n) x most) h

  pub spread_along : (n y x : ℕ) → spread n y ≡ true → leads y x ≡ true → y < most → spread (suc n) x ≡ true
  spread_along n y x h way low = or_right (spread n x) (from_below (spread n) x most) (led (spread n) y x most h way low)

  pub spread_from : (n x : ℕ) → spread (suc n) x ≡ true → (spread n x ≡ true) ⊎ Comes (spread n) x
  spread_from n x h = by (or_cases (spread n x) (from_below (spread n) x most) h)
    where
      by : (spread n x ≡ true) ⊎ (from_below (spread n) x most ≡ true) → (spread n x ≡ true) ⊎ Comes (spread n) x
      by (inl before) = inl before
      by (inr new) = inr (comes (spread n) x most new)

  -- sets that agree below `most` agree there after a step
  from_same : (f g : Numbers) (x n : ℕ) → n ≤ most → Agree most f g → from_below f x n ≡ from_below g x n
  from_same f g x zero few agree = refl
  from_same f g x (suc n) few agree =
      ap (λ t. (t && leads n x) || from_below f x n) (agree n (omega arith))
      ∙ ap (λ t. (g n && leads n x) || t) (from_same f g x n (omega arith) agree)

  step_same : (f g : Numbers) → Agree most f g → Agree most (step f) (step g)
  step_same f g agree x low =
      ap (λ t. t || from_below f x most) (agree x low) ∙ ap (λ t. g x || t) (from_same f g x most (omega arith) agree)

  -- the set rests after n steps
  abbrev Rests : ℕ → Type 0
  Rests n = Agree most (spread n) (spread (suc n))

  record RestsBefore (n : ℕ) : Type 0 where
    at : ℕ
    early : at < n
    rests : Rests at

  rests_or_grows : (n : ℕ) → RestsBefore n ⊎ (n ≤ count (spread n) most)
  rests_or_grows zero = inr (omega arith)
  rests_or_grows (suc n) = by (rests_or_grows n) (grown (spread n) (spread (suc n)) (spread_more n) most)
    where
      by : RestsBefore n ⊎ (n ≤ count (spread n) most) → Rests n ⊎ (count (spread n) most < count (spread (suc n)) most)
          → RestsBefore (suc n) ⊎ (suc n ≤ count (spread (suc n)) most)
      by (inl before) d = inl (record { at = before.at; early = let l = before.early in omega arith; rests = before.rests })
      by (inr grew) (inl rest) = inl (record { at = n; early = omega arith; rests = rest })
      by (inr grew) (inr less) = inr (omega arith)

  rests_soon : RestsBefore (most + 1)
  rests_soon = by (rests_or_grows (most + 1)) (count_few (spread (most + 1)) most)
    where
      by : RestsBefore (most + 1) ⊎ (most + 1 ≤ count (spread (most + 1)) most) → count (spread (most + 1)) most ≤ most → RestsBefore (most + 1)
      by (inl before) few = before
      by (inr grew) few = absurd (omega arith)

  -- then it stays as it is
  stays : (m k n : ℕ) → n ≡ k + m → Rests m → Rests n
  stays m zero n e rest = subst Rests (let same : m ≡ n = omega arith in same) rest
  stays m (suc k) zero e rest = absurd (omega arith)
  stays m (suc k) (suc n) e rest = step_same (spread n) (spread (suc n)) (stays m k n (omega arith) rest)

  as_at_rest : (m k n : ℕ) → n ≡ k + m → Rests m → Agree most (spread m) (spread n)
  as_at_rest m zero n e rest = subst (λ i. Agree most (spread m) (spread i)) (let same : m ≡ n = omega arith in same) (λ x low. refl)
  as_at_rest m (suc k) zero e rest = absurd (omega arith)
  as_at_rest m (suc k) (suc n) e rest = λ x low.
      as_at_rest m k n (omega arith) rest x low ∙ stays m k n (omega arith) rest x low

  later : (n k m x : ℕ) → m ≡ k + n → spread n x ≡ true → spread m x ≡ true
  later n zero m x e h = subst (λ i. spread i x ≡ true) (let same : n ≡ m = omega arith in same) h
  later n (suc k) zero x e h = absurd (omega arith)
  later n (suc k) (suc m) x e h = spread_more m x (later n k m x (omega arith) h)

  -- What is in the set after any number of steps, and below `most`, is in it after one step more than `most`.
  pub spread_whole : (n x : ℕ) → x < most → spread n x ≡ true → spread (most + 1) x ≡ true
  spread_whole n x low h =
      let soon = rests_soon in let early = soon.early in
      later soon.at (most + 1 - soon.at) (most + 1) x (omega arith)
      (as_at_rest soon.at n (n + soon.at) refl soon.rests x low ∙ later n soon.at (n + soon.at) x (omega arith) h)
