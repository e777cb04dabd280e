-- Numbers of several digits that fall: what is left of a turn, by where its open loops began, how often they still go back, and where it
-- stands.
use Rattle.std.proofs.Common.{ℕ, zero, suc, ◌+◌, ◌-◌, ◌*◌, ◌<◌, ◌≤◌, List, [], ◌∷◌, ◌++◌, arith}
use Rattle.std.proofs.Math.Nat.{mul-le-mul_right}

-- the low digit falls, and the high one does not rise
pub low_falls : (x y k d e : ℕ) → y ≤ x → e < d → y * k + e < x * k + d
low_falls x y k d e h l = let m = mul-le-mul_right k h in omega arith

-- the high digit falls
pub high_falls : (x y k d e : ℕ) → y < x → e < k → y * k + e < x * k + d
high_falls x y k d e h l = let m : suc y * k ≤ x * k = mul-le-mul_right k h in omega arith

-- a code of n instructions, and most times that a loop goes back
module _ (n most : ℕ) where
  -- what one address is worth where d more loops may open
  abbrev pub worth : ℕ → ℕ
  worth zero = 1
  worth (suc d) = most * ((n + 1) * worth d)

  -- the open loops, the outermost first, each with its first address and how often it still goes back; then the address
  abbrev pub left : ℕ → List (ℕ × ℕ) → ℕ → ℕ
  left d [] a = (n - a) * worth d
  left zero (x ∷ loops) a = 0
  left (suc d) (x ∷ loops) a = (n - x.0) * worth (suc d) + (x.1 * ((n + 1) * worth d) + left d loops a)

  -- no more than d loops are open, and each goes back fewer times than the most
  abbrev pub Few : ℕ → List (ℕ × ℕ) → Type 0
  Few d [] = Unit {0}
  Few zero (x ∷ loops) = ⊥
  Few (suc d) (x ∷ loops) = (x.1 < most) × Few d loops

  -- where the outermost of some loops began, or else the address
  abbrev pub begun_at : List (ℕ × ℕ) → ℕ → ℕ
  begun_at [] a = a
  begun_at (x ∷ loops) a = x.0

  module _ (some : 0 < most) where
    positive : (d : ℕ) → 0 < worth d
    positive zero = omega arith
    positive (suc d) =
        let p = positive d in
        let m : 1 * worth d ≤ (n + 1) * worth d = mul-le-mul_right (worth d) (omega arith) in
        let k : 1 * ((n + 1) * worth d) ≤ most * ((n + 1) * worth d) = mul-le-mul_right ((n + 1) * worth d) some in
        omega arith

    inside : (d r low : ℕ) → r < most → low < (n + 1) * worth d → r * ((n + 1) * worth d) + low < worth (suc d)
    inside d r low few b = let h = high_falls most r ((n + 1) * worth d) 0 low few b in omega arith

    pub bounded : (d : ℕ) (loops : List (ℕ × ℕ)) (a : ℕ) → Few d loops → left d loops a < (n + 1) * worth d
    bounded d [] a few = let r = high_falls (n + 1) (n - a) (worth d) 0 0 (omega arith) (positive d) in omega arith
    bounded zero (x ∷ loops) a few = absurd few
    bounded (suc d) (x ∷ loops) a few =
        let r = high_falls (n + 1) (n - x.0) (worth (suc d)) 0 (x.1 * ((n + 1) * worth d) + left d loops a) (omega arith)
        (inside d x.1 (left d loops a) few.0 (bounded d loops a few.1)) in
        omega arith

    -- on to a higher address, with the same loops open
    pub goes_ahead : (d : ℕ) (loops : List (ℕ × ℕ)) (a b : ℕ) → Few d loops → a < b → a < n → left d loops b < left d loops a
    goes_ahead d [] a b few lt in_code =
        let r = high_falls (n - a) (n - b) (worth d) 0 0 (omega arith) (positive d) in omega arith
    goes_ahead zero (x ∷ loops) a b few lt in_code = absurd few
    goes_ahead (suc d) (x ∷ loops) a b few lt in_code = let r = goes_ahead d loops a b few.1 lt in_code in omega arith

    -- a loop opens at an address that is higher
    pub opens : (d : ℕ) (loops : List (ℕ × ℕ)) (a b r : ℕ) → Few d loops → Few d (loops ++ (b, r) ∷ []) → a < b → a < n
        → left d (loops ++ (b, r) ∷ []) b < left d loops a
    opens zero [] a b r few more lt in_code = absurd more
    opens (suc d) [] a b r few more lt in_code =
        let h = high_falls (n - a) (n - b) (worth (suc d)) 0 (r * ((n + 1) * worth d) + left d [] b) (omega arith)
        (inside d r (left d [] b) more.0 (bounded d [] b tt)) in
        omega arith
    opens zero (x ∷ loops) a b r few more lt in_code = absurd few
    opens (suc d) (x ∷ loops) a b r few more lt in_code = let h = opens d loops a b r few.1 more.1 lt in_code in omega arith

    -- a loop goes back to its first address, is one time nearer to its end, and leaves those inside it
    pub goes_again : (d : ℕ) (loops : List (ℕ × ℕ)) (s a r : ℕ) (inner : List (ℕ × ℕ)) → Few d (loops ++ (s, suc r) ∷ inner)
        → left d (loops ++ (s, r) ∷ []) s < left d (loops ++ (s, suc r) ∷ inner) a
    goes_again zero [] s a r inner few = absurd few
    goes_again (suc d) [] s a r inner few =
        let b = bounded d [] s tt in
        let h = high_falls (suc r) r ((n + 1) * worth d) (left d inner a) (left d [] s) (omega arith) b in omega arith
    goes_again zero (x ∷ loops) s a r inner few = absurd few
    goes_again (suc d) (x ∷ loops) s a r inner few = let h = goes_again d loops s a r inner few.1 in omega arith

    rest_bounded : (d : ℕ) (others : List (ℕ × ℕ)) (b : ℕ) → Few (suc d) others
        → left (suc d) others b < suc (n - begun_at others b) * worth (suc d)
    rest_bounded d [] b few = let p = positive (suc d) in omega (arith, low_falls (suc (n - b)) (n - b) (worth (suc d)) 1 0)
    rest_bounded d (y ∷ others) b few =
        let i = inside d y.1 (left d others b) few.0 (bounded d others b few.1) in
        let h = high_falls (suc (n - y.0)) (n - y.0) (worth (suc d)) 0 (y.1 * ((n + 1) * worth d) + left d others b) (omega arith) i in
        omega arith

    -- a loop is left, and what is open instead of it and those inside it began after it
    pub leaves : (d : ℕ) (loops others : List (ℕ × ℕ)) (x : ℕ × ℕ) (inner : List (ℕ × ℕ)) (a b : ℕ) → Few d (loops ++ x ∷ inner)
        → Few d (loops ++ others) → x.0 < begun_at others b → x.0 < n
        → left d (loops ++ others) b < left d (loops ++ x ∷ inner) a
    leaves zero [] others x inner a b few more lt in_code = absurd few
    leaves (suc d) [] others x inner a b few more lt in_code =
        let h = rest_bounded d others b more in
        let m : suc (n - begun_at others b) * worth (suc d) ≤ (n - x.0) * worth (suc d) =
        mul-le-mul_right (worth (suc d)) (omega arith) in
        omega arith
    leaves zero (y ∷ loops) others x inner a b few more lt in_code = absurd few
    leaves (suc d) (y ∷ loops) others x inner a b few more lt in_code =
        let h = leaves d loops others x inner a b few.1 more.1 lt in_code in omega arith
