-- Numbers that do not fall: the heights of copies, and the calls at entries.
use Rattle.std.proofs.Common.{◌≡◌, ℕ, zero, suc, ◌≤◌, ℤ, List, [], ◌∷◌, ◌++◌, map, length, take, refl, subst, arith}
use Rattle.std.specs.List.{AllByRecursion}
use Rattle.rb_cache.specs.Copies.{Level as Touched}
use Rattle.rb_code.specs.SoundCode.Safe.{StayAbove}
use Rattle.rb_recoverable.specs.Inside.{Rise, first_or}

-- none is above the last one
pub rise_first : (ns : List ℕ) (last : ℕ) → Rise ns last → first_or ns last ≤ last
rise_first [] last h = omega arith
rise_first (n ∷ ns) last h = let below = rise_first ns last h.1 in let x = h.0 in omega arith

-- a greater last one
first_more : (ns : List ℕ) (last more : ℕ) → last ≤ more → first_or ns last ≤ first_or ns more
first_more [] last more le = le
first_more (n ∷ ns) last more le = omega arith

pub rise_more : (ns : List ℕ) (last more : ℕ) → last ≤ more → Rise ns last → Rise ns more
rise_more [] last more le h = tt
rise_more (n ∷ ns) last more le h = (let below = first_more ns last more le in let x = h.0 in omega arith, rise_more ns last more le h.1)

pub rise_push : (ns : List ℕ) (n last : ℕ) → Rise ns n → n ≤ last → Rise (ns ++ n ∷ []) last
rise_push [] n last h le = (le, tt)
rise_push (m ∷ ns) n last h le = (subst (λ x. m ≤ x) (sym_first ns n last) h.0, rise_push ns n last h.1 le)
  where
    sym_first : (ns : List ℕ) (n last : ℕ) → first_or ns n ≡ first_or (ns ++ n ∷ []) last
    sym_first [] n last = refl
    sym_first (m ∷ ns) n last = refl

-- the first ones alone
first_take : (k : ℕ) (ns : List ℕ) (n last : ℕ) → n ≤ first_or ns last → first_or ns last ≤ last → n ≤ first_or (take k ns) last
first_take zero ns n last h low = omega arith
first_take (suc k) [] n last h low = h
first_take (suc k) (m ∷ ns) n last h low = h

pub rise_take : (k : ℕ) (ns : List ℕ) (last : ℕ) → Rise ns last → Rise (take k ns) last
rise_take zero ns last h = tt
rise_take (suc k) [] last h = tt
rise_take (suc k) (n ∷ ns) last h = (first_take k ns n last h.0 (rise_first ns last h.1), rise_take k ns last h.1)

-- what stays above the innermost level stays above all
abbrev pub height_in : Touched → ℕ
height_in level = level.height

pub rise_above : (levels : List Touched) (n h : ℕ) → Rise (map height_in levels) n → StayAbove levels h → Rise (map height_in levels) h
rise_above [] n h r s = tt
rise_above (level ∷ []) n h r s = (s, tt)
rise_above (level ∷ inner ∷ more) n h r s = (r.0, rise_above (inner ∷ more) n h r.1 s)

-- so no copy is longer
pub all_low : (copied : List (List ℤ)) (h : ℕ) → Rise (map length copied) h → AllByRecursion (λ (copy : List ℤ). length copy ≤ h) copied
all_low [] h r = tt
all_low (copy ∷ copied) h r = (let below = rise_first (map length copied) h r.1 in let x = r.0 in omega arith, all_low copied h r.1)
