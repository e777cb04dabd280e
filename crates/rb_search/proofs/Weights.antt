-- What is weakened is lighter.
use Rattle.std.proofs.Common.{◌≡◌, ◌⊎◌, inl, inr, ℕ, zero, suc, ◌<◌, ◌≤◌, List, [], ◌∷◌, length, Option, Some, None, refl, sym, ap, subst, arith}
use Rattle.rb_code.specs.SoundCode.Sound.{Entry, IsWeaker, Table, WeakerMode, WeakerOperand, WeakerOperands, Mode, Fresh, MayPut, MayTake, Begun, Free, Changed}
use Rattle.rb_search.proofs.Searching.{decided}
use Rattle.rb_search.specs.Weight.{bound, bounds, total, unchanged, weight}

operand_falls : (o p : Option ℕ) → WeakerOperand o p → (p ≡ o) ⊎ (bound p < bound o)
operand_falls None None h = inl refl
operand_falls (Some m) None h = inr (omega arith)
operand_falls None (Some n) h = absurd h
operand_falls (Some m) (Some n) h = inl (ap Some (sym h))

operands_fall : (os ps : List (Option ℕ)) → WeakerOperands os ps → (ps ≡ os) ⊎ (bounds ps < bounds os)
operands_fall [] [] h = inl refl
operands_fall [] (p ∷ ps) h = absurd h
operands_fall (o ∷ os) [] h = absurd h
operands_fall (o ∷ os) (p ∷ ps) h = by (operand_falls o p h.0) (operands_fall os ps h.1)
  where
    by : (p ≡ o) ⊎ (bound p < bound o) → (ps ≡ os) ⊎ (bounds ps < bounds os) → ((p ∷ ps) ≡ (o ∷ os)) ⊎ (bounds (p ∷ ps) < bounds (o ∷ os))
    by (inl e) (inl k) = inl (λ i. e i ∷ k i)
    by (inl e) (inr k) = let s = ap bound e in inr (omega arith)
    by (inr e) (inl k) = let s = ap bounds k in inr (omega arith)
    by (inr e) (inr k) = inr (omega arith)

mode_falls : (m n : Mode) → WeakerMode m n → (n ≡ m) ⊎ (unchanged n < unchanged m)
mode_falls Changed Changed h = inl refl
mode_falls Fresh Changed h = inr (omega arith)
mode_falls (MayPut d) Changed h = inr (omega arith)
mode_falls (MayTake d) Changed h = inr (omega arith)
mode_falls Begun Changed h = inr (omega arith)
mode_falls Free Changed h = inr (omega arith)
mode_falls m Fresh h = inl (sym h)
mode_falls m (MayPut d) h = inl (sym h)
mode_falls m (MayTake d) h = inl (sym h)
mode_falls m Begun h = inl (sym h)
mode_falls m Free h = inl (sym h)

pub weaker_is_lighter : (most : ℕ) (e g : Entry) → IsWeaker e g → (g ≡ e) ⊎ (weight most (Some g) < weight most (Some e))
weaker_is_lighter most e g w = by (operands_fall e.operands g.operands w.operands) (mode_falls e.mode g.mode w.mode)
  where
    by : (g.operands ≡ e.operands) ⊎ (bounds g.operands < bounds e.operands) → (g.mode ≡ e.mode) ⊎ (unchanged g.mode < unchanged e.mode)
        → (g ≡ e) ⊎ (weight most (Some g) < weight most (Some e))
    by (inl o) (inl m) = inl (λ i. record {
      within = w.within i;
      operands = o i;
      words = w.words i;
      blocks = w.blocks i;
      loops = w.loops i;
      pieces = w.pieces i;
      mode = m i;
    })
    by (inl o) (inr m) = let s = ap bounds o in inr (omega arith)
    by (inr o) (inl m) = let s = ap unchanged m in inr (omega arith)
    by (inr o) (inr m) = inr (omega arith)

few_bounds : (os : List (Option ℕ)) → bounds os ≤ length os
few_bounds [] = omega arith
few_bounds (None ∷ os) = let r = few_bounds os in omega arith
few_bounds (Some n ∷ os) = let r = few_bounds os in omega arith

one_mode : (m : Mode) → unchanged m ≤ 1
one_mode Fresh = omega arith
one_mode (MayPut d) = omega arith
one_mode (MayTake d) = omega arith
one_mode Begun = omega arith
one_mode Free = omega arith
one_mode Changed = omega arith

pub first_is_lighter : (most : ℕ) (e : Entry) → length e.operands ≤ most → weight most (Some e) < weight most None
first_is_lighter most e h = let r = few_bounds e.operands in let m = one_mode e.mode in omega arith

total_kept : (most n : ℕ) (f g : Table) → ((b : ℕ) → b < n → g b ≡ f b) → total most n g ≡ total most n f
total_kept most zero f g same = refl
total_kept most (suc n) f g same =
    let here = ap (weight most) (same n (omega arith))
    in let below = total_kept most n f g (λ b h. same b (omega arith))
    in omega arith

pub total_falls : (most n a : ℕ) (f g : Table) → a < n → weight most (g a) < weight most (f a) → ((b : ℕ) → (b ≡ a) ⊎ (g b ≡ f b))
    → total most n g < total most n f
total_falls most zero a f g within falls others = absurd (omega (arith, within))
total_falls most (suc n) a f g within falls others = by (λ h. total_falls most n a f g h falls others) (decided n a) (others n)
  where
    below : n ≡ a → (b : ℕ) → b < n → (b ≡ a) ⊎ (g b ≡ f b) → g b ≡ f b
    below here b h (inl e) = absurd (omega arith)
    below here b h (inr e) = e

    by : (a < n → total most n g < total most n f) → (n ≡ a) ⊎ (n ≡ a → ⊥) → (n ≡ a) ⊎ (g n ≡ f n) → total most (suc n) g < total most (suc n) f
    by rest (inl here) o =
        let kept = total_kept most n f g (λ b h. below here b h (others b))
        in let lighter = subst (λ b. weight most (g b) < weight most (f b)) (sym here) falls
        in omega arith
    by rest (inr k) (inl e) = absurd (k e)
    by rest (inr k) (inr same) =
        let r = rest (grind (arith, within, k))
        in let kept = ap (weight most) same
        in omega arith
