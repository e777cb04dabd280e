-- How consistency of a cut carries over from a new world to an old one.
use Rattle.std.proofs.Common.{◌≡◌, ◌≢◌, ◌≤◌, ◌<◌, ℕ, zero, suc, nat_eq, cond, Bool, true, false, List, [], ◌∷◌, length, slice_get, Some, refl, sym, ap, subst, eqb-true, eq-eqb, ne_eqb, arith}
use Rattle.std.proofs.lemmas.Option.{slice_get_within}
use Rattle.rb_world.specs.World.{Level, Process, change_at}
use Rattle.rb_world.specs.Nested.{IsLevelOf}
use Rattle.rb_world.proofs.Erasing.Showing.Cuts.{IsConsistent, with_shown}
use Rattle.rb_world.proofs.ListFacts.{none_some}

-- process q, number r of an old world, has in the new one all the levels of conversations that it had
pub record HasLevels {S : Type 0} (r : ℕ) (q : Process S S) (qs : List (Process S S)) : Type 0 where
  pub process : Process S S
  pub there : slice_get qs r ≡ Some process
  pub levels : (c i : ℕ) → IsLevelOf c q.levels i → IsLevelOf c process.levels i

-- everybody keeps its levels of conversations
abbrev pub KeepsLevels : {S : Type 0} → List (Process S S) → List (Process S S) → Type 0
KeepsLevels {S} qs rs = (r : ℕ) (q : Process S S) → slice_get qs r ≡ Some q → HasLevels r q rs

-- one process changes, and keeps its levels of conversations
pub levels_changed : {S : Type 0} (p : ℕ) (new : Process S S) (qs : List (Process S S))
    → ((q : Process S S) → slice_get qs p ≡ Some q → (c i : ℕ) → IsLevelOf c q.levels i → IsLevelOf c new.levels i)
    → KeepsLevels qs (change_at p (λ _. new) qs)
levels_changed p new [] one r q there = absurd (none_some there)
levels_changed zero new (z ∷ zs) one zero q there = record { process = new; there = refl; levels = one q there }
levels_changed zero new (z ∷ zs) one (suc r) q there = record { process = q; there = there; levels = λ c i l. l }
levels_changed (suc p) new (z ∷ zs) one zero q there = record { process = q; there = there; levels = λ c i l. l }
levels_changed (suc p) new (z ∷ zs) one (suc r) q there =
    let found = levels_changed p new zs one r q there in
    record { process = found.process; there = found.there; levels = found.levels }

-- a cut of the new world that is consistent was so in the old one
pub consistent_kept : {S : Type 0} (f : ℕ → ℕ) (qs rs : List (Process S S)) → KeepsLevels qs rs → IsConsistent f rs → IsConsistent f qs
consistent_kept f qs rs keeps consistent r other c j q q' e e' l l' =
    let one = keeps r q e in
    let two = keeps other q' e' in
    consistent r other c j one.process two.process one.there two.there (one.levels c (f r) l) (two.levels c j l')

-- a level lies below the number of levels
pub level_within : {S : Type 0} (c i : ℕ) (levels : List (Level S)) → IsLevelOf c levels i → i < length levels
level_within c i levels l = slice_get_within levels i l.level l.there

-- the cut with process p in the present
cut_here : (f : ℕ → ℕ) (p n r : ℕ) (same : Bool) → nat_eq r p ≡ same → (P : ℕ → Type 0) → (same ≡ true → P n)
    → (same ≡ false → P (f r)) → P (with_shown f p n r)
cut_here f p n r true e P here away = subst (λ (b : Bool). P (cond b n (f r))) (sym e) (here refl)
cut_here f p n r false e P here away = subst (λ (b : Bool). P (cond b n (f r))) (sym e) (away refl)

-- p may be shown as it is, where each level of a conversation that it has lies outside the number at which the cut shows it
pub present_consistent : {S : Type 0} (f : ℕ → ℕ) (p n : ℕ) (qs : List (Process S S)) → IsConsistent f qs
    → ((q : Process S S) → slice_get qs p ≡ Some q → length q.levels ≤ n)
    → ((q : Process S S) (c j : ℕ) → slice_get qs p ≡ Some q → IsLevelOf c q.levels j → j < f p)
    → IsConsistent (with_shown f p n) qs
present_consistent {S} f p n qs consistent whole outside r other c j q q' e e' l l' =
    let l0 : IsLevelOf c q.levels (f r) = cut_here f p n r (nat_eq r p) refl (λ (m : ℕ). IsLevelOf c q.levels m → IsLevelOf c q.levels (f r))
    (λ same at. absurd (none_below (level_within c n q.levels at) (whole q (there_at q e (eqb-true r p same))))) (λ _ at. at) l in
    cut_here f p n other (nat_eq other p) refl (λ (m : ℕ). m ≤ j)
    (λ same. absurd (none_below (outside q' c j (there_at q' e' (eqb-true other p same)) l')
    (subst (λ (m : ℕ). f m ≤ j) (eqb-true other p same) (consistent r other c j q q' e e' l0 l'))))
    (λ _. consistent r other c j q q' e e' l0 l')
  where
    none_below : {a b : ℕ} → a < b → b ≤ a → ⊥
    none_below h k = omega (arith, h, k)

    there_at : {a b : ℕ} (z : Process S S) → slice_get qs a ≡ Some z → a ≡ b → slice_get qs b ≡ Some z
    there_at z h same = subst (λ (m : ℕ). slice_get qs m ≡ Some z) same h

-- that cut shows p at this number
pub shown_here : (f : ℕ → ℕ) (p n : ℕ) → with_shown f p n p ≡ n
shown_here f p n = ap (λ (b : Bool). cond b n (f p)) (eq-eqb p p refl)

-- and the others as before
pub shown_elsewhere : (f : ℕ → ℕ) (p n r : ℕ) → r ≢ p → with_shown f p n r ≡ f r
shown_elsewhere f p n r ne = ap (λ (b : Bool). cond b n (f r)) (ne_eqb r p ne)
