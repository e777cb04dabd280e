-- Where loops over counters end: at the first way back to their first address that stands there or behind it.
use Rattle.std.proofs.Common.{◌≡◌, ℕ, zero, suc, ◌+◌, ◌<◌, ◌≤◌, ◌-◌, ◌&&◌, nat_eq, Bool, true, false, cond, List, [], ◌∷◌, drop, slice_get, Option, Some, None, refl, ap, sym, ◌∙◌, subst, arith}
use Rattle.std.proofs.lemmas.Bool.{and_parts, eq-eqb, eqb-true}
use Rattle.rb_world.proofs.ListFacts.{none_some, some_same}
use Rattle.rb_code.specs.Instructions.Plain.{Code}
use Rattle.rb_code.specs.SoundCode.Sound.{EndIs, end_of_loop, first_from, goes_back}
use Rattle.rb_code.specs.declared.instr.Instr.{Instr}
use Rattle.rb_code.specs.declared.instr.Instr.TheVariants.{Again}

-- an instruction from a place on
got_behind : (n : ℕ) (xs : List Instr) (k j : ℕ) → j ≡ n + k → slice_get (drop n xs) k ≡ slice_get xs j
got_behind zero xs k j e = ap (slice_get xs) (omega arith)
got_behind (suc n) [] k j e = refl
got_behind (suc n) (x ∷ xs) k zero e = absurd (omega arith)
got_behind (suc n) (x ∷ xs) k (suc j) e = got_behind n xs k j (omega arith)

module _ (k first : ℕ) where
  pub back_is : (i : Instr) → goes_back k first i ≡ true → i ≡ Again k first
  back_is (Again j b) e =
      let h = and_parts (nat_eq j k) (nat_eq b first) e in
      ap (λ x. Again x b) (eqb-true j k h.0) ∙ ap (Again k) (eqb-true b first h.1)
  back_is i e = absurd (false_true e)
    where
      false_true : false ≡ true → ⊥
      false_true e = cc

  pub goes_back_itself : goes_back k first (Again k first) ≡ true
  goes_back_itself =
      ap (λ b. b && nat_eq first first) (eq-eqb k k refl) ∙ eq-eqb first first refl

  -- the first way back of a list is an element of it, and none stands before it
  record FoundAt (a last : ℕ) (instrs : List Instr) : Type 0 where
    steps : ℕ
    is : last ≡ a + steps
    there : slice_get instrs steps ≡ Some (Again k first)
    none_before : (j : ℕ) (i : Instr) → j < steps → slice_get instrs j ≡ Some i → goes_back k first i ≡ false

  found : (a last : ℕ) (instrs : List Instr) → first_from k first a instrs ≡ Some last → FoundAt a last instrs
  found a last [] e = absurd (none_some e)
  found a last (x ∷ xs) e = by (found (a + 1) last xs) (goes_back k first x) refl e
    where
      by : (first_from k first (a + 1) xs ≡ Some last → FoundAt (a + 1) last xs) → (b : Bool) → goes_back k first x ≡ b
          → cond b (Some a) (first_from k first (a + 1) xs) ≡ Some last → FoundAt a last (x ∷ xs)
      by rest true q e = record {
        steps = 0;
        is = let s = some_same e in omega arith;
        there = ap Some (back_is x q);
        none_before = λ j i lt h. absurd (omega arith);
      }
      by rest false q e =
          let r = rest e in
          record {
            steps = suc r.steps;
            is = let s = r.is in omega arith;
            there = r.there;
            none_before = before r;
          }
        where
          before : (r : FoundAt (a + 1) last xs) (j : ℕ) (i : Instr) → j < suc r.steps → slice_get (x ∷ xs) j ≡ Some i
              → goes_back k first i ≡ false
          before r zero i lt h = subst (λ y. goes_back k first y ≡ false) (some_same h) q
          before r (suc j) i lt h = r.none_before j i (omega arith) h

  -- and so the other way round
  finds : (steps a : ℕ) (instrs : List Instr) → slice_get instrs steps ≡ Some (Again k first)
      → ((j : ℕ) (i : Instr) → j < steps → slice_get instrs j ≡ Some i → goes_back k first i ≡ true → ⊥)
      → first_from k first a instrs ≡ Some (a + steps)
  finds n a [] e none = absurd (none_some e)
  finds zero a (x ∷ xs) e none =
      ap (λ b. cond b (Some a) (first_from k first (a + 1) xs)) (ap (goes_back k first) (some_same e) ∙ goes_back_itself)
      ∙ ap Some (omega arith)
  finds (suc n) a (x ∷ xs) e none =
      by (finds n (a + 1) xs e (λ j i lt h. none (suc j) i (omega arith) h)) (goes_back k first x) refl
    where
      by : first_from k first (a + 1) xs ≡ Some ((a + 1) + n) → (b : Bool) → goes_back k first x ≡ b
          → cond b (Some a) (first_from k first (a + 1) xs) ≡ Some (a + suc n)
      by rest true q = absurd (none 0 x (omega arith) refl q)
      by rest false q = rest ∙ ap Some (omega arith)

module _ (c : Code) (k first : ℕ) where
  -- the end of a loop is a way back of it, and none stands between
  pub loop_end_is : (last : ℕ) → end_of_loop c k first ≡ Some last
      → (first ≤ last) × (slice_get c.instrs last ≡ Some (Again k first))
  loop_end_is last e =
      let r = found k first first last (drop first c.instrs) e in
      (let s = r.is in omega arith, sym (got_behind first c.instrs r.steps last r.is) ∙ r.there)

  pub none_before_end : (last x : ℕ) (i : Instr) → end_of_loop c k first ≡ Some last → first ≤ x → x < last
      → slice_get c.instrs x ≡ Some i → goes_back k first i ≡ false
  none_before_end last x i e low high at = by (found k first first last (drop first c.instrs) e)
    where
      by : FoundAt k first first last (drop first c.instrs) → goes_back k first i ≡ false
      by r =
          r.none_before (x - first) i (let s = r.is in omega arith)
          (got_behind first c.instrs (x - first) x (omega arith) ∙ at)

  -- where its first way back stands a loop ends
  pub loop_ends_at : (last : ℕ) → first ≤ last → slice_get c.instrs last ≡ Some (Again k first)
      → ((x : ℕ) (i : Instr) → first ≤ x → x < last → slice_get c.instrs x ≡ Some i → goes_back k first i ≡ true → ⊥)
      → end_of_loop c k first ≡ Some last
  loop_ends_at last low at none =
      finds k first (last - first) first (drop first c.instrs)
      (got_behind first c.instrs (last - first) last (omega arith) ∙ at)
      (λ j i lt h. none (first + j) i (omega arith) (omega arith) (sym (got_behind first c.instrs j (first + j) refl) ∙ h))
      ∙ ap Some (omega arith)

  -- a loop that has an end, as `range` asks for it
  pub end_goes : (A : Type 0) (P : ℕ → Type 0) → EndIs (end_of_loop c k first) P
      → ((last : ℕ) → end_of_loop c k first ≡ Some last → P last → A) → A
  end_goes A P h go = by (end_of_loop c k first) refl h
    where
      by : (o : Option ℕ) → end_of_loop c k first ≡ o → EndIs o P → A
      by None e h = absurd h
      by (Some last) e h = go last e h

  pub end_is : (last : ℕ) (P : ℕ → Type 0) → end_of_loop c k first ≡ Some last → P last → EndIs (end_of_loop c k first) P
  end_is last P e h = subst (λ o. EndIs o P) (sym e) h
