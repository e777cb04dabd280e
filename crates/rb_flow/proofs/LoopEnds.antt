-- One more instruction is looked at, from the last one backwards.
use Rattle.std.proofs.Common.{◌≡◌, ℕ, ◌+◌, ◌<◌, ◌≤◌, ◌&&◌, max, cond, nat_le, Bool, true, false, List, drop, length, get_or, Option, Some, None, refl, sym, ap, ◌∙◌, arith, add-one, le-leb, leb-true}
use Rattle.std.proofs.Math.Seq.{drop-cons}
use Rattle.std.proofs.lemmas.List.{drop_all}
use Rattle.rb_code.specs.declared.instr.Instr.{Instr}
use Rattle.rb_code.specs.SoundCode.Sound.{first_from, goes_back}

-- what is found of a loop from its own address on, and from address i on
abbrev pub end_from : ℕ → List Instr → ℕ → ℕ → Option ℕ
end_from k instrs i b = first_from k b (max i b) (drop (max i b) instrs)

and_true : (x : Bool) (y : Bool) → y ≡ true → (x && y) ≡ x
and_true true y e = e
and_true false y e = refl

and_false : (x : Bool) (y : Bool) → y ≡ false → (x && y) ≡ false
and_false true y e = e
and_false false y e = refl

pub one_more : (k : ℕ) (instrs : List Instr) (j b : ℕ) (d : Instr) → j < length instrs
    → end_from k instrs j b ≡ cond (goes_back k b (get_or instrs j d) && nat_le b j) (Some j) (end_from k instrs (j + 1) b)
one_more k instrs j b d h = by (nat_le b j) refl
  where
    instr : Instr
    instr = get_or instrs j d

    by : (t : Bool) → nat_le b j ≡ t → end_from k instrs j b ≡ cond (goes_back k b instr && nat_le b j) (Some j) (end_from k instrs (j + 1) b)
    by true e =
        let le : b ≤ j = leb-true b j e
        in let m : max j b ≡ j = omega arith
        in let n : max (j + 1) b ≡ j + 1 = omega arith
        in ap (λ i. first_from k b i (drop i instrs)) m ∙ ap (first_from k b j) (drop-cons instrs j d h)
        ∙ ap (λ i. cond (goes_back k b instr) (Some j) (first_from k b (j + 1) (drop i instrs))) (sym (add-one j))
        ∙ ap (λ i. cond (goes_back k b instr) (Some j) (first_from k b i (drop i instrs))) (sym n)
        ∙ ap (λ x. cond x (Some j) (end_from k instrs (j + 1) b)) (sym (and_true (goes_back k b instr) (nat_le b j) e))
    by false e =
        let gt : j < b = grind (arith, le-leb, e)
        in let m : max j b ≡ max (j + 1) b = omega arith
        in ap (λ i. first_from k b i (drop i instrs)) m
        ∙ ap (λ x. cond x (Some j) (end_from k instrs (j + 1) b)) (sym (and_false (goes_back k b instr) (nat_le b j) e))

pub at_end : (k : ℕ) (instrs : List Instr) (i b : ℕ) → length instrs ≤ i → None ≡ end_from k instrs i b
at_end k instrs i b h = ap (first_from k b (max i b)) (sym (drop_all (max i b) instrs (omega arith)))

pub from_start : (k : ℕ) (instrs : List Instr) (b : ℕ) → end_from k instrs 0 b ≡ first_from k b b (drop b instrs)
from_start k instrs b = let m : max 0 b ≡ b = omega arith in ap (λ i. first_from k b i (drop i instrs)) m
