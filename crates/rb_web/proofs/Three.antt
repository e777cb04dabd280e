-- The first of three texts.
use Rattle.std.proofs.Common.{◌≡◌, ◌∙◌, ℕ, zero, suc, min, List, [], ◌∷◌, map, take, Bor, refl, sym, ap, arith, take_all}

pub first_of_three : (n : ℕ) (a b c : Bor (List ℕ))
    → map (λ text. text.now) (take (min n 3) (a ∷ b ∷ c ∷ [])) ≡ take n (a.now ∷ b.now ∷ c.now ∷ [])
first_of_three zero a b c = refl
first_of_three (suc zero) a b c = refl
first_of_three (suc (suc zero)) a b c = refl
first_of_three (suc (suc (suc n))) a b c =
    let all : min (suc (suc (suc n))) 3 ≡ 3 = omega arith in
    ap (λ k. map (λ text. text.now) (take k (a ∷ b ∷ c ∷ []))) all
    ∙ sym (take_all (suc (suc (suc n))) (a.now ∷ b.now ∷ c.now ∷ []) (omega arith))
