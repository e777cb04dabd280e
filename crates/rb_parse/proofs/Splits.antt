-- Two ways to split one list at an element: they are the same, or one ends before the other.
use Rattle.std.proofs.Common.{◌≡◌, List, [], ◌∷◌, ◌++◌, refl, sym, ap}

pub data Compared {X : Type 0} (b c : List X) (x y : X) : Type 0 where
  same : b ≡ c → x ≡ y → Compared b c x y
  shorter : (more : List X) → c ≡ (b ++ x ∷ []) ++ more → Compared b c x y
  longer : (more : List X) → b ≡ (c ++ y ∷ []) ++ more → Compared b c x y

compared_more : {X : Type 0} (first second : X) (b c : List X) (x y : X) → first ≡ second → Compared b c x y → Compared (first ∷ b) (second ∷ c) x y
compared_more first second b c x y e (same l h) = same (λ j. e j ∷ l j) h
compared_more first second b c x y e (shorter more l) = shorter more (λ j. sym e j ∷ l j)
compared_more first second b c x y e (longer more l) = longer more (λ j. e j ∷ l j)

pub compared : {X : Type 0} (b c : List X) (x y : X) (after_b after_c : List X) → b ++ x ∷ after_b ≡ c ++ y ∷ after_c → Compared b c x y
compared [] [] x y after_b after_c e = same refl (let h : x ≡ y = cc in h)
compared [] (second ∷ c) x y after_b after_c e = shorter c (let h : second ≡ x = cc in ap (λ z. z ∷ c) h)
compared (first ∷ b) [] x y after_b after_c e = longer b (let h : first ≡ y = cc in ap (λ z. z ∷ b) h)
compared (first ∷ b) (second ∷ c) x y after_b after_c e =
    let rest : b ++ x ∷ after_b ≡ c ++ y ∷ after_c = cc in
    compared_more first second b c x y (let h : first ≡ second = cc in h) (compared b c x y after_b after_c rest)
