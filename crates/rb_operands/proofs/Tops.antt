-- The top operands, and those below them.
use Rattle.std.proofs.Common.{◌≡◌, ℕ, zero, suc, ◌+◌, ◌-◌, ◌≤◌, ℤ, List, [], ◌∷◌, ◌++◌, length, take, drop, reverse, refl, ap, sym, ◌∙◌, arith}
use Rattle.std.proofs.lemmas.List.{length-append, length-drop, length-reverse, length-take-le, reverse-append, reverse-reverse, take-append-drop, take-take, take_at, drop-take}
use Rattle.rb_code.specs.WordMachine.Act.{arguments, below}

arguments_are : (p : ℕ) (xs : List ℤ) → arguments p xs ≡ reverse (take p xs)
arguments_are zero xs = refl
arguments_are (suc p) [] = refl
arguments_are (suc p) (x ∷ xs) = ap (λ (l : List ℤ). l ++ x ∷ []) (arguments_are p xs) ∙ sym (reverse-append (x ∷ []) (take p xs))

below_are : (p : ℕ) (xs : List ℤ) → below p xs ≡ drop p xs
below_are zero xs = refl
below_are (suc p) [] = refl
below_are (suc p) (x ∷ xs) = below_are p xs

drop_at : (p q : List ℤ) (n : ℕ) → length p ≡ n → drop n (p ++ q) ≡ q
drop_at [] q zero e = refl
drop_at [] q (suc n) e = absurd (omega arith)
drop_at (x ∷ p) q zero e = absurd (omega arith)
drop_at (x ∷ p) q (suc n) e = drop_at p q n (omega arith)

module _ (xs : List ℤ) (p : ℕ) (h : p ≤ length xs) where
  turned : reverse xs ≡ reverse (drop (length xs - p) xs) ++ reverse (take (length xs - p) xs)
  turned = ap reverse (sym (take-append-drop (length xs - p) xs)) ∙ reverse-append (take (length xs - p) xs) (drop (length xs - p) xs)

  long : length (reverse (drop (length xs - p) xs)) ≡ p
  long = length-reverse (drop (length xs - p) xs) ∙ length-drop (length xs - p) xs ∙ (let e : length xs - (length xs - p) ≡ p = omega arith in e)

  pub top_are : arguments p (reverse xs) ≡ drop (length xs - p) xs
  top_are =
      arguments_are p (reverse xs) ∙ ap (λ (l : List ℤ). reverse (take p l)) turned
      ∙ ap reverse (take_at (reverse (drop (length xs - p) xs)) (reverse (take (length xs - p) xs)) p long)
      ∙ reverse-reverse (drop (length xs - p) xs)

  pub left_are : below p (reverse xs) ≡ reverse (take (length xs - p) xs)
  left_are =
      below_are p (reverse xs) ∙ ap (drop p) turned
      ∙ drop_at (reverse (drop (length xs - p) xs)) (reverse (take (length xs - p) xs)) p long

-- so many numbers lie in memory as are seen
pub height_is : (vs xs : List ℤ) (h : ℕ) → h ≤ length vs → reverse (take h vs) ≡ xs → h ≡ length xs
height_is vs xs h le e = sym (length-take-le h vs le) ∙ sym (length-reverse (take h vs)) ∙ ap length e

pub arguments_long : (p : ℕ) (xs : List ℤ) → p ≤ length xs → length (arguments p xs) ≡ p
arguments_long zero xs h = refl
arguments_long (suc p) [] h = absurd (omega arith)
arguments_long (suc p) (x ∷ xs) h =
    let e = arguments_long p xs (omega arith) in length-append (arguments p xs) (x ∷ []) ∙ ap (λ n. n + 1) e
    ∙ (let k : p + 1 ≡ suc p = omega arith in k)

-- the same of a list in memory that holds so many
module _ (vs : List ℤ) (h p : ℕ) (le : p ≤ h) (room : h ≤ length vs) where
  height : length (take h vs) ≡ h
  height = length-take-le h vs room

  within : p ≤ length (take h vs)
  within = let e = height in omega arith

  pub top_in : take (h - (h - p)) (drop (h - p) vs) ≡ arguments p (reverse (take h vs))
  top_in =
      let whole : (h - p) + (h - (h - p)) ≡ h = omega arith in
      sym (drop-take (h - p) (h - (h - p)) vs) ∙ ap (λ n. drop (h - p) (take n vs)) whole
      ∙ ap (λ n. drop (n - p) (take h vs)) (sym height) ∙ sym (top_are (take h vs) p within)

  pub left_in : reverse (take (h - p) vs) ≡ below p (reverse (take h vs))
  left_in =
      ap reverse (sym (take-take (h - p) h vs (omega arith)) ∙ ap (λ n. take (n - p) (take h vs)) (sym height))
      ∙ sym (left_are (take h vs) p within)
