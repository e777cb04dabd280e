-- The formats of numbers, and of what stands behind one.
use Rattle.std.proofs.Common.{◌≡◌, ℕ, ℤ, pos, ◌^◌, ◌<◌, ◌≤◌, false, cond, ltb, List, ◌++◌, length, take, drop, Some, None, refl, sym, ap, subst, arith, inl, inr, ◌+◌}
use Rattle.std.specs.Prelude.{FitsSigned}
use Rattle.std.specs.Int.{w64, from_be_bytes, cast_signed, cast_unsigned}
use Rattle.std.proofs.lemmas.Bool.{cases_lt, ltb-false, ltb-true, le-ltb, lt-ltb}
use Rattle.std.proofs.lemmas.List.{take_at, drop_at, take-append-drop, length-append, length-take, get_or-drop, get_or-take, get_or_past}
use Rattle.std.proofs.lemmas.Int.{to_z-of_z, of_z-to_z}
use Rattle.std.proofs.Math.Facts.{Fits-of_z, sfits_to_z}
use Rattle.std.proofs.lemmas.Nat.{be_bytes_8, from_be_bytes-to_be_bytes_8}
use Rattle.rb_image.specs.Pieces.{natural, number}
use Rattle.rb_image.specs.Ranges.{IsNatural}
use Rattle.rb_image.specs.Reading.{Reading, integer_at, natural_at, word_at}
use Rattle.rb_image.proofs.Formats.{IsBytes, IsFormat, Takes, made_is, not_stopped, some_is, tested_is}

IsBytes-drop : (n : ℕ) (bytes : List ℕ) → IsBytes bytes → IsBytes (drop n bytes)
IsBytes-drop n bytes h i = rw get_or-drop (h (n + i))

IsBytes-take : (n : ℕ) (bytes : List ℕ) → IsBytes bytes → IsBytes (take n bytes)
IsBytes-take n bytes h i =
    elim (cases_lt i n) [
      | inl lt ↦ rw (get_or-take n bytes i 0 lt) (h i)
      | inr le ↦ rw (get_or_past (take n bytes) i 0 (omega (arith, length-take n bytes))) (omega arith)
    ]

-- the front of the bytes, and what is behind it
pub cut_is : (n : ℕ) (bytes : List ℕ) → IsBytes bytes → Takes bytes (take n bytes) (drop n bytes)
cut_is n bytes fits = record { parts = sym (take-append-drop n bytes); rest_fits = IsBytes-drop n bytes fits }

-- what eight bytes are worth, and the eight bytes of a number
record IsWide (spell : ℕ → List ℕ) (worth : List ℕ → ℕ) : Type 0 where
  len : (n : ℕ) → length (spell n) ≡ 8
  back : (bytes : List ℕ) → length bytes ≡ 8 → IsBytes bytes → spell (worth bytes) ≡ bytes
  again : (n : ℕ) → n < 2 ^ 64 → worth (spell n) ≡ n
  below : (bytes : List ℕ) → IsBytes bytes → worth bytes < 2 ^ 64

wide : IsWide natural (from_be_bytes w64)
unfolding number
wide = record {
  len = λ n. refl;
  back = λ bytes len fits. be_bytes_8 bytes _ len fits refl;
  again = λ n lt. from_be_bytes-to_be_bytes_8 n lt;
  below = λ bytes fits. omega (arith, fits 0, fits 1, fits 2, fits 3, fits 4, fits 5, fits 6, fits 7);
}

abbrev eight_at : (List ℕ → ℕ) → Reading ℕ
eight_at worth bytes = cond (ltb (length bytes) 8) None (Some (worth (take 8 bytes), drop 8 bytes))

eight_takes : (spell : ℕ → List ℕ) (worth : List ℕ → ℕ) → IsWide spell worth → (bytes rest : List ℕ) (n : ℕ) → IsBytes bytes
    → eight_at worth bytes ≡ Some (n, rest) → Takes bytes (spell n) rest × (n < 2 ^ 64)
eight_takes spell worth eight bytes rest n fits e =
    let front = take 8 bytes in
    let g = not_stopped (ltb (length bytes) 8) (Some (worth front, drop 8 bytes)) (n, rest) e in
    let long : 8 ≤ length bytes = ltb-false _ _ g.0 in
    let fits_front = IsBytes-take 8 bytes fits in
    let spelled : spell (worth front) ≡ front = eight.back front (omega (arith, length-take 8 bytes)) fits_front in
    subst (λ (p : ℕ × List ℕ). Takes bytes (spell p.0) p.1 × (p.0 < 2 ^ 64)) (some_is (worth front, drop 8 bytes) (n, rest) g.1)
    (subst (λ (s : List ℕ). Takes bytes s (drop 8 bytes)) (sym spelled) (cut_is 8 bytes fits), eight.below front fits_front)

eight_again : (spell : ℕ → List ℕ) (worth : List ℕ → ℕ) → IsWide spell worth → (n : ℕ) (rest : List ℕ) → n < 2 ^ 64
    → eight_at worth (spell n ++ rest) ≡ Some (n, rest)
eight_again spell worth eight n rest lt =
    let len = eight.len n in
    let long : ltb (length (spell n ++ rest)) 8 ≡ false = le-ltb _ _ (omega (arith, length-append (spell n) rest)) in
    rw (long, take_at (spell n) rest 8 len, drop_at (spell n) rest 8 len, eight.again n lt) refl

pub word_is : IsFormat natural word_at (λ n. n < 2 ^ 64)
unfolding word_at
word_is = record { takes = eight_takes natural (from_be_bytes w64) wide; again = eight_again natural (from_be_bytes w64) wide }

pub natural_is : IsFormat natural natural_at IsNatural
unfolding natural_at
natural_is =
    tested_is (λ n. ltb n (2 ^ 32)) IsNatural (λ n _ passes. ltb-true n (2 ^ 32) passes)
    (λ n fits. (omega arith, lt-ltb n (2 ^ 32) fits)) word_is

-- the length of a number's bytes
pub length-natural : (n : ℕ) → length (natural n) ≡ 8
unfolding number
length-natural n = refl

pub length-number : (n : ℤ) → length (number n) ≡ 8
unfolding number
length-number n = refl

spelled_same : (n : ℕ) → n < 2 ^ 64 → number (cast_signed w64 n) ≡ natural n
unfolding number
spelled_same n lt = ap (λ (m : ℕ). number (pos m)) (of_z-to_z w64 n lt)

pub integer_is : IsFormat number integer_at (FitsSigned w64)
unfolding integer_at
integer_is =
    made_is (cast_signed w64) (cast_unsigned w64) number (FitsSigned w64) (λ z fits. to_z-of_z w64 z fits) spelled_same
    (λ n lt. sfits_to_z {w = w64} record { fits = lt }) (λ z fits. (Fits-of_z {w = w64} fits).fits) word_is
