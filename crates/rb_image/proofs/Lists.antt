-- The formats of texts and of lists.
use Rattle.std.proofs.Common.{◌≡◌, ℕ, zero, suc, ◌*◌, ◌/◌, ◌^◌, ◌<◌, ◌≤◌, false, cond, ltb, List, [], ◌∷◌, ◌++◌, length, take, drop, Some, None, refl, sym, ap, ◌∙◌, subst, arith, append_assoc}
use Rattle.std.specs.List.{AllByRecursion, flat_map}
use Rattle.std.proofs.lemmas.Bool.{ltb-false, ltb-true, le-ltb, lt-ltb}
use Rattle.std.proofs.lemmas.List.{take_at, drop_at, length-append, length-take}
use Rattle.std.proofs.Math.Nat.{le-div_iff_mul-le}
use Rattle.rb_image.specs.Pieces.{list, natural, text}
use Rattle.rb_image.specs.Ranges.{Are, AreFew, IsText}
use Rattle.rb_image.specs.Reading.{◌>>=◌, Reading, few_at, items_at, list_at, text_at, word_at}
use Rattle.rb_image.proofs.Formats.{IsBytes, IsFormat, Takes, bind_some, not_stopped, some_is, taken_both, tested_is}
use Rattle.rb_image.proofs.Numbers.{cut_is, word_is}

text_takes : (bytes rest one : List ℕ) → IsBytes bytes → text_at bytes ≡ Some (one, rest) → Takes bytes (text one) rest × IsText one
unfolding text_at
text_takes bytes rest one fits e =
    let b = bind_some (word_at bytes) (λ n. cond (ltb (length n.1) n.0) None (Some (take n.0 n.1, drop n.0 n.1))) (one, rest) e in
    let n = b.0.0 in
    let behind = b.0.1 in
    let t = word_is.takes bytes behind n fits b.1 in
    let g = not_stopped (ltb (length behind) n) (Some (take n behind, drop n behind)) (one, rest) b.2 in
    let long : n ≤ length behind = ltb-false _ _ g.0 in
    let len : length (take n behind) ≡ n = omega (arith, length-take n behind) in
    let whole : Takes bytes (natural n ++ take n behind) (drop n behind) =
    taken_both bytes (natural n) behind (take n behind) (drop n behind) t.0 (cut_is n behind t.0.rest_fits) in
    let counted : Takes bytes (text (take n behind)) (drop n behind) =
    subst (λ (k : ℕ). Takes bytes (natural k ++ take n behind) (drop n behind)) (sym len) whole in
    subst (λ (p : List ℕ × List ℕ). Takes bytes (text p.0) p.1 × IsText p.0) (some_is (take n behind, drop n behind) (one, rest) g.1)
    (counted, omega (arith, t.1))

text_again : (one rest : List ℕ) → IsText one → text_at (text one ++ rest) ≡ Some (one, rest)
unfolding text_at
text_again one rest lt =
    let long : ltb (length (one ++ rest)) (length one) ≡ false = le-ltb _ _ (omega (arith, length-append one rest)) in
    ap text_at (append_assoc (natural (length one)) one rest)
    ∙ rw (word_is.again (length one) (one ++ rest) lt, long, take_at one rest (length one) refl, drop_at one rest (length one) refl) refl

pub text_is : IsFormat text text_at IsText
text_is = record { takes = text_takes; again = text_again }

module _ {X : Type 0} (item : X → List ℕ) (reading : Reading X) (Fits : X → Type 0) (one : IsFormat item reading Fits) where
  items_take : (n : ℕ) (bytes rest : List ℕ) (xs : List X) → IsBytes bytes → items_at reading n bytes ≡ Some (xs, rest)
      → Takes bytes (flat_map item xs) rest × (length xs ≡ n) × AllByRecursion Fits xs
  unfolding items_at
  items_take zero bytes rest xs fits e =
      subst (λ (p : List X × List ℕ). Takes bytes (flat_map item p.0) p.1 × (length p.0 ≡ 0) × AllByRecursion Fits p.0)
      (some_is ([], bytes) (xs, rest) e) (record { parts = refl; rest_fits = fits }, refl, tt)
  items_take (suc n) bytes rest xs fits e =
      let a = bind_some (reading bytes) (λ first. items_at reading n first.1 >>= λ others. Some (first.0 ∷ others.0, others.1)) (xs, rest) e in
      let b = bind_some (items_at reading n a.0.1) (λ others. Some (a.0.0 ∷ others.0, others.1)) (xs, rest) a.2 in
      let t = one.takes bytes a.0.1 a.0.0 fits a.1 in
      let u = items_take n a.0.1 b.0.1 b.0.0 t.0.rest_fits b.1 in
      subst (λ (p : List X × List ℕ). Takes bytes (flat_map item p.0) p.1 × (length p.0 ≡ suc n) × AllByRecursion Fits p.0)
      (some_is (a.0.0 ∷ b.0.0, b.0.1) (xs, rest) b.2)
      (taken_both bytes (item a.0.0) a.0.1 (flat_map item b.0.0) b.0.1 t.0 u.0, ap suc u.1, (t.1, u.2))

  items_again : (xs : List X) (rest : List ℕ) → AllByRecursion Fits xs → items_at reading (length xs) (flat_map item xs ++ rest) ≡ Some (xs, rest)
  unfolding items_at
  items_again [] rest fits = refl
  items_again (x ∷ xs) rest fits =
      ap (items_at reading (suc (length xs))) (append_assoc (item x) (flat_map item xs) rest)
      ∙ rw (one.again x (flat_map item xs ++ rest) fits.0, items_again xs rest fits.1) refl

  module _ (least : ℕ) (some : 0 < least) (long : (x : X) → least ≤ length (item x)) where
    items_long : (xs : List X) → length xs * least ≤ length (flat_map item xs)
    items_long [] = omega arith
    items_long (x ∷ xs) = omega (arith, long x, items_long xs, length-append (item x) (flat_map item xs))

    list_takes : (bytes rest : List ℕ) (xs : List X) → IsBytes bytes → list_at least reading bytes ≡ Some (xs, rest)
        → Takes bytes (list item xs) rest × Are Fits xs
    unfolding list_at
    list_takes bytes rest xs fits e =
        let b = bind_some (word_at bytes) (λ n. cond (ltb (length n.1 / least) n.0) None (items_at reading n.0 n.1)) (xs, rest) e in
        let n = b.0.0 in
        let behind = b.0.1 in
        let t = word_is.takes bytes behind n fits b.1 in
        let g = not_stopped (ltb (length behind / least) n) (items_at reading n behind) (xs, rest) b.2 in
        let u = items_take n behind rest xs t.0.rest_fits g.1 in
        let whole : Takes bytes (natural n ++ flat_map item xs) rest = taken_both bytes (natural n) behind (flat_map item xs) rest t.0 u.0 in
        let counted : Takes bytes (list item xs) rest =
        subst (λ (k : ℕ). Takes bytes (natural k ++ flat_map item xs) rest) (sym u.1) whole in
        (counted, (omega (arith, t.1, u.1), u.2))

    list_again : (xs : List X) (rest : List ℕ) → Are Fits xs → list_at least reading (list item xs ++ rest) ≡ Some (xs, rest)
    unfolding list_at
    list_again xs rest fits =
        let room : ltb (length (flat_map item xs ++ rest) / least) (length xs) ≡ false = le-ltb _ _ ((le-div_iff_mul-le some).1 (omega (arith, items_long xs, length-append (flat_map item xs) rest))) in
        ap (list_at least reading) (append_assoc (natural (length xs)) (flat_map item xs) rest)
        ∙ rw (word_is.again (length xs) (flat_map item xs ++ rest) fits.0, room, items_again xs rest fits.1) refl

    pub list_is : IsFormat (list item) (list_at least reading) (Are Fits)
    list_is = record { takes = list_takes; again = list_again }

    pub few_is : IsFormat (list item) (few_at least reading) (AreFew Fits)
    unfolding few_at
    few_is =
        tested_is (λ (xs : List X). ltb (length xs) (2 ^ 32)) (AreFew Fits) (λ xs fits passes. (fits, ltb-true (length xs) (2 ^ 32) passes))
        (λ xs fits. (fits.0, lt-ltb (length xs) (2 ^ 32) fits.1)) list_is
