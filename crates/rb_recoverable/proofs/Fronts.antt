-- The lines that were held at entries are the first of those that are held.
use Rattle.std.proofs.Common.{◌≡◌, ℕ, zero, suc, ◌+◌, ◌-◌, ◌<◌, ℤ, pos, Bool, true, false, cond, List, [], ◌∷◌, ◌++◌, length, take, reverse, replicate, refl, ap, sym, ◌∙◌, subst, arith}
use Rattle.std.specs.Prelude.{nat_le, slice_set}
use Rattle.std.proofs.lemmas.Bool.{leb-true, le-leb}
use Rattle.std.proofs.lemmas.List.{reverse-append, length-append, take_at}
use Rattle.std.proofs.lemmas.List.Sums.{sum_by-cons}
use Rattle.rb_meaning.specs.Environment.{natural}
use Rattle.rb_hold.specs.Held.{IsLengthOf, held_bytes}
use Rattle.rb_code.specs.WordMachine.Workspace.{cut_held, held_place, word_at}
use Rattle.rb_recoverable.specs.Inside.{Fronts, IsFront, told}

-- where the cut has its bytes, what follows does not matter
cut_none : (more : List (List ℕ)) (n : ℕ) → 0 ≡ n → cut_held n more ≡ []
cut_none [] n e = refl
cut_none (line ∷ more) n e = by (nat_le (length line + 1) n) refl
  where
    by : (b : Bool) → nat_le (length line + 1) n ≡ b → cond b (line ∷ cut_held (n - (length line + 1)) more) [] ≡ []
    by false q = refl
    by true q = absurd (omega (arith, e, leb-true (length line + 1) n q))

pub held_cons : (line : List ℕ) (lines : List (List ℕ)) → held_bytes (line ∷ lines) ≡ (length line + 1) + held_bytes lines
held_cons line lines = sum_by-cons (λ (l : List ℕ). length l + 1) line lines

pub cut-append : (lines more : List (List ℕ)) (n : ℕ) → held_bytes (cut_held n lines) ≡ n → cut_held n (lines ++ more) ≡ cut_held n lines
cut-append [] more n e = cut_none more n e
cut-append (line ∷ lines) more n e = by (λ k q. cut-append lines more k q) (nat_le (length line + 1) n) refl e
  where
    by : ((k : ℕ) → held_bytes (cut_held k lines) ≡ k → cut_held k (lines ++ more) ≡ cut_held k lines)
        → (b : Bool) → nat_le (length line + 1) n ≡ b → held_bytes (cond b (line ∷ cut_held (n - (length line + 1)) lines) []) ≡ n
        → cond b (line ∷ cut_held (n - (length line + 1)) (lines ++ more)) [] ≡ cond b (line ∷ cut_held (n - (length line + 1)) lines) []
    by rest false q e = refl
    by rest true q e =
        let le = leb-true (length line + 1) n q in
        let whole = held_cons line (cut_held (n - (length line + 1)) lines) in
        let left : held_bytes (cut_held (n - (length line + 1)) lines) ≡ n - (length line + 1) = omega (arith, e, le, whole) in
        ap (λ (ls : List (List ℕ)). line ∷ ls) (rest (n - (length line + 1)) left)

-- all lines are the first ones with their bytes
cut_cons : (line : List ℕ) (lines : List (List ℕ)) (k n : ℕ) → n ≡ (length line + 1) + k → cut_held n (line ∷ lines) ≡ line ∷ cut_held k lines
cut_cons line lines k n e =
    let less : n - (length line + 1) ≡ k = omega (arith, e) in
    ap (λ b. cond b (line ∷ cut_held (n - (length line + 1)) lines) []) (le-leb (length line + 1) n (omega (arith, e)))
    ∙ ap (λ k. line ∷ cut_held k lines) less

pub cut_all : (lines : List (List ℕ)) → cut_held (held_bytes lines) lines ≡ lines
cut_all [] = refl
cut_all (line ∷ lines) =
    cut_cons line lines (held_bytes lines) (held_bytes (line ∷ lines)) (held_cons line lines)
    ∙ ap (λ (ls : List (List ℕ)). line ∷ ls) (cut_all lines)

-- what is cut comes first
pub cut_split : (lines : List (List ℕ)) (n : ℕ) → (rest : List (List ℕ)) × (lines ≡ cut_held n lines ++ rest)
cut_split [] n = ([], refl)
cut_split (line ∷ lines) n = by (cut_split lines (n - (length line + 1))) (nat_le (length line + 1) n)
  where
    by : (rest : List (List ℕ)) × (lines ≡ cut_held (n - (length line + 1)) lines ++ rest)
        → (b : Bool) → (rest : List (List ℕ)) × (line ∷ lines ≡ cond b (line ∷ cut_held (n - (length line + 1)) lines) [] ++ rest)
    by h false = (line ∷ lines, refl)
    by h true = (h.0, ap (λ (ls : List (List ℕ)). line ∷ ls) h.1)

-- so many of them stand first
pub cut_length : (lines : List (List ℕ)) (n : ℕ) → held_bytes (cut_held n lines) ≡ n → IsLengthOf n (length (cut_held n lines)) lines
cut_length lines n e =
    let h = cut_split lines n in
    let k = length (cut_held n lines) in
    let long : length lines ≡ k + length h.0 = ap length h.1 ∙ length-append (cut_held n lines) h.0 in
    (omega arith, ap (λ (ls : List (List ℕ)). held_bytes (take k ls)) h.1 ∙ ap held_bytes (take_at (cut_held n lines) h.0 k refl) ∙ e)

pub cut_take : (lines : List (List ℕ)) (n : ℕ) → take (length (cut_held n lines)) lines ≡ cut_held n lines
cut_take lines n =
    let h = cut_split lines n in
    ap (λ (ls : List (List ℕ)). take (length (cut_held n lines)) ls) h.1 ∙ take_at (cut_held n lines) h.0 (length (cut_held n lines)) refl

-- the bytes that words tell of
pub told_is : (words : List ℤ) (n : ℕ) → word_at words held_place ≡ pos n → told words ≡ n
told_is words n e = ap natural e

front_told : (lines : List (List ℕ)) (words : List ℤ) → IsFront lines words → held_bytes (cut_held (told words) lines) ≡ told words
front_told lines words h = sym (told_is words _ h.bytes)

-- more lines
pub fronts_more : (lines more : List (List ℕ)) (copied : List (List ℤ)) → Fronts lines copied → Fronts (lines ++ more) copied
fronts_more lines more [] h = tt
fronts_more lines more (words ∷ outer) h =
    let e = cut-append lines more (told words) (front_told lines words h.0) in (
      record { some = h.0.some; bytes = h.0.bytes ∙ ap (λ (ls : List (List ℕ)). pos (held_bytes ls)) (sym e) },
      subst (λ (ls : List (List ℕ)). Fronts ls outer) (sym e) h.1,
    )

-- without the innermost copy
pub fronts_out : (lines : List (List ℕ)) (words : List ℤ) (outer : List (List ℤ)) → Fronts lines (words ∷ outer) → Fronts lines outer
fronts_out lines words outer h =
    let s = cut_split lines (told words) in
    subst (λ (ls : List (List ℕ)). Fronts ls outer) (sym s.1) (fronts_more (cut_held (told words) lines) s.0 outer h.1)

-- words that tell of all lines are the innermost copy
pub front_new : (lines : List (List ℕ)) (words : List ℤ) → 0 < length words → word_at words held_place ≡ pos (held_bytes lines) → IsFront lines words
front_new lines words some e = record {
  some = some;
  bytes = e ∙ ap (λ (ls : List (List ℕ)). pos (held_bytes ls))
      (sym (ap (λ n. cut_held n lines) (told_is words (held_bytes lines) e) ∙ cut_all lines));
}

pub cut_to_all : (lines : List (List ℕ)) (words : List ℤ) → word_at words held_place ≡ pos (held_bytes lines) → cut_held (told words) lines ≡ lines
cut_to_all lines words e = ap (λ n. cut_held n lines) (told_is words (held_bytes lines) e) ∙ cut_all lines

pub fronts_open : (lines : List (List ℕ)) (words : List ℤ) (copied : List (List ℤ)) → 0 < length words
    → word_at words held_place ≡ pos (held_bytes lines)
    → Fronts lines (reverse copied) → Fronts lines (reverse (copied ++ words ∷ []))
fronts_open lines words copied some e h =
    subst (Fronts lines) (sym (reverse-append copied (words ∷ []))) (
      front_new lines words some e,
      subst (λ (ls : List (List ℕ)). Fronts ls (reverse copied)) (sym (cut_to_all lines words e)) h,
    )

-- the innermost copy goes
pub ends_with : {A : Type 0} (xs : List A) → 0 < length xs → (ys : List A) × (y : A) × (xs ≡ ys ++ y ∷ [])
ends_with [] h = absurd (omega arith)
ends_with (x ∷ []) h = ([], x, refl)
ends_with {A} (x ∷ y ∷ ys) h =
    let e = ends_with (y ∷ ys) (omega arith) in (x ∷ e.0, e.1, ap (λ (zs : List A). x ∷ zs) e.2)

pub take_front : {A : Type 0} (xs : List A) (x : A) → take (length (xs ++ x ∷ []) - 1) (xs ++ x ∷ []) ≡ xs
take_front xs x =
    let e : length (xs ++ x ∷ []) - 1 ≡ length xs = omega (arith, length-append xs (x ∷ [])) in take_at xs (x ∷ []) _ (sym e)

pub fronts_accept : (lines : List (List ℕ)) (copied : List (List ℤ)) (n : ℕ) → n ≡ length copied → 0 < n → Fronts lines (reverse copied)
    → Fronts lines (reverse (take (n - 1) copied))
fronts_accept lines copied n e some h =
    let s = ends_with copied (omega arith) in
    let shorter : take (n - 1) copied ≡ s.0 =
    ap (λ k. take (k - 1) copied) e ∙ ap (λ (cs : List (List ℤ)). take (length cs - 1) cs) s.2 ∙ take_front s.0 s.1 in
    let turned : reverse copied ≡ s.1 ∷ reverse s.0 = ap reverse s.2 ∙ reverse-append s.0 (s.1 ∷ []) in
    subst (λ (cs : List (List ℤ)). Fronts lines (reverse cs)) (sym shorter) (fronts_out lines s.1 (reverse s.0) (subst (Fronts lines) turned h))

-- the held length stays where other words change, and where words come and go above it
pub held_set : (words : List ℤ) (at : ℕ) (v : ℤ) → 0 < at → word_at (slice_set words at v) held_place ≡ word_at words held_place
held_set words zero v h = absurd (omega arith)
held_set [] (suc at) v h = refl
held_set (w ∷ words) (suc at) v h = refl

pub held_more : (words more : List ℤ) → 0 < length words → word_at (words ++ more) held_place ≡ word_at words held_place
held_more [] more h = absurd (omega arith)
held_more (w ∷ words) more h = refl

pub held_cut : (words : List ℤ) (n : ℕ) → 0 < n → word_at (take n words) held_place ≡ word_at words held_place
held_cut words zero h = absurd (omega arith)
held_cut [] (suc n) h = refl
held_cut (w ∷ words) (suc n) h = refl

pub held_written : (words : List ℤ) (v : ℤ) → 0 < length words → word_at (slice_set words held_place v) held_place ≡ v
held_written [] v h = absurd (omega arith)
held_written (w ∷ words) v h = refl

pub held_none : (n : ℕ) → 0 < n → word_at (replicate n (pos 0)) held_place ≡ pos 0
held_none zero h = absurd (omega arith)
held_none (suc n) h = refl
