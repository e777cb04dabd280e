-- Waiting lines, as they are taken one at a time.
use Rattle.std.proofs.Common.{◌≡◌, ℕ, zero, suc, ◌+◌, ◌<◌, List, [], ◌∷◌, length, drop, slice_get, slice_set, replicate, Some, None, refl, sym, ap, ◌∙◌, subst, drop-cons, add-one}
use Rattle.std.proofs.lemmas.List.{set-set, get_or-set_same, set-get_or, length-set}
use Rattle.std.proofs.lemmas.Option.{unwrap_or-slice_get}
use Rattle.rb_base.specs.Lines.{belonging, next_line, without_next}

-- what belongs to p was put there
pub belonging-set : {X : Type 0} (lists : List (List X)) (p : ℕ) (own : List X) → p < length lists → belonging (slice_set lists p own) p ≡ own
belonging-set lists p own within = unwrap_or-slice_get (slice_set lists p own) p [] ∙ get_or-set_same lists p own [] within

-- it stands where it is
pub set-belonging : {X : Type 0} (lists : List (List X)) (p : ℕ) → slice_set lists p (belonging lists p) ≡ lists
set-belonging lists p = ap (slice_set lists p) (unwrap_or-slice_get lists p []) ∙ set-get_or lists p []

-- the first of some lines
first_of : {X : Type 0} (lines : List X) (line : X) → slice_get lines 0 ≡ Some line → lines ≡ line ∷ drop 1 lines
first_of {X} [] line e = cc
first_of {X} (one ∷ lines) line e = let same : one ≡ line = cc in ap (λ (x : X). x ∷ lines) same

none_of : {X : Type 0} (lines : List X) → slice_get lines 0 ≡ None → lines ≡ []
none_of [] e = refl
none_of (one ∷ lines) e = cc

-- the line that is next, and the others
pub next_first : (waiting : List (List (List ℕ))) (p : ℕ) (line : List ℕ) → next_line waiting p ≡ Some line
    → belonging waiting p ≡ line ∷ drop 1 (belonging waiting p)
next_first waiting p line e = first_of (belonging waiting p) line e

pub next_none : (waiting : List (List (List ℕ))) (p : ℕ) → next_line waiting p ≡ None → belonging waiting p ≡ []
next_none waiting p e = none_of (belonging waiting p) e

-- What one more line that is taken does, where so many of p were taken before.
pub record Taken (first before now : List (List (List ℕ))) (p : ℕ) : Type 0 where
  pub others : now ≡ slice_set first p (belonging now p)
  pub within : p < length now
  pub left : belonging now p ≡ drop 1 (belonging before p)

pub taken : (first before now : List (List (List ℕ))) (p : ℕ) → before ≡ slice_set first p (belonging before p)
    → p < length before → now ≡ without_next before p
    → Taken first before now p
taken first before now p others within is =
    let own = drop 1 (belonging before p) in
    let left : belonging now p ≡ own = ap (λ (lists : List (List (List ℕ))). belonging lists p) is ∙ belonging-set before p own within in
    record {
      others = is ∙ ap (λ (lists : List (List (List ℕ))). slice_set lists p own) others
          ∙ set-set first p (belonging before p) own ∙ ap (slice_set first p) (sym left);
      within = subst (λ (n : ℕ). p < n) (sym (ap length is ∙ length-set before p own)) within;
      left = left;
    }

-- no line of p is left
pub all_taken : (first before now : List (List (List ℕ))) (p : ℕ) → before ≡ slice_set first p (belonging before p)
    → p < length before → now ≡ without_next before p
    → next_line before p ≡ None → now ≡ slice_set first p []
all_taken first before now p others within is none =
    let one = taken first before now p others within is in
    one.others ∙ ap (slice_set first p) (one.left ∙ ap (drop 1) (next_none before p none))

-- the first i lists have nothing more
abbrev pub cleared : ℕ → List (List (List ℕ)) → List (List (List ℕ))
cleared zero lists = lists
cleared (suc i) [] = []
cleared (suc i) (own ∷ lists) = [] ∷ cleared i lists

pub cleared_length : (i : ℕ) (lists : List (List (List ℕ))) → length (cleared i lists) ≡ length lists
cleared_length zero lists = refl
cleared_length (suc i) [] = refl
cleared_length (suc i) (own ∷ lists) = ap suc (cleared_length i lists)

pub cleared_own : (i : ℕ) (lists : List (List (List ℕ))) → belonging (cleared i lists) i ≡ belonging lists i
cleared_own zero lists = refl
cleared_own (suc i) [] = refl
cleared_own (suc i) (own ∷ lists) = cleared_own i lists

pub cleared_next : (i : ℕ) (lists : List (List (List ℕ))) → slice_set (cleared i lists) i [] ≡ cleared (suc i) lists
cleared_next zero [] = refl
cleared_next zero (own ∷ lists) = refl
cleared_next (suc i) [] = refl
cleared_next (suc i) (own ∷ lists) = ap (λ (others : List (List (List ℕ))). [] ∷ others) (cleared_next i lists)

pub cleared_all : (lists : List (List (List ℕ))) → cleared (length lists) lists ≡ replicate (length lists) []
cleared_all [] = refl
cleared_all (own ∷ lists) = ap (λ (others : List (List (List ℕ))). [] ∷ others) (cleared_all lists)

-- the lists from place i on
pub from_own : {X : Type 0} (i : ℕ) (lists : List (List X)) → i < length lists → drop i lists ≡ belonging lists i ∷ drop (i + 1) lists
from_own i lists within =
    drop-cons lists i [] within
    ∙ ap (λ own. own ∷ drop (suc i) lists) (sym (unwrap_or-slice_get lists i []))
    ∙ ap (λ (n : ℕ). belonging lists i ∷ drop n lists) (sym (add-one i))
