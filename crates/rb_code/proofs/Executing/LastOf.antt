-- The innermost level, which is the last of the levels from the outermost in and the first of their reverse.
use Rattle.std.proofs.Common.{◌≡◌, List, [], ◌∷◌, ◌++◌, length, map, reverse, Option, Some, None, option_map, refl, ap, sym, ◌∙◌, arith}
use Rattle.std.proofs.lemmas.List.{reverse-append, reverse-reverse}
use Rattle.rb_world.specs.World.{Level, copy_of, last_of, without_last}
use Rattle.rb_world.proofs.LastLevels.{last_of-map, without_last-map}
use Rattle.rb_world.proofs.ListFacts.{none_some, some_same}
use Rattle.rb_code.specs.WordMachine.Turn.{Copy, prior_words}
use Rattle.rb_code.specs.SoundCode.Stands.{Levels, Opened, inside_out, opened}
use Rattle.rb_code.proofs.Executing.Needs.{former_words}

pub last_of-end : {A : Type 0} (xs : List A) (x : A) → last_of (xs ++ x ∷ []) ≡ Some x
last_of-end [] x = refl
last_of-end (y ∷ []) x = refl
last_of-end (y ∷ z ∷ xs) x = last_of-end (z ∷ xs) x

pub without_last-end : {A : Type 0} (xs : List A) (x : A) → without_last (xs ++ x ∷ []) ≡ xs
without_last-end [] x = refl
without_last-end (y ∷ []) x = refl
without_last-end (y ∷ z ∷ xs) x = ap (λ l. y ∷ l) (without_last-end (z ∷ xs) x)

-- a list by the first of its reverse
pub reverse_is : {A : Type 0} (xs : List A) (x : A) (others : List A) → reverse xs ≡ x ∷ others → xs ≡ reverse others ++ x ∷ []
reverse_is xs x others e = sym (reverse-reverse xs) ∙ (ap reverse e ∙ reverse-append (x ∷ []) others)

pub reverse_none : {A : Type 0} (xs : List A) → reverse xs ≡ [] → xs ≡ []
reverse_none xs e = sym (reverse-reverse xs) ∙ ap reverse e

-- the innermost of the open levels
pub last_level : (levels : List (Level Copy)) (x : Opened) (others : Levels) → inside_out levels ≡ x ∷ others
    → option_map opened (last_of levels) ≡ Some x
last_level levels x others e =
    sym (last_of-map opened levels) ∙ (ap last_of (reverse_is (map opened levels) x others e) ∙ last_of-end (reverse others) x)

pub without_innermost : (levels : List (Level Copy)) (x : Opened) (others : Levels) → inside_out levels ≡ x ∷ others
    → inside_out (without_last levels) ≡ others
without_innermost levels x others e =
    ap reverse (sym (without_last-map opened levels))
    ∙ (ap (λ l. reverse (without_last l)) (reverse_is (map opened levels) x others e)
    ∙ (ap reverse (without_last-end (reverse others) x) ∙ reverse-reverse others))

-- what `prior` reads is the copy of the innermost level
pub former_is : (levels : List (Level Copy)) → prior_words (copy_of (last_of levels)) ≡ former_words (inside_out levels)
former_is levels = by (inside_out levels) refl (last_of levels) refl
  where
    none_mapped : (l : List (Level Copy)) → map opened l ≡ [] → l ≡ []
    none_mapped [] e = refl
    none_mapped (x ∷ l) e = absurd (let n = ap length e in omega arith)

    by : (inner : Levels) → inside_out levels ≡ inner → (o : Option (Level Copy)) → last_of levels ≡ o
        → prior_words (copy_of (last_of levels)) ≡ former_words inner
    by [] e o f = ap (λ l. prior_words (copy_of (last_of l))) (none_mapped levels (reverse_none (map opened levels) e))
    by (x ∷ others) e None f = absurd (none_some (sym (ap (option_map opened) f) ∙ last_level levels x others e))
    by (x ∷ others) e (Some level) f =
        ap (λ p. prior_words (copy_of p)) f
        ∙ ap (λ y. y.copy.words) (some_same (sym (ap (option_map opened) f) ∙ last_level levels x others e))
