-- The first habit that fits, of two tables.
use Rattle.std.proofs.Common.{◌≡◌, ◌∙◌, ℕ, Bor, List, Option, Some, None, map, option_map, sym, ap}
use Rattle.std.specs.Option.{option_or}
use Rattle.rb_why.specs.Habits.{Row, first_that_fits, fits, habit_words, of_marks, of_words, row_of}
use Rattle.rb_why.specs.declared.habits.Habit.{Habit}

abbrev now_of : Option (Bor (List ℕ)) → Option (List ℕ)
now_of words = option_map (λ (w : Bor (List ℕ)). w.now) words

abbrev rows_of : List Habit → List Row
rows_of habits = map row_of habits

-- one of the first table
pub in_first : (before : List ℕ) (may : List (List ℕ)) (token bytes : List ℕ) (marks : List Habit) (found : Option (Bor (List ℕ))) (w : Bor (List ℕ))
    → now_of found ≡ first_that_fits (fits before may token bytes) (rows_of marks) → rows_of marks ≡ of_marks → found ≡ Some w
    → now_of (Some w) ≡ habit_words before may token bytes
in_first before may token bytes marks found w e m is =
    ap (λ o. option_or o (first_that_fits (fits before may token bytes) of_words))
    (ap now_of (sym is) ∙ e ∙ ap (first_that_fits (fits before may token bytes)) m)

-- none of the first table, and what the second one has
pub in_second : (before : List ℕ) (may : List (List ℕ)) (token bytes : List ℕ) (marks words : List Habit) (found other : Option (Bor (List ℕ)))
    → now_of found ≡ first_that_fits (fits before may token bytes) (rows_of marks) → rows_of marks ≡ of_marks → found ≡ None
    → now_of other ≡ first_that_fits (fits before may token bytes) (rows_of words) → rows_of words ≡ of_words
    → now_of other ≡ habit_words before may token bytes
in_second before may token bytes marks words found other e m is f n =
    f ∙ ap (first_that_fits (fits before may token bytes)) n
    ∙ ap (λ o. option_or o (first_that_fits (fits before may token bytes) of_words))
    (ap now_of (sym is) ∙ e ∙ ap (first_that_fits (fits before may token bytes)) m)
