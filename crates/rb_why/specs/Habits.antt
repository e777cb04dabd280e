-- What is written here in place of what other languages write.
use Rattle.std.specs.Prelude.{ℕ, nat_eq, Bool, ◌&&◌, ◌||◌, cond, List, [], ◌∷◌, codes, Option, option_map}
use Rattle.std.specs.Option.{option_or}
use Rattle.std.specs.List.{find, starts_with}
use Rattle.std.specs.Cmp.Lexicographic.{pointwise}
use Rattle.rb_base.specs.Bytes.{is_name}
use Rattle.rb_base.specs.Reserved.{is_one_of}
use Rattle.rb_why.specs.Likeness.{is_nil}
use Rattle.rb_why.specs.declared.habits.Habit.{Habit}

-- A habit: the token before, what may stand here, what stands here instead, and what to write. Of the first two, nothing is anything.
pub record Row : Type 0 where
  pub before : List ℕ
  pub wanted : List ℕ
  pub here : List ℕ
  pub words : List ℕ

abbrev pub habit : List ℕ → List ℕ → List ℕ → List ℕ → Row
habit before wanted here words = record { before = before; wanted = wanted; here = here; words = words }

-- the row of a habit as the program keeps it
abbrev pub row_of : Habit → Row
row_of kept = habit kept.before.now kept.wanted.now kept.here.now kept.words.now

-- habits of marks; the first bytes of a typographic quote and of a blank that breaks no line are no ASCII
abbrev pub of_marks : List Row
of_marks =
    habit [] [] (codes "!=") (codes "write `<>` for unequal")
    ∷ habit [] [] (codes "!") (codes "write `not`, as in `not x = 1`")
    ∷ habit [] [] (codes "&") (codes "write `and`")
    ∷ habit [] [] (codes "|") (codes "write `or`")
    ∷ habit [] [] (codes "'") (codes "a text stands between two `\"`")
    ∷ habit [] [] (226 ∷ 128 ∷ []) (codes "write the quotes and dashes of ASCII: `\"` and `-`")
    ∷ habit [] [] (194 ∷ 160 ∷ []) (codes "a blank that breaks no line stands here: write a plain one")
    ∷ habit [] [] (codes "//") (codes "a comment begins with `#` and ends with its line")
    ∷ habit (codes "/") [] (codes "/") (codes "a comment begins with `#` and ends with its line")
    ∷ habit [] [] (codes "/*") (codes "a comment begins with `#` and ends with its line")
    ∷ habit (codes "/") [] (codes "*") (codes "a comment begins with `#` and ends with its line")
    ∷ habit [] (codes ":=") (codes "=") (codes "write `:=` to assign, as in `x := 1;`")
    ∷ habit (codes "=") [] (codes "=") (codes "write one `=` to compare")
    ∷ habit [] (codes ":=") (codes "++") (codes "write `x := x + 1;`")
    ∷ habit [] (codes ":=") (codes "--") (codes "write `x := x - 1;`")
    ∷ habit [] (codes ":=") (codes "+=") (codes "write `x := x + 1;`")
    ∷ habit [] (codes ":=") (codes "-=") (codes "write `x := x - 1;`")
    ∷ habit [] (codes ":=") (codes "*=") (codes "write `x := x * 2;`")
    ∷ habit [] (codes ":=") (codes "/=") (codes "write `x := x / 2;`")
    ∷ habit [] (codes ":=") (codes "(") (codes "write `call` before the name of a procedure")
    ∷ habit (codes "}") [] (codes ";") (codes "no `;` stands behind a block")
    ∷ []

-- habits of words
abbrev pub of_words : List Row
of_words =
    habit (codes "else") [] (codes "if") (codes "a block follows `else`: write `else { if x { } }`")
    ∷ habit (codes "elif") [] [] (codes "a block follows `else`: write `else { if x { } }`")
    ∷ habit (codes "elsif") [] [] (codes "a block follows `else`: write `else { if x { } }`")
    ∷ habit (codes "elseif") [] [] (codes "a block follows `else`: write `else { if x { } }`")
    ∷ habit [] (codes "{") (codes "then") (codes "no `then` stands before a block")
    ∷ habit [] (codes "{") (codes "do") (codes "no `do` stands before a block")
    ∷ habit [] (codes "{") (codes "begin") (codes "a block stands between `{` and `}`")
    ∷ habit [] (codes "%") (codes "mod") (codes "write `%` for the remainder")
    ∷ habit [] (codes "/") (codes "div") (codes "write `/` for the quotient")
    ∷ habit [] [] (codes "true") (codes "write 1 for true and 0 for false")
    ∷ habit [] [] (codes "false") (codes "write 1 for true and 0 for false")
    ∷ habit (codes "let") (codes ":=") [] (codes "a variable is declared by `var x;`, at the front of its block")
    ∷ habit (codes "int") (codes ":=") [] (codes "a variable is declared by `var x;`, at the front of its block")
    ∷ habit (codes "for") (codes ":=") [] (codes "write `while`: there is no `for`")
    ∷ habit (codes "return") (codes ":=") [] (codes "there is no `return`: a procedure ends with its block")
    ∷ habit (codes "break") (codes ":=") [] (codes "there is no `break`: a loop ends where its condition is 0")
    ∷ habit (codes "every") (codes "[") [] (codes "`every`, `some` and `sum` are words of edition 2: begin the source with `edition 2;`")
    ∷ habit (codes "some") (codes "[") [] (codes "`every`, `some` and `sum` are words of edition 2: begin the source with `edition 2;`")
    ∷ habit (codes "sum") (codes "[") [] (codes "`every`, `some` and `sum` are words of edition 2: begin the source with `edition 2;`")
    ∷ []

-- a word stands here as the whole token, and marks as the first bytes
abbrev pub stands_here : List ℕ → List ℕ → List ℕ → Bool
stands_here token bytes here = cond (is_name here) (pointwise nat_eq token here) (starts_with nat_eq bytes here)

-- whether a habit fits behind the token before, where these may stand, at this token and the bytes from it on
abbrev pub fits : List ℕ → List (List ℕ) → List ℕ → List ℕ → Row → Bool
fits before may token bytes row =
    (is_nil row.before || pointwise nat_eq row.before before)
    && ((is_nil row.wanted || is_one_of may row.wanted) && stands_here token bytes row.here)

-- what the first of these says that fits
abbrev pub first_that_fits : (Row → Bool) → List Row → Option (List ℕ)
first_that_fits does_fit rows = option_map (λ row. row.words) (find does_fit rows)

-- what the first habit that fits says
abbrev pub habit_words : List ℕ → List (List ℕ) → List ℕ → List ℕ → Option (List ℕ)
habit_words before may token bytes =
    option_or (first_that_fits (fits before may token bytes) of_marks) (first_that_fits (fits before may token bytes) of_words)
