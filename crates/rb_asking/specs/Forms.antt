-- What the words of a program with commands ask for, by a table of its commands.
use Rattle.std.specs.Prelude.{ℕ, nat_eq, cond, List, [], ◌∷◌, Option, None}
use Rattle.std.specs.List.{list_all}
use Rattle.std.specs.Cmp.Lexicographic.{pointwise}
use Rattle.rb_words.specs.Plain.{is_plain_word}

-- the name of a command, and what it asks for with the words that follow
pub record Form (R : Type 0) : Type 0 where
  pub name : List ℕ
  pub with : List (List ℕ) → Option R

-- what the first of these commands that has this name asks for with these words
abbrev pub named_in : {R : Type 0} → List (Form R) → List ℕ → List (List ℕ) → Option R
named_in [] name words = None
named_in (form ∷ others) name words = cond (pointwise nat_eq form.name name) (form.with words) (named_in others name words)

-- what words ask for: the first is the name of a command, and plain words follow as that command takes them
abbrev pub asked_by : {R : Type 0} → List (Form R) → List (List ℕ) → Option R
asked_by forms [] = None
asked_by forms (name ∷ words) = cond (list_all is_plain_word words) (named_in forms name words) None
