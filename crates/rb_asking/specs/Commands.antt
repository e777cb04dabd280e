-- What the words of `rbl` ask for. All of it is this project's own.
use Rattle.std.specs.Prelude.{ℕ, List, [], ◌∷◌, codes, Option, None, option_map}
use Rattle.rb_asking.specs.Forms.{Form, asked_by}
use Rattle.rb_words.specs.Given.{with_one, with_three, with_two}
use Rattle.rb_asking.specs.Number.{trial_number}

-- a command with the words that it was given: the names of its files, in their order, or the number of a trial
pub data Asked : Type 0 where
  Run : (source schedule : List ℕ) → Asked
  Survive : (source schedule : List ℕ) → Asked
  Plain : (source kept : List ℕ) → Asked
  Check : (source : List ℕ) → Asked
  Code : (source : List ℕ) → Asked
  Trial : (number : ℕ) → Asked
  Compile : (source : List ℕ) → Asked
  Load : (image schedule : List ℕ) → Asked
  Session : (source schedule session : List ℕ) → Asked
  Domino : (history : List ℕ) → Asked
  Stuck : (source schedule : List ℕ) → Asked

-- what `trial` asks for with its one word
abbrev pub trial_with : List (List ℕ) → Option Asked
trial_with [] = None
trial_with (a ∷ []) = option_map Trial (trial_number a)
trial_with (a ∷ b ∷ more) = None

-- the commands
abbrev pub forms : List (Form Asked)
forms =
    record { name = codes "run"; with = with_two Run }
    ∷ record { name = codes "survive"; with = with_two Survive }
    ∷ record { name = codes "plain"; with = with_two Plain }
    ∷ record { name = codes "check"; with = with_one Check }
    ∷ record { name = codes "code"; with = with_one Code }
    ∷ record { name = codes "trial"; with = trial_with }
    ∷ record { name = codes "compile"; with = with_one Compile }
    ∷ record { name = codes "load"; with = with_two Load }
    ∷ record { name = codes "session"; with = with_three Session }
    ∷ record { name = codes "domino"; with = with_one Domino }
    ∷ record { name = codes "stuck"; with = with_two Stuck } ∷ []

-- what the words ask for, if they give a command
abbrev pub asked_of : List (List ℕ) → Option Asked
asked_of words = asked_by forms words
