-- Questions to the elements of a list.
use Rattle.std.specs.Prelude.{List, [], ◌∷◌, Option, None}
use Rattle.rb_meaning.specs.Environment.{or_else}

-- the first answer that one of a list gives
abbrev pub first_answer : {A B : Type 0} → (A → Option B) → List A → Option B
first_answer question [] = None
first_answer question (one ∷ others) = or_else (question one) (first_answer question others)
