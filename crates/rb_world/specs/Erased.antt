-- What erasure speaks of: the lines that were released in a run, each with its turn and its process, and records whose
-- turns rise.
use Rattle.std.specs.Prelude.{ℕ, ◌+◌, ◌<◌, List, [], ◌∷◌, ◌++◌, map}
use Rattle.rb_world.specs.Turn.{Told}
use Rattle.rb_base.specs.declared.kept.Kept.{Kept}

-- a released line, with its turn and the number of its process
pub record Released : Type 0 where
  pub turn : ℕ
  pub process : ℕ
  pub line : List ℕ

-- the lines of turn t, of the processes from number p on
abbrev pub released_from : ℕ → ℕ → List (List (List ℕ)) → List Released
released_from t p [] = []
released_from t p (lines ∷ others) =
    map (λ line. record { turn = t; process = p; line = line }) lines ++ released_from t (p + 1) others

-- all released lines, in their order
abbrev pub released_in : List (ℕ × Told) → List Released
released_in [] = []
released_in ((t, one) ∷ others) = released_from t 0 one.released ++ released_in others

-- what was told of turns, with their numbers from t on
abbrev pub numbered : ℕ → List Told → List (ℕ × Told)
numbered t [] = []
numbered t (one ∷ others) = (t, one) ∷ numbered (t + 1) others

-- every turn of a record is later than turn t, and each is later than the one before it
abbrev pub RisesFrom : ℕ → List Kept → Type 0
RisesFrom t [] = Unit {0}
RisesFrom t (kept ∷ others) = (t < kept.turn) × RisesFrom kept.turn others

-- the turns of a record rise; turns are numbered from 1
abbrev pub Rises : List Kept → Type 0
Rises turns = RisesFrom 0 turns
