-- How a process's state is told.
use Rattle.std.specs.Prelude.{ℕ, List, [], ◌∷◌, codes, decimal}
use Rattle.rb_base.specs.declared.event.State.{State}
use Rattle.rb_base.specs.declared.event.State.TheVariants.{Done, Failed, Running}

-- the words of a state: done, failed, or open with the number of levels
abbrev pub state_words : State → List (List ℕ)
state_words Done = codes "done" ∷ []
state_words Failed = codes "failed" ∷ []
state_words (Running levels) = codes "open" ∷ decimal levels ∷ []
