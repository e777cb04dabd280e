-- The text of one turn, from its report and the lines that wait.
use Rattle.std.specs.Prelude.{ℕ, Bool, cond, List, [], ◌∷◌, codes, decimal}
use Rattle.rb_base.specs.declared.event.Event.{Event}
use Rattle.rb_base.specs.declared.event.TurnKind.{TurnKind}
use Rattle.rb_world.specs.Turn.{Told}
use Rattle.rb_world.specs.Text.{Naming, process_word, line_of, event_line, is_done}

-- what a turn of this kind, events and released lines tells
abbrev pub told_of : TurnKind → List Event → List (List (List ℕ)) → Told
told_of kind events waiting = record { kind = kind; events = events; released = waiting }

-- the line of an event if it is one of those that are wanted: `done`, or all others
abbrev pub event_if : Naming → ℕ → Bool → Event → List ℕ
event_if names t done event = cond done (cond (is_done event) (event_line names t event) []) (cond (is_done event) [] (event_line names t event))

-- the line of a released line of process p
abbrev pub out_line : Naming → ℕ → ℕ → List ℕ → List ℕ
out_line names t p line = line_of (decimal t ∷ codes "out" ∷ process_word names p ∷ line ∷ [])
