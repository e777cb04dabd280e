-- The trace of the code of an accepted source is that of the source's meaning.
use Rattle.std.specs.Prelude.{◌≡◌, ℕ, List}
use Rattle.rb_base.specs.declared.names.Nested.{Nested}
use Rattle.rb_syntax.specs.Tree.{Tree}
use Rattle.rb_meaning.specs.Groups.{groups_of}
use Rattle.rb_nest.specs.Groups.{alternates}
use Rattle.rb_nest.specs.Nest.{IsNest}
use Rattle.rb_code.specs.Agreement.Places.{places_told}
use Rattle.rb_code.specs.Instructions.Plain.{Code}
use Rattle.rb_picture.specs.Meant.{tree_trace_text}
use Rattle.rb_picture.specs.Trace.{trace_text}

-- over every list of turns, with the conversations as nesting finds them, and the places that the turns of the code have in the source
abbrev pub TracesAsMeant : Tree → Code → Type 0
TracesAsMeant tree c = (nested : Nested) (turns : List ℕ) → IsNest tree nested
    → trace_text c (groups_of tree) (alternates nested) (places_told tree c.instrs) turns ≡ tree_trace_text tree turns
