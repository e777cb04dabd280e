-- What a session writes: for each `show` line how a process stands, and its variables, as the ending of a run tells them.
use Rattle.std.specs.Prelude.{◌+◌, ◌-◌, ℕ, ℤ, List, [], ◌∷◌, ◌++◌, codes, decimal, map, slice_get, take, Option, Some, None}
use Rattle.rb_base.specs.Lines.{belonging}
use Rattle.rb_base.specs.declared.event.State.{State}
use Rattle.rb_syntax.specs.Tree.{Tree}
use Rattle.rb_world.specs.Kind.{Membership}
use Rattle.rb_world.specs.Text.{Final, Naming, ProcessNaming, line_of}
use Rattle.rb_trace.specs.Ended.{process_text, state_of, words_printed}
use Rattle.rb_meaning.specs.Meaning.{final_of, naming_of, run_of}
use Rattle.rb_code.specs.Instructions.Plain.{Code}
use Rattle.rb_code.specs.WordMachine.WordRun.{word_final, word_run}
use Rattle.rb_script.specs.declared.order.Order.{Order}
use Rattle.rb_script.specs.declared.order.Order.TheVariants.{Forth, Back, Show}

-- the text of a process, which stands so, with these words
abbrev pub process_shown : Option ProcessNaming → Option State → List ℤ → List ℕ
process_shown None state words = []
process_shown (Some process) None words = []
process_shown (Some process) (Some state) words = process_text process state words

-- and how many words of it that is
abbrev pub words_shown : Option ProcessNaming → ℕ
words_shown None = 0
words_shown (Some process) = words_printed process

-- the line of a position
abbrev pub position_line : ℕ → List ℕ
position_line position = line_of (codes "at" ∷ decimal position ∷ [])

-- what is shown of process number p at a position, where processes stand so, with these words
abbrev pub shown_text : Naming → ℕ → ℕ → List State → List (List ℤ) → List ℕ
shown_text names position p states words =
    position_line position ++ process_shown (slice_get names.processes p) (slice_get states p) (belonging words p)

-- the same of how a run ended
abbrev pub final_shown : Naming → ℕ → ℕ → Final → List ℕ
final_shown names position p final = shown_text names position p (map state_of final.statuses) final.words

-- what is shown of the run over the first turns up to a position: of a code's, and of the meaning's
abbrev pub word_shown : Code → List Membership → List ℕ → ℕ → ℕ → List ℕ
word_shown c groups turns position p = final_shown c.names position p (word_final c (word_run c groups (take position turns)).0)

abbrev pub tree_shown : Tree → List ℕ → ℕ → ℕ → List ℕ
tree_shown tree turns position p = final_shown (naming_of tree) position p (final_of tree (run_of tree (take position turns)).0)

-- what is written where orders are followed from a position, each `show` at the position that those before it lead to
abbrev pub all_shown : (ℕ → ℕ → List ℕ) → ℕ → List Order → List ℕ
all_shown show position [] = []
all_shown show position (Forth n ∷ orders) = all_shown show (position + n) orders
all_shown show position (Back n ∷ orders) = all_shown show (position - n) orders
all_shown show position (Show p ∷ orders) = show position p ++ all_shown show position orders

-- the text of a session over these turns: by a code, and by the meaning
abbrev pub session_text : Code → List Membership → List ℕ → List Order → List ℕ
session_text c groups turns orders = all_shown (word_shown c groups turns) 0 orders

abbrev pub tree_session_text : Tree → List ℕ → List Order → List ℕ
tree_session_text tree turns orders = all_shown (tree_shown tree turns) 0 orders
