-- The commands over a source and a schedule: what each asks for, and its text, as the meaning and as the word machine have it.
use Rattle.std.specs.Prelude.{ℕ, List, [], ◌∷◌}
use Rattle.rb_syntax.specs.Tree.{Tree}
use Rattle.rb_world.specs.Kind.{Membership}
use Rattle.rb_world.specs.Text.{record_text}
use Rattle.rb_world.specs.Turn.{told_at_opening}
use Rattle.rb_meaning.specs.Meaning.{run_text}
use Rattle.rb_code.specs.Instructions.Plain.{Code}
use Rattle.rb_code.specs.WordMachine.WordRun.{opening_of, word_run, word_text}
use Rattle.rb_recovery.specs.Survivors.{word_survivors}
use Rattle.rb_stuck.specs.Programs.{tree_standing_text, word_standing_text}
use Rattle.rb_run.specs.Counting.{Counted, told_counts}
use Rattle.rb_verdict.specs.Texts.{survivors_text}
use Rattle.rb_verdict.specs.Words.{Command, Run, Survive, Survey, Request, text_named}
use Rattle.rb_commands.specs.declared.over_schedule.Product.{Product}
use Rattle.rb_commands.specs.declared.over_schedule.Product.TheVariants.{Text, Survivors, Standing}

-- the command that makes it
abbrev pub command_for : Product → Command
command_for Text = Run
command_for Survivors = Survive
command_for Standing = Survey

-- what is asked for with the names of the two files
abbrev pub request_over : Product → List ℕ → List ℕ → Request
request_over product source schedule = record { command = command_for product; files = text_named source ∷ text_named schedule ∷ [] }

-- its text, by the tree of an accepted source and the turns of a schedule
abbrev pub text_for : Product → Tree → List ℕ → List ℕ
text_for Text tree turns = run_text tree turns
text_for Survivors tree turns = survivors_text tree turns
text_for Standing tree turns = tree_standing_text tree turns

-- the same of code and its conversations
abbrev pub word_text_for : Product → Code → List Membership → List ℕ → List ℕ
word_text_for Text code groups turns = word_text code groups turns
word_text_for Survivors code groups turns = record_text code.names (word_survivors (word_run code groups turns).0)
word_text_for Standing code groups turns = word_standing_text code groups turns

-- how many lines of each kind a run of the word machine prints before its ending
abbrev pub word_counts : Code → List Membership → List ℕ → Counted
word_counts code groups turns = told_counts (told_at_opening (opening_of code groups) ∷ (word_run code groups turns).1)
