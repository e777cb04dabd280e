-- What a process asks of its next turn, by what is read of it.
use Rattle.std.specs.Prelude.{ℕ, Bool, true, false, Option, Some, None}
use Rattle.rb_recoverable.specs.declared.level_view.LevelView.{LevelView}
use Rattle.rb_proc.specs.declared.answers.Wanted.{Wanted}
use Rattle.rb_proc.specs.declared.answers.Wanted.TheVariants as wanted
use Rattle.rb_picture.specs.declared.asked.Asked.{Asked}
use Rattle.rb_picture.specs.declared.asked.Asked.TheVariants as asked

-- the start of the alternate that a level tries
abbrev pub start_seen : Option LevelView → Asked
start_seen None = asked.Start 0 0
start_seen (Some view) = asked.Start view.block view.alternate

-- what is asked where this is wanted, with the conversation of a test line and what a start would be
abbrev pub asked_by : Wanted → Option ℕ → Asked → Asked
asked_by wanted.Idle line start = asked.Nothing
asked_by wanted.Line line start = asked.Line line
asked_by (wanted.Room c) line start = asked.Room c
asked_by (wanted.Message c) line start = asked.Message c
asked_by (wanted.Maybe c) line start = asked.Maybe c
asked_by (wanted.Entry b) line start = asked.Entry b
asked_by wanted.Start line start = start
asked_by wanted.Step line start = asked.Step

abbrev pub is_line : Wanted → Bool
is_line wanted.Line = true
is_line _ = false
