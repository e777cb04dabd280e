-- The most places of a process's words.
use Rattle.std.specs.Prelude.{ℕ}
use Rattle.rb_recoverable.specs.declared.recoverable.TheConstants.{MOST_PLACES}

abbrev pub most_places : ℕ
most_places = MOST_PLACES
