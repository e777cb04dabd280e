-- What is asked of the mark of an open level, and how many turns it has used.
use Rattle.std.specs.Prelude.{ℕ, ◌-◌, Bool, false, nat_lt, Option, Some, None}
use Rattle.rb_world.specs.World.{is_number}
use Rattle.rb_recoverable.specs.declared.recoverable.LevelMark.{LevelMark}

-- a mark of this conversation
abbrev pub is_mark_in : ℕ → LevelMark → Bool
is_mark_in c mark = is_number mark.facts.conversation c

-- the innermost mark is one of this conversation
abbrev pub is_last_mark_in : ℕ → Option LevelMark → Bool
is_last_mark_in c None = false
is_last_mark_in c (Some mark) = is_mark_in c mark

-- the turns that a mark has used, by the clock
abbrev pub mark_used : ℕ → LevelMark → ℕ
mark_used clock mark = clock - mark.since

-- a mark that has used more turns than its bound
abbrev pub is_mark_over : ℕ → LevelMark → Bool
is_mark_over clock mark = nat_lt mark.facts.bound (mark_used clock mark)

-- a mark that began one turn earlier, with no deadline for the levels around it
abbrev pub earlier : LevelMark → LevelMark
earlier mark = record mark { since = mark.since - 1; around = 0 }
