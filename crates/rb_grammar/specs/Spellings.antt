-- Spellings in memory.
use Rattle.std.specs.Prelude.{ℕ, List}
use Rattle.std.specs.Borrow.{Bor}
use Rattle.rb_grammar.specs.declared.terminal.Terminal.{Terminal}
use Rattle.rb_grammar.specs.Terminals.{Spelling}

-- a row of the table in memory
abbrev pub spelling_of : Bor (List ℕ) × Terminal → Spelling
spelling_of held = (held.0.now, held.1)
