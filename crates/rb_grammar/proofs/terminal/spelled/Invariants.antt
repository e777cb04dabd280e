use Rattle.std.proofs.Common.{◌≡◌, map, length}
use Rattle.rb_grammar.specs.Terminals.{spelled}
use Rattle.rb_grammar.specs.Spellings.{spelling_of}
use Rattle.rb_grammar.proofs.terminal.spelled.Given as goal

-- what is left answers for all
abbrev pub invariant-loop-rest : goal.invariant-loop-rest
invariant-loop-rest l = spelled l.text (map spelling_of l.rest) ≡ spelled l.fn.text (map spelling_of l.fn.spellings)

abbrev pub decreases-loop-rest : goal.decreases-loop-rest
decreases-loop-rest l = length l.rest
