use Rattle.std.proofs.Common.{length}
use Rattle.rb_domino.proofs.ReadLines.{ReadUpTo}
use Rattle.rb_domino.proofs.history.read_lines.Given as goal

abbrev pub invariant-loop-rest : goal.invariant-loop-rest
invariant-loop-rest l = ReadUpTo l.text l.reader l.at l.rest

abbrev pub decreases-loop-rest : goal.decreases-loop-rest
decreases-loop-rest l = length l.rest
