use Rattle.std.proofs.Common.{◌≡◌, ◌+◌, length, map}
use Rattle.rb_syntax.specs.Plain.{declaration}
use Rattle.rb_scope.specs.Scopes.{words_in}
use Rattle.rb_faults.proofs.rules.words_in.Given as goal

-- the words so far and those of the other variables
abbrev pub invariant-variables : goal.invariant-variables
invariant-variables l = l.total + words_in (map declaration l.rest) ≡ words_in (map declaration l.fn.variables)

abbrev pub decreases-variables : goal.decreases-variables
decreases-variables l = length l.rest
