use Rattle.std.proofs.Common.{◌≡◌, length, map}
use Rattle.rb_syntax.specs.Plain.{declaration}
use Rattle.rb_scope.specs.Sites.{words_sites}
use Rattle.rb_faults.specs.Finding.{visited}
use Rattle.rb_faults.proofs.variables.visit_words.Given as goal

-- what is found, and then behind the other variables
abbrev pub invariant-variables : goal.invariant-variables
invariant-variables l =
    visited l.finder (words_sites l.most l.before (map declaration l.rest))
    ≡ visited l.fn.finder (words_sites l.most 0 (map declaration l.fn.variables))

abbrev pub decreases-variables : goal.decreases-variables
decreases-variables l = length l.rest
