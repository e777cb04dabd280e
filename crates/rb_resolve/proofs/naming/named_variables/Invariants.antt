use Rattle.std.proofs.Common.{◌≡◌, ◌++◌, ◌+◌, ◌≤◌, length, map, vec_capacity, vec_len}
use Rattle.rb_syntax.specs.Plain.{declaration}
use Rattle.rb_meaning.specs.Meaning.{variables_named}
use Rattle.rb_trace.specs.Naming.{variable_naming}
use Rattle.rb_resolve.proofs.naming.named_variables.Given as goal

-- those so far are named, and the others come after them; there is room for these
abbrev pub invariant-variables : goal.invariant-variables
invariant-variables l = record {
  all : map variable_naming l.named.items ++ variables_named l.at (map declaration l.rest) ≡ variables_named 0 (map declaration l.fn.variables);
  room : vec_len l.named + length l.rest ≤ vec_capacity l.named;
}

abbrev pub decreases-variables : goal.decreases-variables
decreases-variables l = length l.rest
