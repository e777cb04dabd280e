use Rattle.std.proofs.Common.{◌≡◌, ◌++◌, ◌+◌, ◌≤◌, length, map, vec_capacity, vec_len}
use Rattle.rb_syntax.specs.Plain.{process_declaration}
use Rattle.rb_meaning.specs.Meaning.{process_named}
use Rattle.rb_trace.specs.Naming.{process_naming}
use Rattle.rb_resolve.proofs.naming.named_processes.Given as goal

-- those so far are named, and the others come after them; there is room for these
abbrev pub invariant-processes : goal.invariant-processes
invariant-processes l = record {
  all : map process_naming l.named.items ++ map process_named (map process_declaration l.rest)
      ≡ map process_named (map process_declaration l.fn.processes);
  room : vec_len l.named + length l.rest ≤ vec_capacity l.named;
}

abbrev pub decreases-processes : goal.decreases-processes
decreases-processes l = length l.rest
