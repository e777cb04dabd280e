use Rattle.std.proofs.Common.{◌≡◌, ◌≤◌, ◌++◌, map, vec_capacity, vec_len}
use Rattle.rb_syntax.specs.Plain.{tree}
use Rattle.rb_levels.specs.Worlds.{process_of}
use Rattle.rb_plain.proofs.Opening.{opened_from}
use Rattle.rb_plain.proofs.playing.opening.Given as goal

-- these processes, and those from this one on, are all, and there is room for them
abbrev pub invariant-loop-number : goal.invariant-loop-number
invariant-loop-number l =
    let declared = l.program.processes.items in
    record {
      same : map process_of l.processes.items ++ opened_from (tree l.program) l.number declared ≡ opened_from (tree l.program) 0 declared;
      many : vec_len l.processes ≡ l.number;
      room : vec_len l.program.processes ≤ vec_capacity l.processes;
    }
