use Rattle.std.proofs.Common.{◌≡◌, drop, map}
use Rattle.rb_syntax.specs.Plain.{process_declaration, tree}
use Rattle.rb_meaning.specs.Nesting.{uses_in_processes}
use Rattle.rb_uses.specs.Memory.{with_uses}
use Rattle.rb_uses.proofs.processes.uses_in_processes.Given as goal

-- the uses so far, and those in the other processes
abbrev pub invariant-loop-number : goal.invariant-loop-number
invariant-loop-number l =
    let whole = tree l.program in
    let others = uses_in_processes l.number (map process_declaration (drop l.number l.processes)) in
    with_uses whole l.uses.items others ≡ with_uses whole l.fn.uses.items (uses_in_processes 0 (map process_declaration l.processes))
