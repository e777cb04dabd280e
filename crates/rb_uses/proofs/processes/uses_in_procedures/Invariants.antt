use Rattle.std.proofs.Common.{◌≡◌, drop, map}
use Rattle.rb_syntax.specs.Plain.{procedure_declaration, tree}
use Rattle.rb_meaning.specs.Nesting.{uses_in_procedures}
use Rattle.rb_uses.specs.Memory.{with_uses}
use Rattle.rb_uses.proofs.processes.uses_in_procedures.Given as goal

-- the uses so far, and those in the other procedures
abbrev pub invariant-loop-procedure : goal.invariant-loop-procedure
invariant-loop-procedure l =
    let whole = tree l.spot.program.now in
    let all = uses_in_procedures l.spot.process (map procedure_declaration l.procedures) in
    let others = uses_in_procedures l.spot.process (map procedure_declaration (drop l.procedure-index l.procedures)) in
    with_uses whole l.uses.items others ≡ with_uses whole l.fn.uses.items all
