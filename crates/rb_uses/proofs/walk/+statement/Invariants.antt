use Rattle.std.proofs.Common.{◌≡◌, drop}
use Rattle.rb_syntax.specs.Plain.{alternates_of, commands_of, tree}
use Rattle.rb_meaning.specs.Nesting.{uses_in, uses_in_alternates}
use Rattle.rb_uses.specs.Memory.{spot_of, with_uses}
use Rattle.rb_uses.proofs.walk.+statement.Given as goal

-- the uses so far, and those in the other statements
abbrev pub invariant-uses_in_statements-loop-statement : goal.invariant-uses_in_statements-loop-statement
invariant-uses_in_statements-loop-statement l =
    let whole = tree l.spot.program.now in
    let others = uses_in (spot_of l.spot) (commands_of (drop l.statement-index l.statements)) in
    with_uses whole l.uses.items others ≡ with_uses whole l.fn.uses.items (uses_in (spot_of l.spot) (commands_of l.statements))

-- the uses so far, and those in the other alternates
abbrev pub invariant-uses_in_alternates-loop-block : goal.invariant-uses_in_alternates-loop-block
invariant-uses_in_alternates-loop-block l =
    let whole = tree l.spot.program.now in
    let all = uses_in_alternates (spot_of l.spot) (alternates_of l.alternates) in
    let others = uses_in_alternates (spot_of l.spot) (alternates_of (drop l.block-index l.alternates)) in
    with_uses whole l.uses.items others ≡ with_uses whole l.fn.uses.items all
