use Rattle.std.proofs.Common.{◌+◌, ℕ, ℤ, pos, List, drop, sym, arith}
use Rattle.std.specs.Prelude.{slice_get}
use Rattle.std.proofs.lemmas.Option.{get_or_from_slice_get}
use Rattle.rb_world.proofs.ListFacts.{slice_get-there}
use Rattle.rb_trace.proofs.Written.{written_nothing, written_more, written_part, written_all}
use Rattle.rb_trace.specs.Naming.{variable_naming}
use Rattle.rb_changes.specs.Changes.{value_change}
use Rattle.rb_changes.specs.Numbered.{numbered}
use Rattle.rb_changes.proofs.Parts.{numbered_at, numbered_over}
use Rattle.rb_changes.proofs.variables.write_values.Goals as goal

pub loop-k-init : goal.loop-k-init
loop-k-init g c = written_nothing _ _ _

pub loop-k-preserved : goal.loop-k-preserved
loop-k-preserved g c =
    let text : ℕ → ℤ → List ℕ = λ k value. value_change c.args.turn c.args.process.now (variable_naming c.args.variable.now) k (slice_get c.args.was.now k) value in
    let xs = c.args.now.now in
    let i = c.loop-k.k in
    let found = slice_get-there xs i (omega (arith, c.loop-k-test.true)) in
    let next = numbered_at text i i xs found.0 (pos 0) (omega (arith, c.loop-k-test.true))
    (sym (get_or_from_slice_get xs i found.0 (pos 0) found.1)) in
    written_more _ _ (text i found.0) (numbered text (i + 1) (drop (i + 1) xs)) _ _ _ _ _ _
    c.loop-k.invariant next (c.in_ok-write_changed.ensures found.0 found.1)

pub returns-in_err-write_changed : goal.returns-in_err-write_changed
returns-in_err-write_changed g c =
    let text : ℕ → ℤ → List ℕ = λ k value. value_change c.args.turn c.args.process.now (variable_naming c.args.variable.now) k (slice_get c.args.was.now k) value in
    let xs = c.args.now.now in
    let i = c.loop-k.k in
    let found = slice_get-there xs i (omega (arith, c.loop-k-test.true)) in
    let next = numbered_at text i i xs found.0 (pos 0) (omega (arith, c.loop-k-test.true))
    (sym (get_or_from_slice_get xs i found.0 (pos 0) found.1)) in
    written_part _ _ (text i found.0) (numbered text (i + 1) (drop (i + 1) xs)) _ _ _ _ _ _ _
    c.from_residual.result c.loop-k.invariant next (c.in_err-write_changed.ensures found.0 found.1) c.from_residual.ensures.0

pub returns : goal.returns
returns g c =
    written_all _ _ _ _ _ _ c.loop-k.invariant
    (numbered_over (λ k value. value_change c.args.turn c.args.process.now (variable_naming c.args.variable.now) k (slice_get c.args.was.now k) value) _ _ c.args.now.now (omega (arith, c.loop-k-test.false)))
