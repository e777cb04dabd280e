use Rattle.std.proofs.Common.{◌+◌, ℕ, List, drop, refl, arith}
use Rattle.std.specs.Prelude.{slice_get}
use Rattle.rb_trace.proofs.Written.{written_nothing, written_more, written_part, written_all}
use Rattle.rb_changes.specs.Changes.{level_change}
use Rattle.rb_changes.specs.Numbered.{numbered}
use Rattle.rb_changes.specs.declared.noted.OpenLevel.{OpenLevel}
use Rattle.rb_changes.proofs.Parts.{numbered_at, numbered_over}
use Rattle.rb_changes.proofs.levels.write_each.Goals as goal

pub loop-k-init : goal.loop-k-init
loop-k-init g c = written_nothing _ _ _

pub loop-k-preserved : goal.loop-k-preserved
loop-k-preserved g c =
    let text : ℕ → OpenLevel → List ℕ = λ k level. level_change c.args.turn c.args.process.now (k + 1) (slice_get c.args.was.now k) level in
    let xs = c.args.now.now in
    let i = c.loop-k.k in
    let next = numbered_at text i i xs _ _ (omega (arith, c.loop-k-test.true)) refl in
    written_more _ _ _ (numbered text (i + 1) (drop (i + 1) xs)) _ _ _ _ _ _
    c.loop-k.invariant next c.in_ok-write_changed.ensures

pub returns-in_err-write_changed : goal.returns-in_err-write_changed
returns-in_err-write_changed g c =
    let text : ℕ → OpenLevel → List ℕ = λ k level. level_change c.args.turn c.args.process.now (k + 1) (slice_get c.args.was.now k) level in
    let xs = c.args.now.now in
    let i = c.loop-k.k in
    let next = numbered_at text i i xs _ _ (omega (arith, c.loop-k-test.true)) refl in
    written_part _ _ _ (numbered text (i + 1) (drop (i + 1) xs)) _ _ _ _ _ _ _
    c.from_residual.result c.loop-k.invariant next c.in_err-write_changed.ensures c.from_residual.ensures.0

pub returns : goal.returns
returns g c =
    written_all _ _ _ _ _ _ c.loop-k.invariant
    (numbered_over (λ k level. level_change c.args.turn c.args.process.now (k + 1) (slice_get c.args.was.now k) level) _ _ c.args.now.now (omega (arith, c.loop-k-test.false)))
