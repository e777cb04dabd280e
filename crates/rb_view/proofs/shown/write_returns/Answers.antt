use Rattle.std.proofs.Common.{ℕ, List, [], ◌+◌, drop, map, arith}
use Rattle.std.specs.Prelude.{slice_get}
use Rattle.rb_trace.proofs.Written.{written_nothing, written_more, written_part, written_all}
use Rattle.rb_trace.specs.Naming.{process_naming}
use Rattle.rb_world.specs.Text.{ProcessNaming}
use Rattle.rb_changes.specs.Changes.{back_of, change_of}
use Rattle.rb_changes.specs.Noted.{shown_with}
use Rattle.rb_changes.specs.Numbered.{numbered}
use Rattle.rb_changes.proofs.Parts.{numbered_end, numbered_next}
use Rattle.rb_view.specs.Noting.{processes_noted}
use Rattle.rb_view.proofs.shown.write_returns.Goals as goal

pub loop-p-init : goal.loop-p-init
loop-p-init g c = written_nothing _ _ _

pub loop-p-preserved : goal.loop-p-preserved
loop-p-preserved g c =
    let text : ℕ → ProcessNaming → List ℕ =
    λ p process. change_of (back_of c.args.turn process) (slice_get (processes_noted c.args.told.now) p) (slice_get (map (shown_with []) c.args.now.now) p) in
    let xs = c.args.processes.now in
    let i = c.loop-p.p in
    let next = numbered_next text process_naming i i xs c.index-processes-p.result _ (omega (arith, c.loop-p-test.true)) c.index-processes-p.is in
    written_more _ _ (text i (process_naming c.index-processes-p.result)) (numbered text (i + 1) (drop (i + 1) (map process_naming xs))) _ _ _ _ _ _
    c.loop-p.invariant next c.in_ok-write_return_at.ensures

pub returns-in_err-write_return_at : goal.returns-in_err-write_return_at
returns-in_err-write_return_at g c =
    let text : ℕ → ProcessNaming → List ℕ =
    λ p process. change_of (back_of c.args.turn process) (slice_get (processes_noted c.args.told.now) p) (slice_get (map (shown_with []) c.args.now.now) p) in
    let xs = c.args.processes.now in
    let i = c.loop-p.p in
    let next = numbered_next text process_naming i i xs c.index-processes-p.result _ (omega (arith, c.loop-p-test.true)) c.index-processes-p.is in
    written_part _ _ (text i (process_naming c.index-processes-p.result)) (numbered text (i + 1) (drop (i + 1) (map process_naming xs))) _ _ _ _ _ _ _
    c.from_residual.result c.loop-p.invariant next c.in_err-write_return_at.ensures c.from_residual.ensures.0

pub returns : goal.returns
returns g c =
    let text : ℕ → ProcessNaming → List ℕ =
    λ p process. change_of (back_of c.args.turn process) (slice_get (processes_noted c.args.told.now) p) (slice_get (map (shown_with []) c.args.now.now) p) in
    written_all _ _ _ _ _ _ c.loop-p.invariant
    (numbered_end text process_naming _ _ c.args.processes.now (omega (arith, c.loop-p-test.false)))
