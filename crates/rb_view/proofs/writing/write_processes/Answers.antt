use Rattle.std.proofs.Common.{ℕ, List, ◌+◌, drop, map, arith}
use Rattle.rb_code.specs.Instructions.Variables.{VariablesLie}
use Rattle.rb_view.proofs.AtNumber.{zip_at}
use Rattle.std.specs.Prelude.{slice_get}
use Rattle.rb_trace.proofs.Written.{written_nothing, written_more, written_part, written_all}
use Rattle.rb_trace.specs.Naming.{process_naming}
use Rattle.rb_world.specs.Text.{ProcessNaming}
use Rattle.rb_changes.specs.Changes.{change_of, process_changes}
use Rattle.rb_changes.specs.Numbered.{numbered}
use Rattle.rb_changes.proofs.Parts.{numbered_end, numbered_next}
use Rattle.rb_view.specs.Noting.{processes_noted}
use Rattle.rb_view.specs.Steady.{shown_now}
use Rattle.rb_view.proofs.writing.write_processes.Goals as goal

pub loop-p-init : goal.loop-p-init
loop-p-init g c = written_nothing _ _ _

pub loop-p-preserved : goal.loop-p-preserved
loop-p-preserved g c =
    let text : ℕ → ProcessNaming → List ℕ =
    λ p process. change_of (process_changes c.args.turn process) (slice_get (processes_noted c.args.told.now) p) (slice_get (shown_now c.args.machine.now).processes p) in
    let xs = c.args.processes.now in
    let i = c.loop-p.p in
    let next = numbered_next text process_naming i i xs c.index-processes-p.result _ (omega (arith, c.loop-p-test.true)) c.index-processes-p.is in
    written_more _ _ (text i (process_naming c.index-processes-p.result)) (numbered text (i + 1) (drop (i + 1) (map process_naming xs))) _ _ _ _ _ _
    c.loop-p.invariant next c.in_ok-write_process_at.ensures

pub returns-in_err-write_process_at : goal.returns-in_err-write_process_at
returns-in_err-write_process_at g c =
    let text : ℕ → ProcessNaming → List ℕ =
    λ p process. change_of (process_changes c.args.turn process) (slice_get (processes_noted c.args.told.now) p) (slice_get (shown_now c.args.machine.now).processes p) in
    let xs = c.args.processes.now in
    let i = c.loop-p.p in
    let next = numbered_next text process_naming i i xs c.index-processes-p.result _ (omega (arith, c.loop-p-test.true)) c.index-processes-p.is in
    written_part _ _ (text i (process_naming c.index-processes-p.result)) (numbered text (i + 1) (drop (i + 1) (map process_naming xs))) _ _ _ _ _ _ _
    c.from_residual.result c.loop-p.invariant next c.in_err-write_process_at.ensures c.from_residual.ensures.0

pub returns : goal.returns
returns g c =
    let text : ℕ → ProcessNaming → List ℕ =
    λ p process. change_of (process_changes c.args.turn process) (slice_get (processes_noted c.args.told.now) p) (slice_get (shown_now c.args.machine.now).processes p) in
    written_all _ _ _ _ _ _ c.loop-p.invariant
    (numbered_end text process_naming _ _ c.args.processes.now (omega (arith, c.loop-p-test.false)))

pub write_process_at-requires-clause-fit : goal.write_process_at-requires-clause-fit
write_process_at-requires-clause-fit g c part there =
    zip_at VariablesLie c.args.processes.now c.args.machine.now.code.processes c.loop-p.p c.index-processes-p.result _ part c.requires.fit
    (omega (arith, c.loop-p-test.true)) c.index-processes-p.is there
