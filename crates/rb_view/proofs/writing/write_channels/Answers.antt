use Rattle.std.proofs.Common.{ℕ, List, ◌+◌, drop, arith}
use Rattle.std.specs.Prelude.{slice_get}
use Rattle.rb_trace.proofs.Written.{written_nothing, written_more, written_part, written_all}
use Rattle.rb_changes.specs.Changes.{change_of, channel_changes}
use Rattle.rb_view.specs.Steady.{shown_now}
use Rattle.rb_changes.specs.Numbered.{numbered}
use Rattle.rb_changes.proofs.Parts.{numbered_at, numbered_over}
use Rattle.rb_view.proofs.writing.write_channels.Goals as goal

pub loop-c-init : goal.loop-c-init
loop-c-init g c = written_nothing _ _ _

pub loop-c-preserved : goal.loop-c-preserved
loop-c-preserved g c =
    let text : ℕ → List ℕ → List ℕ =
    λ k name. change_of (channel_changes c.args.turn name) (slice_get c.args.told.now k) (slice_get (shown_now c.args.machine.now).channels k) in
    let xs = c.args.names.now in
    let i = c.loop-c.c in
    let next = numbered_at text i i xs c.index-names-c.result _ (omega (arith, c.loop-c-test.true)) c.index-names-c.is in
    written_more _ _ (text i c.index-names-c.result) (numbered text (i + 1) (drop (i + 1) xs)) _ _ _ _ _ _
    c.loop-c.invariant next c.in_ok-write_channel_at.ensures

pub returns-in_err-write_channel_at : goal.returns-in_err-write_channel_at
returns-in_err-write_channel_at g c =
    let text : ℕ → List ℕ → List ℕ =
    λ k name. change_of (channel_changes c.args.turn name) (slice_get c.args.told.now k) (slice_get (shown_now c.args.machine.now).channels k) in
    let xs = c.args.names.now in
    let i = c.loop-c.c in
    let next = numbered_at text i i xs c.index-names-c.result _ (omega (arith, c.loop-c-test.true)) c.index-names-c.is in
    written_part _ _ (text i c.index-names-c.result) (numbered text (i + 1) (drop (i + 1) xs)) _ _ _ _ _ _ _
    c.from_residual.result c.loop-c.invariant next c.in_err-write_channel_at.ensures c.from_residual.ensures.0

pub returns : goal.returns
returns g c =
    let text : ℕ → List ℕ → List ℕ =
    λ k name. change_of (channel_changes c.args.turn name) (slice_get c.args.told.now k) (slice_get (shown_now c.args.machine.now).channels k) in
    written_all _ _ _ _ _ _ c.loop-c.invariant (numbered_over text _ _ c.args.names.now (omega (arith, c.loop-c-test.false)))
