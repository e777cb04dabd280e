use Rattle.std.proofs.Common.{ℕ, List, ◌+◌, drop, arith}
use Rattle.std.specs.Prelude.{slice_get}
use Rattle.rb_trace.proofs.Written.{written_nothing, written_more, written_part, written_all}
use Rattle.rb_changes.specs.Changes.{change_of, talk_changes}
use Rattle.rb_view.specs.Noting.{talks_noted}
use Rattle.rb_changes.specs.Numbered.{numbered}
use Rattle.rb_changes.proofs.Parts.{numbered_at, numbered_over}
use Rattle.rb_view.proofs.shown.write_talks.Goals as goal

pub loop-d-init : goal.loop-d-init
loop-d-init g c = written_nothing _ _ _

pub loop-d-preserved : goal.loop-d-preserved
loop-d-preserved g c =
    let text : ℕ → List ℕ → List ℕ =
    λ d name. change_of (talk_changes c.args.turn name) (slice_get (talks_noted c.args.told.now) d) (slice_get (talks_noted c.args.now.now) d) in
    let xs = c.args.names.now in
    let i = c.loop-d.d in
    let next = numbered_at text i i xs c.index-names-d.result _ (omega (arith, c.loop-d-test.true)) c.index-names-d.is in
    written_more _ _ (text i c.index-names-d.result) (numbered text (i + 1) (drop (i + 1) xs)) _ _ _ _ _ _
    c.loop-d.invariant next c.in_ok-write_talk_at.ensures

pub returns-in_err-write_talk_at : goal.returns-in_err-write_talk_at
returns-in_err-write_talk_at g c =
    let text : ℕ → List ℕ → List ℕ =
    λ d name. change_of (talk_changes c.args.turn name) (slice_get (talks_noted c.args.told.now) d) (slice_get (talks_noted c.args.now.now) d) in
    let xs = c.args.names.now in
    let i = c.loop-d.d in
    let next = numbered_at text i i xs c.index-names-d.result _ (omega (arith, c.loop-d-test.true)) c.index-names-d.is in
    written_part _ _ (text i c.index-names-d.result) (numbered text (i + 1) (drop (i + 1) xs)) _ _ _ _ _ _ _
    c.from_residual.result c.loop-d.invariant next c.in_err-write_talk_at.ensures c.from_residual.ensures.0

pub returns : goal.returns
returns g c =
    let text : ℕ → List ℕ → List ℕ =
    λ d name. change_of (talk_changes c.args.turn name) (slice_get (talks_noted c.args.told.now) d) (slice_get (talks_noted c.args.now.now) d) in
    written_all _ _ _ _ _ _ c.loop-d.invariant (numbered_over text _ _ c.args.names.now (omega (arith, c.loop-d-test.false)))
