use Rattle.std.proofs.Common.{ap, sym, ◌∙◌}
use Rattle.std.proofs.lemmas.Simd.{map-map}
use Rattle.rb_world.specs.World.{Process}
use Rattle.rb_code.specs.WordMachine.Turn.{Copy, Standing}
use Rattle.rb_proc.specs.Process.{Seen}
use Rattle.rb_machine.specs.Telling.{is_running}
use Rattle.rb_machine.proofs.Written.{all_written, more_written}
use Rattle.rb_machine.proofs.telling.note_running.Goals as goal

pub loop-p-preserved : goal.loop-p-preserved
loop-p-preserved g c =
    more_written (λ (one : Seen). is_running one.process.status) c.args.procs.now c.args.running.now c.loop-p.running c.loop-p.p
    c.index-procs-p.result c.runs.result c.loop-p-test.true c.requires c.loop-p.invariant c.index-procs-p.is
    (c.runs.ensures ∙ ap is_running c.status.ensures)

pub returns : goal.returns
returns g c =
    all_written (λ (one : Seen). is_running one.process.status) c.args.procs.now c.args.running.now c.loop-p.running c.loop-p.p
    c.loop-p-test.false c.requires c.loop-p.invariant
    ∙ sym (map-map (λ (q : Process Standing Copy). is_running q.status) (λ (one : Seen). one.process) c.args.procs.now)
