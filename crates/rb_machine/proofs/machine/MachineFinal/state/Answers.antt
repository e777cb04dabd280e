use Rattle.std.proofs.Common.{◌<◌, length, ap, subst}
use Rattle.std.proofs.lemmas.List.{length-map}
use Rattle.rb_trace.specs.Ended.{state_of}
use Rattle.rb_world.specs.World.{Process}
use Rattle.rb_code.specs.WordMachine.Turn.{Copy, Standing}
use Rattle.rb_machine.specs.Machine.{Seen}
use Rattle.rb_machine.proofs.ReadAt.{process_listed}
use Rattle.rb_machine.proofs.machine.MachineFinal.state.Goals as goal

pub state_at-requires : goal.state_at-requires
state_at-requires g c =
    let there = subst (λ n. c.args.p < n)
    (length-map c.args.self.now.world.processes (λ (q : Process Standing Copy). state_of (q.status, length q.levels))) c.requires in
    process_listed _ _ _ c.args.p c.deref.ensures.value (ap (λ (m : Seen). m.world.processes) c.self.view_is) there
