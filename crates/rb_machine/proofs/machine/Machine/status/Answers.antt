use Rattle.std.proofs.Common.{ap}
use Rattle.rb_machine.specs.Machine.{Seen}
use Rattle.rb_machine.proofs.ReadAt.{process_listed}
use Rattle.rb_machine.proofs.machine.Machine.status.Goals as goal

pub status_at-requires : goal.status_at-requires
status_at-requires g c =
    process_listed _ _ _ c.args.p c.deref.ensures.value (ap (λ (m : Seen). m.world.processes) c.self.view_is) c.requires
