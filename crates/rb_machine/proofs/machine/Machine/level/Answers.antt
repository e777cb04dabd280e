use Rattle.std.proofs.Common.{ap}
use Rattle.rb_machine.specs.Machine.{Seen}
use Rattle.rb_machine.proofs.ReadAt.{process_listed}
use Rattle.rb_machine.proofs.machine.Machine.level.Goals as goal

pub level_at-requires-clause-process : goal.level_at-requires-clause-process
level_at-requires-clause-process g c =
    process_listed _ _ _ c.args.p c.deref.ensures.value (ap (λ (m : Seen). m.world.processes) c.self.view_is) c.requires.process
