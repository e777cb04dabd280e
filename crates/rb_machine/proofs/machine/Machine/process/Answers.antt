use Rattle.std.proofs.Common.{List, slice_get, ap, sym, ◌∙◌}
use Rattle.rb_proc.specs.Process.{Seen as Proc}
use Rattle.rb_recovery.specs.Worlds.{processes_of}
use Rattle.rb_machine.specs.Machine.{Seen}
use Rattle.rb_machine.proofs.ReadAt.{process_listed}
use Rattle.rb_machine.proofs.machine.Machine.process.Goals as goal

pub process_at-requires : goal.process_at-requires
process_at-requires g c =
    process_listed _ _ _ c.args.p c.deref.ensures.value (ap (λ (m : Seen). m.world.processes) c.self.view_is) c.requires

pub returns-clause-number : goal.returns-clause-number
returns-clause-number g c =
    (c.self.invariant.work.known.placed c.args.p c.process_at.result.now.process
    (ap (λ (procs : List Proc). slice_get (processes_of procs) c.args.p) (sym c.deref.ensures.value) ∙ c.process_at.ensures)).number
