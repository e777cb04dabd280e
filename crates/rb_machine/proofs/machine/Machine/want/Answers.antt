-- What is wanted by the code of a machine is wanted by the code that contracts see.
use Rattle.std.proofs.Common.{List, slice_get, ap, ◌∙◌}
use Rattle.rb_proc.specs.Process.{Seen as Process, wanted_of}
use Rattle.rb_machine.specs.Machine.{Seen}
use Rattle.rb_recovery.specs.Worlds.{processes_of}
use Rattle.rb_machine.proofs.ReadAt.{process_listed}
use Rattle.rb_machine.proofs.machine.Machine.want.Goals as goal

pub returns : goal.returns
returns g c q e =
    let p = c.args.p in
    c.want_at.ensures q
    (ap (λ (procs : List Process). slice_get (processes_of procs) p) c.deref.ensures.value
    ∙ ap (λ (m : Seen). slice_get m.world.processes p) c.self.view_is ∙ e)
    ∙ ap (λ (m : Seen). wanted_of m.code q) c.self.view_is

pub want_at-requires-clause-process : goal.want_at-requires-clause-process
want_at-requires-clause-process g c =
    process_listed _ _ _ c.args.p c.deref.ensures.value (ap (λ (m : Seen). m.world.processes) c.self.view_is) c.requires
