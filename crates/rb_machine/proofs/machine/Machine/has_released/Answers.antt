-- Where it is known that no line waits, none does.
use Rattle.std.proofs.Common.{[], length, replicate, ap, sym, ◌∙◌}
use Rattle.std.proofs.lemmas.List.{length-map}
use Rattle.rb_proc.specs.Process.{Seen as Process}
use Rattle.rb_machine.specs.Machine.{Seen}
use Rattle.rb_machine.proofs.Releasing.LentAtWork.{waits_none}
use Rattle.rb_machine.proofs.machine.Machine.has_released.Goals as goal

pub returns : goal.returns
returns g c e =
    let procs = c.self.inside.parts.procs.items in
    ap (λ (machine : Seen). machine.waiting) (sym c.self.view_is)
    ∙ (waits_none procs (c.self.invariant.none_waits e)
    ∙ (ap (λ n. replicate n []) (sym (length-map procs (λ (one : Process). one.process)))
    ∙ ap (λ (machine : Seen). replicate (length machine.world.processes) []) c.self.view_is))
