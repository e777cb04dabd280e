-- The parts of a machine are tied again once a line was lent.
use Rattle.std.proofs.Common.{◌<◌, length, sym, subst}
use Rattle.std.proofs.lemmas.List.{length-map}
use Rattle.rb_code.specs.Instructions.Plain.{code as plain}
use Rattle.rb_proc.specs.Process.{Seen as Process}
use Rattle.rb_machine.specs.Machine.{Seen}
use Rattle.rb_machine.proofs.Releasing.LentAtWork.{tied_again}
use Rattle.rb_machine.proofs.machine.MachineLines.released.Goals as goal

pub invariant_of-self : goal.invariant_of-self
invariant_of-self g c =
    let inside = c.self.inside in
    tied_again (plain inside.code.now) inside.parts c.released.follows.lender-at-none inside.running.items inside.taken inside.most inside.released inside.resting c.args.p
    c.self.invariant c.released.follows.holds-at-none

pub released-requires : goal.released-requires
released-requires g c =
    subst (λ n. c.args.p < n) (length-map c.self.inside.parts.procs.items (λ (one : Process). one.waiting))
    (subst (λ (m : Seen). c.args.p < length m.waiting) (sym c.self.view_is) c.requires)
