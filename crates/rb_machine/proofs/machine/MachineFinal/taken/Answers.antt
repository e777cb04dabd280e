-- What is asked to count the values taken from a channel.
use Rattle.std.proofs.Common.{◌<◌, ap, length, ◌∙◌, sym, subst}
use Rattle.rb_code.specs.Instructions.Plain.{code as plain}
use Rattle.rb_machine.specs.Machine.{Seen}
use Rattle.rb_recovery.specs.Reading.{AreCounted, taken_of}
use Rattle.rb_machine.proofs.Passing.CountedAtWork.{counted_at_work}
use Rattle.rb_machine.proofs.Releasing.LentAtWork.{taken_each}
use Rattle.rb_machine.proofs.machine.MachineFinal.taken.Goals as goal

pub taken_on-requires-clause-counted : goal.taken_on-requires-clause-counted
taken_on-requires-clause-counted g c =
    subst (AreCounted (plain c.self.inside.code.now)) (sym c.deref.ensures.value)
    (counted_at_work _ _ _ _ _ _ c.self.invariant.work)

pub taken_on-requires-clause-channel : goal.taken_on-requires-clause-channel
taken_on-requires-clause-channel g c =
    let code = plain c.self.inside.code.now in
    subst (λ n. c.args.channel < n)
    (ap (λ (m : Seen). length (taken_of m.code m.world.processes)) (sym c.self.view_is) ∙ taken_each code _ 0 code.channels) c.requires
