-- What is asked to count the values sent on a channel.
use Rattle.std.proofs.Common.{◌<◌, ap, length, ◌∙◌, sym, subst}
use Rattle.rb_code.specs.Instructions.Plain.{code as plain}
use Rattle.rb_machine.specs.Machine.{Seen}
use Rattle.rb_recovery.specs.Reading.{AreCounted, sent_of}
use Rattle.rb_machine.proofs.Passing.CountedAtWork.{counted_at_work}
use Rattle.rb_machine.proofs.Releasing.LentAtWork.{sent_each}
use Rattle.rb_machine.proofs.machine.MachineFinal.sent.Goals as goal

pub sent_on-requires-clause-counted : goal.sent_on-requires-clause-counted
sent_on-requires-clause-counted g c =
    subst (AreCounted (plain c.self.inside.code.now)) (sym c.deref.ensures.value)
    (counted_at_work _ _ _ _ _ _ c.self.invariant.work)

pub sent_on-requires-clause-channel : goal.sent_on-requires-clause-channel
sent_on-requires-clause-channel g c =
    let code = plain c.self.inside.code.now in
    subst (λ n. c.args.channel < n)
    (ap (λ (m : Seen). length (sent_of m.code m.world.processes)) (sym c.self.view_is) ∙ sent_each code _ 0 code.channels) c.requires
