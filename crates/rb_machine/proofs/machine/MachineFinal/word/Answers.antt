-- What is asked to read a word of a process.
use Rattle.std.proofs.Common.{sym, subst}
use Rattle.rb_code.specs.Instructions.Plain.{code as plain}
use Rattle.rb_recovery.specs.Channels.{AreNumbered}
use Rattle.rb_machine.proofs.Knowing.KnownNumbers.{numbered_at_work}
use Rattle.rb_machine.proofs.machine.MachineFinal.word.Goals as goal

pub word_at-requires-clause-numbered : goal.word_at-requires-clause-numbered
word_at-requires-clause-numbered g c =
    subst (AreNumbered (plain c.self.inside.code.now)) (sym c.deref.ensures.value)
    (numbered_at_work _ _ _ _ _ _ c.self.invariant.work)
