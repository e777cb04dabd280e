-- The parts of a machine that is over are tied before each later turn.
use Rattle.std.proofs.Common.{sym, ap, subst, arith}
use Rattle.rb_code.specs.Instructions.Plain.{code as plain}
use Rattle.rb_machine.specs.Machine.{IsOver, Seen}
use Rattle.rb_machine.proofs.Unmoved.RestedTurns.{over_tied}
use Rattle.rb_machine.proofs.machine.Machine.rest_until.Goals as goal

pub invariant_of-self : goal.invariant_of-self
invariant_of-self g c =
    let inside = c.self.inside in
    let taken = ap (λ (machine : Seen). machine.taken) c.self.view_is in
    let most = ap (λ (machine : Seen). machine.most) c.self.view_is in
    over_tied (plain inside.code.now) inside.parts (subst (λ (machine : Seen). IsOver machine) (sym c.self.view_is) c.requires.over)
    inside.running.items inside.taken inside.most c.args.turns inside.released inside.resting c.self.invariant
    (omega (arith, taken, c.requires.later)) (omega (arith, most, c.requires.most))
