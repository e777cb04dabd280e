-- A turn of a process that is known to rest.
use Rattle.std.proofs.Common.{◌+◌, ◌<◌, List, length, ap, sym, ◌∙◌, subst, arith}
use Rattle.rb_base.specs.declared.event.Event.{Event}
use Rattle.rb_code.specs.Instructions.Plain.{code as plain}
use Rattle.rb_trace.specs.Report.{told_of}
use Rattle.rb_machine.specs.Machine.{HasTurned, Seen, seen}
use Rattle.rb_recovery.specs.Worlds.{lines_of}
use Rattle.rb_machine.proofs.Turning.TurnOfParts.{none_wait}
use Rattle.rb_machine.proofs.Unmoved.RestedTurns.{rested_tied, rested_turn}
use Rattle.rb_machine.proofs.machine.Machine.turn.Goals as goal

pub invariant_of-self : goal.invariant_of-self
invariant_of-self g c =
    let inside = c.self.inside in
    let rests = c.self.invariant.noted.rest c.args.p c.in-Some.kind (sym c.kind.ensures ∙ c.in-Some.is) in
    let none = none_wait inside.parts.procs.items (length c.args.self.now.world.processes)
    (ap (λ (machine : Seen). machine.waiting) c.self.view_is ∙ c.requires.waits) in
    let more : inside.taken < inside.most = omega (
      arith,
      c.requires.more,
      ap (λ (machine : Seen). machine.taken) c.self.view_is,
      ap (λ (machine : Seen). machine.most) c.self.view_is,
    ) in
    rested_tied (plain inside.code.now) inside.parts inside.taken inside.most c.args.p c.in-Some.kind rests none inside.running.items
    inside.released inside.resting c.self.invariant more

pub returns-in-Some-clause-turned : goal.returns-in-Some-clause-turned
returns-in-Some-clause-turned g c =
    let inside = c.self.inside in
    let code = plain inside.code.now in
    let lines = lines_of inside.parts.procs.items in
    let after : Seen = seen code inside.parts (inside.taken + 1) inside.most in
    let rests = c.self.invariant.noted.rest c.args.p c.in-Some.kind (sym c.kind.ensures ∙ c.in-Some.is) in
    let none = none_wait inside.parts.procs.items (length c.args.self.now.world.processes)
    (ap (λ (machine : Seen). machine.waiting) c.self.view_is ∙ c.requires.waits) in
    subst (λ (old : Seen). HasTurned old c.args.p after (told_of c.in-Some.kind c.clear.new.self.items lines)) c.self.view_is
    (subst (λ (events : List Event).
    HasTurned (seen code inside.parts inside.taken inside.most) c.args.p after (told_of c.in-Some.kind events lines)) (sym c.clear.ensures)
    (rested_turn code inside.parts inside.taken inside.most c.args.p c.in-Some.kind rests none))
