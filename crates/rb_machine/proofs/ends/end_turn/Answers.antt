-- Each end is that of what the process did.
use Rattle.std.proofs.Common.{true, sym, subst}
use Rattle.rb_base.specs.declared.event.TurnKind.TheVariants.{Took, Wait}
use Rattle.rb_code.specs.Instructions.Plain.{code as plain}
use Rattle.rb_machine.specs.Ends.{SomeTurnCame, SomeTurnIsUnderWay}
use Rattle.rb_machine.specs.declared.came.Came.{Came}
use Rattle.rb_machine.proofs.Turning.Ended.{came_is, ends_of, finishes_of, goes_come, rests_come, simply_ends, some_comes, tells_come, waits_come}
use Rattle.rb_machine.proofs.ends.end_turn.Goals as goal

pub end-requires : goal.end-requires
end-requires g c =
    let code = plain c.args.code.now in
    let now = c.args.parts.now in
    let running = c.args.running.now.items in
    let events = c.args.report.now.events.items in
    let is = came_is c.quietly.result Took true c.quietly.ensures.kind c.quietly.ensures.pass c.quietly.ensures.quiet in
    record {
      come = subst (λ (came : Came). SomeTurnCame c.args.p now running events came) (sym is)
          (some_comes code c.args.turn c.args.p (goes_come code c.args.turn c.args.p) c.in-Went.is now running events c.requires.none c.requires.way);
    }

pub returns-in-Went-clause-ended : goal.returns-in-Went-clause-ended
returns-in-Went-clause-ended g c =
    let code = plain c.args.code.now in
    let is = came_is c.quietly.result Took true c.quietly.ensures.kind c.quietly.ensures.pass c.quietly.ensures.quiet in
    simply_ends code c.args.turn c.args.p (goes_come code c.args.turn c.args.p) c.in-Went.is c.args.parts.now c.args.running.now.items
    c.args.report.now.events.items c.requires.none (finishes_of is c.end.ensures.finished) c.end.ensures.work

pub end-requires-in-Waits : goal.end-requires-in-Waits
end-requires-in-Waits g c =
    let code = plain c.args.code.now in
    let now = c.args.parts.now in
    let running = c.args.running.now.items in
    let events = c.args.report.now.events.items in
    let is = came_is c.quietly-in-Waits.result Wait true c.quietly-in-Waits.ensures.kind c.quietly-in-Waits.ensures.pass c.quietly-in-Waits.ensures.quiet in
    record {
      come = subst (λ (came : Came). SomeTurnCame c.args.p now running events came) (sym is)
          (some_comes code c.args.turn c.args.p (waits_come code c.args.turn c.args.p) c.in-Waits.is now running events c.requires.none c.requires.way);
    }

pub returns-in-Waits-clause-ended : goal.returns-in-Waits-clause-ended
returns-in-Waits-clause-ended g c =
    let code = plain c.args.code.now in
    let is = came_is c.quietly-in-Waits.result Wait true c.quietly-in-Waits.ensures.kind c.quietly-in-Waits.ensures.pass c.quietly-in-Waits.ensures.quiet in
    simply_ends code c.args.turn c.args.p (waits_come code c.args.turn c.args.p) c.in-Waits.is c.args.parts.now c.args.running.now.items
    c.args.report.now.events.items c.requires.none (finishes_of is c.end-in-Waits.ensures.finished) c.end-in-Waits.ensures.work

pub end_alone-requires : goal.end_alone-requires
end_alone-requires g c =
    let code = plain c.args.code.now in
    record {
      come = some_comes code c.args.turn c.args.p (rests_come code c.args.turn c.args.p) c.in-Rests.is c.args.parts.now c.args.running.now.items
          c.args.report.now.events.items c.requires.none c.requires.way;
    }

pub returns-in-Rests-clause-ended : goal.returns-in-Rests-clause-ended
returns-in-Rests-clause-ended g c =
    let code = plain c.args.code.now in
    simply_ends code c.args.turn c.args.p (rests_come code c.args.turn c.args.p) c.in-Rests.is c.args.parts.now c.args.running.now.items
    c.args.report.now.events.items c.requires.none c.end_alone.ensures.finished c.end_alone.ensures.work

pub end_alone-requires-in-Tells : goal.end_alone-requires-in-Tells
end_alone-requires-in-Tells g c =
    let code = plain c.args.code.now in
    record {
      come = some_comes code c.args.turn c.args.p (tells_come code c.args.turn c.args.p) c.in-Tells.is c.args.parts.now c.args.running.now.items
          c.args.report.now.events.items c.requires.none c.requires.way;
    }

pub returns-in-Tells-clause-ended : goal.returns-in-Tells-clause-ended
returns-in-Tells-clause-ended g c =
    let code = plain c.args.code.now in
    simply_ends code c.args.turn c.args.p (tells_come code c.args.turn c.args.p) c.in-Tells.is c.args.parts.now c.args.running.now.items
    c.args.report.now.events.items c.requires.none c.end_alone-in-Tells.ensures.finished c.end_alone-in-Tells.ensures.work

pub pass_test-requires-clause-way : goal.pass_test-requires-clause-way
pass_test-requires-clause-way g c = (
  c.args.turn,
  subst (SomeTurnIsUnderWay (plain c.args.code.now) c.args.turn c.args.p c.args.parts.now c.args.running.now.items) c.in-Accepts.is c.requires.way,
)

pub returns-in-Accepts-clause-ended : goal.returns-in-Accepts-clause-ended
returns-in-Accepts-clause-ended g c = ends_of c.in-Accepts.is (c.pass_test.ensures.ended c.args.turn)

pub come_in-requires-clause-way : goal.come_in-requires-clause-way
come_in-requires-clause-way g c =
    subst (SomeTurnIsUnderWay (plain c.args.code.now) c.args.turn c.args.p c.args.parts.now c.args.running.now.items) c.in-Enters.is c.requires.way

pub returns-in-Enters-clause-ended : goal.returns-in-Enters-clause-ended
returns-in-Enters-clause-ended g c = ends_of c.in-Enters.is c.come_in.ensures.ended

pub take_back-requires-clause-way : goal.take_back-requires-clause-way
take_back-requires-clause-way g c = (
  plain c.args.code.now,
  c.args.turn,
  subst (SomeTurnIsUnderWay (plain c.args.code.now) c.args.turn c.args.p c.args.parts.now c.args.running.now.items) c.in-Rejects.is c.requires.way,
)

pub returns-in-Rejects-clause-ended : goal.returns-in-Rejects-clause-ended
returns-in-Rejects-clause-ended g c = ends_of c.in-Rejects.is (c.take_back.ensures.ended (plain c.args.code.now) c.args.turn)
