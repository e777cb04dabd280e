-- Each event is one line more.
use Rattle.std.proofs.Common.{◌<◌, ◌≤◌, ◌^◌, length, take, List, subst, arith, length-take}
use Rattle.std.proofs.lemmas.List.{take_all}
use Rattle.rb_base.specs.declared.event.Event.{Event}
use Rattle.rb_run.specs.Counting.{IsMore}
use Rattle.rb_run.proofs.Counted.{one_more, still_below}
use Rattle.rb_run.proofs.counting.Counts.add.Goals as goal

pub note-requires : goal.note-requires
note-requires c =
    let events = take c.loop-event.event-index c.args.events.now in
    let few : length events ≤ 96 = omega (arith, length-take c.loop-event.event-index c.args.events.now, c.requires.few) in
    let fits : c.args.released < 2 ^ 32 = omega arith in
    still_below c.args.self.now c.loop-event.self c.args.released events c.requires.room fits few c.loop-event.invariant

pub loop-event-preserved : goal.loop-event-preserved
loop-event-preserved c =
    one_more c.args.self.now c.loop-event.self c.note.new.self c.args.released c.loop-event.event-index c.args.events.now _ c.loop-event-test.true
    c.loop-event.invariant c.note.ensures

pub returns : goal.returns
returns c =
    subst (λ (events : List Event). IsMore c.args.self.now c.args.released events c.loop-event.self)
    (take_all c.loop-event.event-index c.args.events.now c.loop-event-test.false) c.loop-event.invariant
