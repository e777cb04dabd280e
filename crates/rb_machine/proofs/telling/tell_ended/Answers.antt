use Rattle.rb_machine.proofs.Releasing.EndsTold.{told_fits, told_more}
use Rattle.rb_machine.proofs.telling.tell_ended.Goals as goal

pub add-requires : goal.add-requires
add-requires g c =
    told_fits c.args.ending c.args.running.now c.args.procs.now c.args.events.now.items c.loop-p.events.items c.loop-p.p
    c.index-procs-p.result _ _ c.requires.as_many c.loop-p-test.true c.index-procs-p.is c.status.ensures c.event_of.ensures c.loop-p.invariant
    96 c.requires.room

pub loop-p-preserved : goal.loop-p-preserved
loop-p-preserved g c =
    told_more c.args.ending c.args.running.now c.args.procs.now c.args.events.now.items c.loop-p.events.items c.loop-p.p
    c.index-procs-p.result _ _ c.requires.as_many c.loop-p-test.true c.index-procs-p.is c.status.ensures c.event_of.ensures c.loop-p.invariant
    c.add.new.events.items c.add.ensures
