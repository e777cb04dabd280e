use Rattle.rb_recovery.specs.TestLines.{passes_of}
use Rattle.rb_machine.proofs.Releasing.EndsTold.{all_told, done_fit, errors_fit, pass_fits}
use Rattle.rb_machine.proofs.telling.tell.Goals as goal

pub tell_ended-requires-clause-room : goal.tell_ended-requires-clause-room
tell_ended-requires-clause-room g c =
    errors_fit c.args.running.now c.args.procs.now c.args.events.now.items (passes_of c.args.pass) c.requires.room

pub add-requires : goal.add-requires
add-requires g c =
    pass_fits c.args.running.now c.args.procs.now c.args.events.now.items (passes_of c.args.pass) c.requires.room
    c.tell_ended.new.events.items c.tell_ended.ensures

pub tell_ended-requires-2-clause-room : goal.tell_ended-requires-2-clause-room
tell_ended-requires-2-clause-room g c =
    done_fit c.args.running.now c.args.procs.now c.args.events.now.items (passes_of c.args.pass) c.requires.room
    c.tell_ended.new.events.items c.add.new.events.items c.tell_ended.ensures c.add.ensures

pub returns-clause-told : goal.returns-clause-told
returns-clause-told g c before ran =
    all_told c.args.running.now c.args.procs.now c.args.events.now.items (passes_of c.args.pass) c.requires.room
    c.tell_ended.new.events.items c.add.new.events.items c.tell_ended-2.new.events.items before
    c.tell_ended.ensures c.add.ensures c.tell_ended-2.ensures ran
