use Rattle.std.proofs.Common.{◌∙◌}
use Rattle.rb_machine.proofs.Releasing.EndsTold.{done_told, few_done}
use Rattle.rb_machine.proofs.telling.tell_opening.Goals as goal

pub tell_ended-requires-clause-room : goal.tell_ended-requires-clause-room
tell_ended-requires-clause-room g c = few_done c.args.events.now.items _ c.args.procs.now c.requires.none c.requires.few

pub returns : goal.returns
returns g c = c.tell_ended.ensures ∙ done_told c.args.events.now.items c.args.procs.now c.requires.none c.requires.few
