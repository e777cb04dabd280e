use Rattle.std.proofs.Common.{true, sym, ap, ◌∙◌}
use Rattle.rb_code.specs.Instructions.Plain.{code}
use Rattle.rb_code.specs.WordMachine.WordRun.{word_run}
use Rattle.rb_conv.specs.Conversations.{memberships, opening}
use Rattle.rb_machine.specs.Machine.{Seen, opening_seen}
use Rattle.rb_recovery.specs.Survivors.{word_survivors}
use Rattle.rb_world.specs.Text.{record_text}
use Rattle.rb_commands.proofs.Following.{survival_puts}
use Rattle.rb_commands.proofs.Loaded.{is_sound}
use Rattle.rb_commands.proofs.survive.survive_turns.Goals as goal

pub load_for_survivors-requires-clause-sound : goal.load_for_survivors-requires-clause-sound
load_for_survivors-requires-clause-sound g c = is_sound c.requires.prepared.0 c.args.prepared.now c.requires.prepared.1

pub survive-requires-clause-fresh : goal.survive-requires-clause-fresh
survive-requires-clause-fresh g c =
    let loaded = c.in-Ok.ensures in
    loaded ∙ sym (ap (λ (m : Seen). opening_seen m.code m.groups true m.most) loaded)

pub survive-requires-clause-named : goal.survive-requires-clause-named
survive-requires-clause-named g c = ap (λ (m : Seen). m.code.names) (sym c.in-Ok.ensures)

pub returns-in-Ok : goal.returns-in-Ok
returns-in-Ok g c =
    let prepared = c.args.prepared.now in
    let turns = c.args.schedule.all in
    let machine = c.in-Ok.machine in
    let text = λ (m : Seen). record_text m.code.names (word_survivors (word_run m.code m.groups turns).0) in
    survival_puts (text machine) (text (opening_seen (code prepared.code) (memberships (opening prepared.nested)) true machine.most))
    (ap text c.in-Ok.ensures) c.survive.result c.unwritten_of.result
    (g.S.Sink.written c.args.out.now) (g.S.Sink.written c.survive.new.out) (g.S.Sink.faults c.args.out.now) (g.S.Sink.faults c.survive.new.out)
    c.survive.ensures.text c.unwritten_of.ensures
