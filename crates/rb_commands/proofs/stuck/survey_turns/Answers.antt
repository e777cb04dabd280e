-- The machine was just loaded; after the turns of the schedule it may take one more of each process.
use Rattle.std.proofs.Common.{ap, ◌∙◌, arith}
use Rattle.rb_code.specs.Instructions.Plain.{code}
use Rattle.rb_conv.specs.Conversations.{memberships, opening}
use Rattle.rb_machine.specs.Machine.{Seen}
use Rattle.rb_run.specs.Running.{ran}
use Rattle.rb_code.specs.WordMachine.WordKind.{word_kind}
use Rattle.rb_trace.specs.Naming.{naming}
use Rattle.rb_stuck.specs.Programs.{word_standing_text}
use Rattle.rb_stuck.specs.Stuck.{text_of}
use Rattle.rb_turns.proofs.Ending.{put_done, put_stopped}
use Rattle.rb_commands.proofs.Loaded.{is_sound}
use Rattle.rb_commands.proofs.Surveys.{named_after, named_later, text_after, waits_later}
use Rattle.rb_commands.proofs.stuck.survey_turns.Goals as goal

pub load-requires-clause-sound : goal.load-requires-clause-sound
load-requires-clause-sound g c = is_sound c.requires.prepared.0 c.args.prepared.now c.requires.prepared.1

pub survey-standing-requires-clause-all : goal.survey-standing-requires-clause-all
survey-standing-requires-clause-all g c =
    let led = c.count.ensures.machine ∙ ap (λ (m : Seen). ran m c.args.schedule.all) c.in-Ok.ensures in
    omega (
      arith,
      c.len-processes.ensures,
      named_later c.requires.prepared.0 c.args.prepared.now c.requires.prepared.1 _ c.args.schedule.all c.count.new.machine led,
    )

pub survey-standing-requires-clause-waits : goal.survey-standing-requires-clause-waits
survey-standing-requires-clause-waits g c =
    let led = c.count.ensures.machine ∙ ap (λ (m : Seen). ran m c.args.schedule.all) c.in-Ok.ensures in
    waits_later c.requires.prepared.0 c.args.prepared.now c.requires.prepared.1 _ c.args.schedule.all c.count.new.machine led

pub write_standing-requires : goal.write_standing-requires
write_standing-requires g c stuck =
    let led = c.count.ensures.machine ∙ ap (λ (m : Seen). ran m c.args.schedule.all) c.in-Ok.ensures in
    named_after c.requires.prepared.0 c.args.prepared.now c.requires.prepared.1 _ c.args.schedule.all c.count.new.machine led
    c.survey-standing.new.machine c.survey-standing.result c.survey-standing.ensures.standing c.survey-standing.ensures.after stuck

pub returns-in-Ok-write_standing : goal.returns-in-Ok-write_standing
returns-in-Ok-write_standing g c =
    let prepared = c.args.prepared.now in
    let turns = c.args.schedule.all in
    let led = c.count.ensures.machine ∙ ap (λ (m : Seen). ran m turns) c.in-Ok.ensures in
    let after = c.survey-standing.new.machine in
    put_done (text_of (word_kind after.code after.groups) (naming prepared.code.names) after.world.processes c.survey-standing.result)
    (word_standing_text (code prepared.code) (memberships (opening prepared.nested)) turns)
    (text_after c.requires.prepared.0 prepared c.requires.prepared.1 _ turns c.count.new.machine led after
    c.survey-standing.result c.survey-standing.ensures.standing c.survey-standing.ensures.after)
    (g.S.Sink.written c.args.out.now) (g.S.Sink.written c.write_standing.new.out) (g.S.Sink.faults c.args.out.now)
    (g.S.Sink.faults c.write_standing.new.out) tt c.in-Ok-write_standing.ensures

pub returns-in-Ok : goal.returns-in-Ok
returns-in-Ok g c =
    let prepared = c.args.prepared.now in
    let turns = c.args.schedule.all in
    let led = c.count.ensures.machine ∙ ap (λ (m : Seen). ran m turns) c.in-Ok.ensures in
    let after = c.survey-standing.new.machine in
    put_stopped (text_of (word_kind after.code after.groups) (naming prepared.code.names) after.world.processes c.survey-standing.result)
    (word_standing_text (code prepared.code) (memberships (opening prepared.nested)) turns)
    (text_after c.requires.prepared.0 prepared c.requires.prepared.1 _ turns c.count.new.machine led after
    c.survey-standing.result c.survey-standing.ensures.standing c.survey-standing.ensures.after)
    (g.S.Sink.written c.args.out.now) (g.S.Sink.written c.write_standing.new.out) (g.S.Sink.faults c.args.out.now)
    (g.S.Sink.faults c.write_standing.new.out) c.in-Err-write_standing.field-0 c.in-Err-write_standing.ensures
