use Rattle.std.proofs.Common.{sym, ap, subst, ◌∙◌}
use Rattle.rb_code.specs.Instructions.Plain.{code}
use Rattle.rb_conv.specs.Conversations.{memberships, opening}
use Rattle.rb_run.specs.Running.{NamesFit}
use Rattle.rb_back.specs.Course.{Course, opening_course}
use Rattle.rb_script.specs.Shown.{session_text}
use Rattle.rb_commands.proofs.Following.{following_puts}
use Rattle.rb_commands.proofs.Loaded.{code_names_fit, is_sound}
use Rattle.rb_commands.proofs.session.follow.Goals as goal

pub load-requires-clause-sound : goal.load-requires-clause-sound
load-requires-clause-sound g c = is_sound c.requires.prepared.0 c.args.prepared.now c.requires.prepared.1

pub show_all-requires-clause-fresh : goal.show_all-requires-clause-fresh
show_all-requires-clause-fresh g c =
    let loaded = c.in-Ok.ensures in
    loaded ∙ sym (ap (λ (s : Course). opening_course s.code s.groups s.turns) loaded)

pub show_all-requires-clause-named : goal.show_all-requires-clause-named
show_all-requires-clause-named g c = ap (λ (s : Course). s.code.names) (sym c.in-Ok.ensures)

pub show_all-requires-clause-fit : goal.show_all-requires-clause-fit
show_all-requires-clause-fit g c =
    let prepared = c.args.prepared.now in
    subst (λ (s : Course). NamesFit s.code prepared.code.names) (sym c.in-Ok.ensures)
    (code_names_fit c.requires.prepared.0 prepared c.requires.prepared.1)

pub returns-in-Ok : goal.returns-in-Ok
returns-in-Ok g c =
    let prepared = c.args.prepared.now in
    let turns = c.args.turns.all in
    let orders = c.args.script in
    let course = c.in-Ok.session in
    following_puts (session_text course.code course.groups turns orders)
    (session_text (code prepared.code) (memberships (opening prepared.nested)) turns orders)
    (ap (λ (s : Course). session_text s.code s.groups turns orders) c.in-Ok.ensures) c.show_all.result c.unwritten_of.result
    (g.S.Sink.written c.args.out.now) (g.S.Sink.written c.show_all.new.out) (g.S.Sink.faults c.args.out.now)
    (g.S.Sink.faults c.show_all.new.out) c.show_all.ensures.text c.unwritten_of.ensures
