use Rattle.std.proofs.Common.{[], ◌∷◌, ap, refl, subst, sym}
use Rattle.rb_verdict.specs.Judging.{OverTurns}
use Rattle.rb_verdict.specs.Texts.{names_of}
use Rattle.rb_commands.specs.Explained.{NamesOfSource}
use Rattle.rb_commands.specs.Products.{text_for}
use Rattle.rb_turns.specs.Written.{PutsOrMemory}
use Rattle.rb_commands.specs.Written.{KnowsNames}
use Rattle.rb_commands.proofs.Ending.{whole_ends}
use Rattle.rb_commands.proofs.Loaded.{texts_as_meant}
use Rattle.rb_commands.proofs.Scheduled.{its_names, turns_refused, turns_run}
use Rattle.rb_commands.proofs.over_schedule.over_text.Goals as goal

pub returns-in-Ok : goal.returns-in-Ok
returns-in-Ok g c source accepted =
    let text_of = text_for c.args.product accepted.tree in
    let all = c.in-Ok.schedule.all in
    let listed = c.in-Ok.ensures.turns in
    let w0 = g.S.Sink.written c.args.out.now in
    let w1 = g.S.Sink.written c.over_turns.new.out in
    let f0 = g.S.Sink.faults c.args.out.now in
    let f1 = g.S.Sink.faults c.over_turns.new.out in
    whole_ends (OverTurns (names_of accepted.tree) text_of (c.args.text.now ∷ [])) (KnowsNames (NamesOfSource source)) ⊥ (text_of all)
    (turns_run source c.args.prepared accepted text_of c.args.text.now listed.0 all listed.1 (ap (λ s. s.all) listed.2))
    w0 w1 f0 f1 c.over_turns.result
    (subst (λ bytes. PutsOrMemory bytes w0 w1 f0 f1 c.over_turns.result) (texts_as_meant source c.args.prepared accepted c.args.product all)
    c.over_turns.ensures)

pub returns : goal.returns
returns g c source accepted = (
  turns_refused source c.args.prepared accepted (text_for c.args.product accepted.tree) c.args.text.now c.in-Err.fault c.in-Err.ensures.turns,
  (c.into_names.result, refl, subst (NamesOfSource source) (sym c.into_names.ensures) (its_names source c.args.prepared accepted)),
  refl,
  refl,
)
