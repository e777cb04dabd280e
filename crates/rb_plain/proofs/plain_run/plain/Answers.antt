use Rattle.std.proofs.Common.{List, subst}
use Rattle.rb_base.specs.declared.kept.Kept.{Kept}
use Rattle.rb_syntax.specs.Plain.{tree}
use Rattle.rb_meaning.specs.PlainRun.{plain_text}
use Rattle.rb_plain.specs.Played.{Plays}
use Rattle.rb_plain.proofs.WholeText.{rehearsed_plays}
use Rattle.rb_plain.proofs.plain_run.plain.Goals as goal

pub returns-in_err-rehearse : goal.returns-in_err-rehearse
returns-in_err-rehearse g c =
    let program = tree c.args.program.now in
    let w = g.S.Sink.written c.args.out.now in
    let f = g.S.Sink.faults c.args.out.now in
    subst (λ (turns : List Kept). Plays (plain_text program turns) w w f f c.from_residual.result) c.turns-turns.ensures
    (rehearsed_plays program
    c.turns-turns.result.now w f c.in_err-rehearse.field-0.0 c.from_residual.result c.from_residual.ensures.1 c.in_err-rehearse.ensures)
