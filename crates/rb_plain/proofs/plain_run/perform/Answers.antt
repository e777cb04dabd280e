use Rattle.std.proofs.Common.{◌≡◌, ◌∙◌, ◌++◌, Some, Ok, Err, ap, refl, sym}
use Rattle.rb_syntax.specs.Plain.{tree}
use Rattle.rb_trace.specs.Naming.{naming}
use Rattle.rb_world.specs.Text.{values_text}
use Rattle.rb_meaning.specs.Meaning.{final_of}
use Rattle.rb_meaning.specs.PlainRun.{PlainWorld}
use Rattle.rb_levels.specs.declared.answer.PlainAnswer.TheVariants.{Memory}
use Rattle.rb_plain.specs.Played.{outs_in, played, unkept_opening, world_in}
use Rattle.rb_levels.specs.Worlds.{world_of}
use Rattle.rb_plain.proofs.Opening.{opened_named}
use Rattle.rb_plain.proofs.OwnWords.{ends_lying}
use Rattle.rb_plain.proofs.WholeText.{some_world, text_is}
use Rattle.rb_plain.proofs.Writing.{writes_answered, writes_both, writes_nothing, writes_same, writes_stopped}
use Rattle.rb_plain.proofs.plain_run.perform.Goals as goal

pub returns-in_err-opened : goal.returns-in_err-opened
returns-in_err-opened g c =
    let program = tree c.args.program.now in
    let names = c.args.names.now in
    let turns = c.args.turns.now in
    let end = played program turns (unkept_opening program) in
    let ends = some_world end c.requires.goes in
    let outs = outs_in (naming names) end in
    let values = values_text (naming names) (final_of program ends.0) in
    let is = text_is program names turns ends.0 c.requires.named ends.1 in (
      outs ++ values,
      is,
      writes_answered (outs ++ values) _ _ _ _ Memory c.from_residual.result c.from_residual.ensures.1
          (writes_nothing (outs ++ values) (g.S.Sink.written c.args.out.now) (g.S.Sink.faults c.args.out.now) Memory refl),
    )

pub play-requires-clause-few : goal.play-requires-clause-few
play-requires-clause-few g c =
    let program = tree c.args.program.now in
    let same : world_of program c.as_mut_slice-processes.result.now ≡ unkept_opening program =
    ap (world_of program) c.as_mut_slice-processes.ensures.value ∙ c.in_ok-opened.ensures in
    opened_named program c.args.names.now c.as_mut_slice-processes.result.now c.requires.named same

pub returns-in_err-play : goal.returns-in_err-play
returns-in_err-play g c =
    let program = tree c.args.program.now in
    let names = c.args.names.now in
    let turns = c.args.turns.now in
    let end = played program turns (unkept_opening program) in
    let same : world_of program c.as_mut_slice-processes.result.now ≡ unkept_opening program =
    ap (world_of program) c.as_mut_slice-processes.ensures.value ∙ c.in_ok-opened.ensures in
    let ends = some_world end c.requires.goes in
    let outs = outs_in (naming names) end in
    let values = values_text (naming names) (final_of program ends.0) in
    let is = text_is program names turns ends.0 c.requires.named ends.1 in
    let printed : outs_in (naming names) (played program turns (world_of program c.as_mut_slice-processes.result.now)) ≡ outs =
    ap (λ (w : PlainWorld). outs_in (naming names) (played program turns w)) same in
    let answer = c.in_err-play.field-0.0 in (
      outs ++ values,
      is,
      writes_answered (outs ++ values) _ _ _ _ answer c.from_residual-in_err-play.result c.from_residual-in_err-play.ensures.1
          (writes_stopped outs values _ _ _ _ answer (writes_same _ outs _ _ _ _ (Err answer) printed c.in_err-play.ensures.text)),
    )

pub write_values-requires-clause-lie : goal.write_values-requires-clause-lie
write_values-requires-clause-lie g c =
    let program = tree c.args.program.now in
    let names = c.args.names.now in
    let turns = c.args.turns.now in
    let end = played program turns (unkept_opening program) in
    let same : world_of program c.as_mut_slice-processes.result.now ≡ unkept_opening program =
    ap (world_of program) c.as_mut_slice-processes.ensures.value ∙ c.in_ok-opened.ensures in
    let v = world_of program c.play.new.processes in
    let ends : world_in end ≡ Some v = ap (λ (w : PlainWorld). world_in (played program turns w)) (sym same) ∙ c.in_ok-play.ensures.ends in
    ends_lying program names turns v c.requires.named ends

pub returns : goal.returns
returns g c =
    let program = tree c.args.program.now in
    let names = c.args.names.now in
    let turns = c.args.turns.now in
    let end = played program turns (unkept_opening program) in
    let same : world_of program c.as_mut_slice-processes.result.now ≡ unkept_opening program =
    ap (world_of program) c.as_mut_slice-processes.ensures.value ∙ c.in_ok-opened.ensures in
    let v = world_of program c.play.new.processes in
    let ends : world_in end ≡ Some v = ap (λ (w : PlainWorld). world_in (played program turns w)) (sym same) ∙ c.in_ok-play.ensures.ends in
    let outs = outs_in (naming names) end in
    let values = values_text (naming names) (final_of program v) in
    let printed : outs_in (naming names) (played program turns (world_of program c.as_mut_slice-processes.result.now)) ≡ outs =
    ap (λ (w : PlainWorld). outs_in (naming names) (played program turns w)) same in (
      outs ++ values,
      text_is program names turns v c.requires.named ends,
      writes_both outs values _ (g.S.Sink.written c.play.new.out) _ _ (g.S.Sink.faults c.play.new.out) _ c.write_values.result
          (writes_same _ outs _ _ _ _ (Ok tt) printed c.in_ok-play.ensures.text) c.write_values.ensures,
    )
