-- The sentence about the turn, at the place of its line.
use Rattle.std.proofs.Common.{◌∙◌, List, ℕ, ap}
use Rattle.std.proofs.lemmas.Result.{IfOk-weaker}
use Rattle.rb_base.specs.Words.{fault_word}
use Rattle.rb_base.specs.declared.fault.FaultName.TheVariants.{V4}
use Rattle.rb_base.specs.declared.place.Place.{Place}
use Rattle.rb_frame.specs.Frame.{framed}
use Rattle.rb_why.specs.Stuck.{turn_place}
use Rattle.rb_why.proofs.stuck.stuck_reason.Goals as goal

pub returns : goal.returns
returns c =
    let file = c.args.file.now in
    let text = c.args.text.now in
    let place = turn_place text c.args.kept.turn in
    IfOk-weaker c.frame.result _ _
    (λ told h. h ∙ ap (λ (at : Place). framed file text at c.word.result.now c.as_slice.result.now) c.turn_place-place.ensures
    ∙ ap (λ (name : List ℕ). framed file text place name c.as_slice.result.now) c.word.ensures
    ∙ ap (framed file text place (fault_word V4)) (c.as_slice.ensures.value ∙ c.in_ok-words.ensures)) c.frame.ensures
