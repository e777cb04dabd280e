-- The sentence and the remarks, at the place of the fault.
use Rattle.std.proofs.Common.{◌≡◌, ◌∙◌, List, ℕ, Bor, map, refl, subst}
use Rattle.std.specs.Result.{IfOk}
use Rattle.rb_base.specs.Words.{fault_word}
use Rattle.rb_frame.specs.Frame.{framed_with}
use Rattle.rb_why.specs.Remarks.{remarks}
use Rattle.rb_why.specs.Source.{reason_told, way_of, words_by}
use Rattle.rb_why.proofs.Framing.{parts_told}
use Rattle.rb_why.proofs.source.reason_told.Goals as goal

pub returns : goal.returns
returns c =
    let file = c.args.file.now in
    let source = c.args.source.now in
    let fault = c.args.fault in
    let may : List (List ℕ) = map (λ (token : Bor (List ℕ)). token.now) c.args.may.now in
    let told : List ℕ = reason_told file source fault may in
    let e : framed_with file source fault.place c.word.result.now c.as_slice.result.now c.as_slice-2.result.now ≡ told =
    parts_told file source fault.place fault.place c.word.result.now (fault_word fault.name) c.as_slice.result.now
    (words_by (way_of fault.name) source fault may) c.as_slice-2.result.now (remarks source fault may) refl c.word.ensures
    (c.as_slice.ensures.value ∙ c.in_ok-words.ensures) (c.as_slice-2.ensures.value ∙ c.in_ok-remarks.ensures) in
    subst (λ (x : List ℕ). IfOk c.frame_with.result (λ v. v.items ≡ x)) e c.frame_with.ensures
