-- The sentence and the remark, at the word that the fault is about.
use Rattle.std.proofs.Common.{◌≡◌, ◌∙◌, List, ℕ, [], Bor, Option, option_map, ap, subst}
use Rattle.std.specs.Result.{IfOk}
use Rattle.rb_base.specs.Words.{fault_word}
use Rattle.rb_base.specs.declared.names.Names.{Names}
use Rattle.rb_frame.specs.Frame.{framed_with}
use Rattle.rb_why.specs.Meant.{meant_or}
use Rattle.rb_why.specs.Text.{line_words, process_meant, text_told, told_word, word_place}
use Rattle.rb_why.specs.Words.{words_line}
use Rattle.rb_why.proofs.Framing.{parts_told}
use Rattle.rb_why.proofs.text.text_reason.Goals as goal

pub returns : goal.returns
returns c =
    let file = c.args.file.now in
    let text = c.args.text.now in
    let fault = c.args.fault in
    let names : Option Names = option_map (λ (n : Bor Names). n.now) c.args.names in
    let line : List ℕ = words_line text fault.at in
    let told : List ℕ = text_told file text names fault in
    let e : framed_with file text c.word_place-place.result c.word.result.now c.as_slice.result.now c.as_slice-2.result.now ≡ told =
    parts_told file text c.word_place-place.result (word_place text fault.at (told_word fault.name)) c.word.result.now (fault_word fault.name)
    c.as_slice.result.now (line_words text names fault) c.as_slice-2.result.now (meant_or (process_meant line names fault.name) [])
    (c.word_place-place.ensures ∙ ap (word_place text fault.at) c.told_word.ensures) c.word.ensures
    (c.as_slice.ensures.value ∙ c.in_ok-words.ensures)
    (c.as_slice-2.ensures.value ∙ c.in_ok-meant.ensures ∙ ap (λ (l : List ℕ). meant_or (process_meant l names fault.name) []) c.words_line.ensures) in
    subst (λ (x : List ℕ). IfOk c.frame_with.result (λ v. v.items ≡ x)) e c.frame_with.ensures
