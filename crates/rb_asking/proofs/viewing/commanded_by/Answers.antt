use Rattle.std.proofs.Common.{◌≡◌, ◌∙◌, true, map, option_map, string_bytes, sym, ap}
use Rattle.std.proofs.lemmas.Result.{IfOk-weaker}
use Rattle.std.specs.List.{list_all}
use Rattle.std.proofs.lemmas.List.Folds.{list_all-map}
use Rattle.clap.specs.Words.{is_simple}
use Rattle.rb_asking.specs.ViewLine.{plainly}
use Rattle.rb_words.specs.Plain.{is_plain_word}
use Rattle.rb_asking.proofs.ViewLine.{answer_taken, answer_refused, asks_none, found_in, is_told_simple}
use Rattle.rb_asking.proofs.viewing.commanded_by.Goals as goal

pub returns-then-not-are_plain : goal.returns-then-not-are_plain
returns-then-not-are_plain c =
    asks_none (map string_bytes c.args.words.now) (list_all-map is_plain_word _ c.args.words.now ∙ sym c.if-not-are_plain.ensures)

pub returns-in-Ok : goal.returns-in-Ok
returns-in-Ok c =
    let plain : list_all is_plain_word (map string_bytes c.args.words.now) ≡ true =
    list_all-map is_plain_word _ c.args.words.now ∙ sym c.if-not-are_plain.ensures in
    sym (c.view_in.ensures ∙ ap found_in (c.in-Ok.ensures.matches (ap is_simple c.in_ok-command_line.ensures ∙ is_told_simple)).1
    ∙ answer_taken _ _ c.in_ok-command_line.ensures plain c.in-Ok.ensures.kinds)

pub returns-in-Err : goal.returns-in-Err
returns-in-Err c =
    let plain : list_all is_plain_word (map string_bytes c.args.words.now) ≡ true =
    list_all-map is_plain_word _ c.args.words.now ∙ sym c.if-not-are_plain.ensures in
    IfOk-weaker c.none_unless_memory.result _ _
    (λ asked none. answer_refused _ _ c.in-Err.error c.in_ok-command_line.ensures plain c.in-Err.ensures.kinds
    (λ memory. none.1 (c.kind.ensures ∙ memory))
    ∙ sym (ap (option_map plainly) none.0))
    c.none_unless_memory.ensures.none
