use Rattle.std.proofs.Common.{refl, sym, ap, ◌∙◌}
use Rattle.rb_grammar.proofs.Accepting.Forms.{item_amount}
use Rattle.rb_grammar.proofs.Reaching.{begins, by_part, complete, exit_sure, exit_within, last_start, same_value, starts, stops_first}
use Rattle.rb_grammar.proofs.Accepting.Starts.{no_item, place_first, text_at}
use Rattle.rb_grammar.specs.Grammar.{between_quotes}
use Rattle.rb_grammar.specs.Machine.{first_of}
use Rattle.rb_grammar.specs.Parts.{Part}
use Rattle.rb_grammar.specs.Reading.{by_form}
use Rattle.rb_grammar.specs.StatementTable.{amount_after, amount_at}
use Rattle.rb_syntax.specs.Plain.{expression}
use Rattle.rb_parse.proofs.simple_statements.read_item.Goals as goal

pub returns-in_default-clause-err : goal.returns-in_default-clause-err
returns-in_default-clause-err c =
    let at = c.args.cursor.now.point in
    by_form (stops_first at (no_item at.left (sym c.place.ensures ∙ c.in_default.is)) refl)

pub returns-in_err-token-clause-err : goal.returns-in_err-token-clause-err
returns-in_err-token-clause-err c =
    exit_sure _ c.from_residual.result c.from_residual.ensures.1 refl (sym c.if-stands_at.ensures) (last_start _ refl) c.in_err-token.ensures.err

pub returns-in_err-value-clause-err : goal.returns-in_err-value-clause-err
returns-in_err-value-clause-err c =
    exit_within c.from_residual-in_err-value.result c.from_residual-in_err-value.ensures.1 refl
    (begins Part.Expression c.args.cursor.now.point amount_after (item_amount _ (sym c.if-stands_at.ensures)) refl refl)
    c.in_err-value.ensures.err

pub returns-in_ok-token-clause-ok : goal.returns-in_ok-token-clause-ok
returns-in_ok-token-clause-ok c =
    let at = c.args.cursor.now.point in
    let taken = c.in_ok-token.ensures.ok in
    let here = place_first at.left c.in-Some.place (sym c.place.ensures ∙ c.in-Some.is) in
    let same = ap (λ left. (first_of left).place) (sym taken.stands) ∙ here in
    same_value (ap (λ place. text_at place (between_quotes c.in_ok-token.token.text.now)) same ∙ ap (text_at c.in-Some.place)
    (sym c.between_quotes.ensures)) (complete (starts _ refl taken))

pub returns-in_ok-value-clause-ok : goal.returns-in_ok-value-clause-ok
returns-in_ok-value-clause-ok c =
    let at = c.args.cursor.now.point in
    let here = place_first at.left c.in-Some.place (sym c.place.ensures ∙ c.in-Some.is) in
    same_value (ap (λ place. amount_at place (expression c.in_ok-value.value)) here)
    (complete (by_part (begins Part.Expression c.args.cursor.now.point amount_after (item_amount _ (sym c.if-stands_at.ensures))
    refl refl) c.in_ok-value.ensures.ok))

pub returns-in_err-token-clause-ending : goal.returns-in_err-token-clause-ending
returns-in_err-token-clause-ending c = c.in_err-token.ensures.ending

pub returns-in_ok-token-clause-ending : goal.returns-in_ok-token-clause-ending
returns-in_ok-token-clause-ending c = c.in_ok-token.ensures.ending

pub returns-in_ok-token-clause-shorter : goal.returns-in_ok-token-clause-shorter
returns-in_ok-token-clause-shorter c = c.in_ok-token.ensures.shorter

pub returns-in_err-value-clause-ending : goal.returns-in_err-value-clause-ending
returns-in_err-value-clause-ending c = c.in_err-value.ensures.ending

pub returns-in_ok-value-clause-ending : goal.returns-in_ok-value-clause-ending
returns-in_ok-value-clause-ending c = c.in_ok-value.ensures.ending

pub returns-in_ok-value-clause-shorter : goal.returns-in_ok-value-clause-shorter
returns-in_ok-value-clause-shorter c = c.in_ok-value.ensures.shorter
