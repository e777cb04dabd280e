use Rattle.std.proofs.Common.{refl, sym, ap, ◌∙◌, map, []}
use Rattle.rb_grammar.proofs.Accepting.Forms.{begin_none, begin_some, begin_still}
use Rattle.rb_grammar.proofs.Reaching.{begins_here, passes, same_value}
use Rattle.rb_grammar.specs.ExpressionTable.{nothing_after, start_expression}
use Rattle.rb_grammar.specs.Parts.{Part}
use Rattle.rb_grammar.specs.StatementTable.{expressions_after}
use Rattle.rb_syntax.specs.Plain.{expression}
use Rattle.std.specs.Option.{is_some}
use Rattle.rb_parse.proofs.Handed.{last_read, last_stopped}
use Rattle.rb_parse.proofs.Shorter.{call_weaker}
use Rattle.rb_parse.proofs.simple_statements.read_arguments.Goals as goal

pub returns-then-begins_expression-clause-err : goal.returns-then-begins_expression-clause-err
returns-then-begins_expression-clause-err c =
    last_stopped _ c.read_expressions.result refl
    (begins_here Part.Expressions c.args.cursor.now.point nothing_after refl
    (begin_some _ expressions_after (ap (λ first. is_some (start_expression first)) (sym c.look.ensures) ∙ sym
    c.if-begins_expression.ensures))) c.read_expressions.ensures.err

pub returns-then-begins_expression-clause-ok : goal.returns-then-begins_expression-clause-ok
returns-then-begins_expression-clause-ok c =
    last_read _ c.read_expressions.result (λ values. map expression values.items) (λ values. map expression values.items) (λ _. refl)
    (begins_here Part.Expressions c.args.cursor.now.point nothing_after refl
    (begin_some _ expressions_after (ap (λ first. is_some (start_expression first)) (sym c.look.ensures) ∙ sym
    c.if-begins_expression.ensures))) c.read_expressions.ensures.ok

pub returns-else-begins_expression-clause-ok : goal.returns-else-begins_expression-clause-ok
returns-else-begins_expression-clause-ok c =
    same_value (ap (map expression) (sym c.new.ensures.items))
    (passes [] _ (begin_none _ nothing_after (begin_still _ expressions_after
    (ap (λ first. is_some (start_expression first)) (sym c.look.ensures) ∙ sym c.if-begins_expression.ensures))) refl)

pub returns-then-begins_expression-clause-shorter : goal.returns-then-begins_expression-clause-shorter
returns-then-begins_expression-clause-shorter c = call_weaker _ _ c.read_expressions.result c.read_expressions.ensures.shorter
