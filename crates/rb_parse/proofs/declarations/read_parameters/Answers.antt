use Rattle.std.proofs.Common.{refl, sym, ap, map, []}
use Rattle.rb_grammar.proofs.Reaching.{begins_here, passes, same_value}
use Rattle.rb_grammar.proofs.Accepting.Starts.{no_parameters, some_names}
use Rattle.rb_grammar.specs.ExpressionTable.{nothing_after}
use Rattle.rb_grammar.specs.Parts.{Part}
use Rattle.rb_syntax.specs.Plain.{identifier}
use Rattle.rb_parse.proofs.Handed.{last_read, last_stopped}
use Rattle.rb_parse.proofs.Shorter.{call_weaker}
use Rattle.rb_parse.proofs.declarations.read_parameters.Goals as goal

pub returns-then-stands_at-clause-err : goal.returns-then-stands_at-clause-err
returns-then-stands_at-clause-err c =
    last_stopped _ c.read_names.result refl
    (begins_here Part.Names c.args.cursor.now.point nothing_after refl (some_names _ (sym c.if-stands_at.ensures))) c.read_names.ensures.err

pub returns-then-stands_at-clause-ok : goal.returns-then-stands_at-clause-ok
returns-then-stands_at-clause-ok c =
    last_read _ c.read_names.result (λ names. map identifier names.items) (λ names. map identifier names.items) (λ _. refl)
    (begins_here Part.Names c.args.cursor.now.point nothing_after refl (some_names _ (sym c.if-stands_at.ensures))) c.read_names.ensures.ok

pub returns-else-stands_at-clause-ok : goal.returns-else-stands_at-clause-ok
returns-else-stands_at-clause-ok c =
    same_value (ap (map identifier) (sym c.new.ensures.items)) (passes [] _ (no_parameters _ (sym c.if-stands_at.ensures)) refl)

pub returns-then-stands_at-clause-shorter : goal.returns-then-stands_at-clause-shorter
returns-then-stands_at-clause-shorter c = call_weaker _ _ c.read_names.result c.read_names.ensures.shorter
