use Rattle.std.proofs.Common.{refl, arith, ◌∙◌}
use Rattle.std.proofs.lemmas.Result.{IfOk-weaker, on_ok_weaker}
use Rattle.rb_grammar.proofs.Reaching.{exit, handed}
use Rattle.rb_grammar.specs.Reading.{last_first, last_second, misses_first, misses_second}
use Rattle.rb_grammar.proofs.cursor.Cursor.take_named.Goals as goal

pub returns-in_err-take-clause-err : goal.returns-in_err-take-clause-err
returns-in_err-take-clause-err c =
    exit c.from_residual.result c.from_residual.ensures.1 refl misses_first last_first c.in_err-take.ensures.err

pub returns-clause-ok : goal.returns-clause-ok
returns-clause-ok c =
    IfOk-weaker c.take_name.result _ _
    (λ _ named. record { between = c.take.new.self.point; one = _; takes = c.in_ok-take.ensures.ok; named = named })
    c.take_name.ensures.ok

pub returns-clause-err : goal.returns-clause-err
returns-clause-err c =
    handed c.take_name.result c.in_ok-take.ensures.ending (misses_second c.take.new.self _ c.in_ok-take.ensures.ok)
    (last_second c.take.new.self _ c.in_ok-take.ensures.ok) c.take_name.ensures.err

pub returns-clause-ending : goal.returns-clause-ending
returns-clause-ending c = c.take_name.ensures.ending ∙ c.in_ok-take.ensures.ending

pub returns-clause-shorter : goal.returns-clause-shorter
returns-clause-shorter c =
    on_ok_weaker c.take_name.result (λ less. omega (arith, less, c.in_ok-take.ensures.shorter)) c.take_name.ensures.shorter
