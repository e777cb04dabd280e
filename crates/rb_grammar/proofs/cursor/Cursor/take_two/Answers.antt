use Rattle.std.proofs.Common.{refl, arith}
use Rattle.rb_grammar.proofs.Reaching.{exit}
use Rattle.rb_grammar.specs.Reading.{last_first, last_second, misses_first, misses_second}
use Rattle.rb_grammar.proofs.cursor.Cursor.take_two.Goals as goal

pub returns-in_err-take-clause-err : goal.returns-in_err-take-clause-err
returns-in_err-take-clause-err c =
    exit c.from_residual.result c.from_residual.ensures.1 refl misses_first last_first c.in_err-take.ensures.err

pub returns-in_err-take-2-clause-err : goal.returns-in_err-take-2-clause-err
returns-in_err-take-2-clause-err c =
    exit c.from_residual-in_err-take-2.result c.from_residual-in_err-take-2.ensures.1 c.in_ok-take.ensures.ending
    (misses_second c.take.new.self _ c.in_ok-take.ensures.ok) (last_second c.take.new.self _ c.in_ok-take.ensures.ok)
    c.in_err-take-2.ensures.err

pub returns-clause-ok : goal.returns-clause-ok
returns-clause-ok c =
    record {
      between = c.take.new.self.point;
      one = _;
      two = _;
      takes = c.in_ok-take.ensures.ok;
      behind = c.in_ok-take-2.ensures.ok;
    }

pub returns-clause-shorter : goal.returns-clause-shorter
returns-clause-shorter c = omega (arith, c.in_ok-take.ensures.shorter, c.in_ok-take-2.ensures.shorter)
