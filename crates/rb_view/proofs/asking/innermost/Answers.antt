use Rattle.std.proofs.Common.{arith}
use Rattle.rb_recovery.proofs.Turning.InnermostLevel.{innermost_seen}
use Rattle.rb_view.proofs.Asked.{none_innermost}
use Rattle.rb_view.proofs.asking.innermost.Goals as goal

pub returns-then-levels-eq0 : goal.returns-then-levels-eq0
returns-then-levels-eq0 g c q there =
    none_innermost q.levels (omega (arith, c.levels-levels.ensures q there, c.if-levels-eq0.true))

pub level-requires-clause-level : goal.level-requires-clause-level
level-requires-clause-level g c q there = omega (arith, c.levels-levels.ensures q there, c.if-levels-eq0.false)

pub returns : goal.returns
returns g c q there =
    innermost_seen q.levels c.levels-levels.result c.level.result (c.levels-levels.ensures q there) c.if-levels-eq0.false (c.level.ensures q there)
