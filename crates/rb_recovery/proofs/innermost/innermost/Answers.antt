use Rattle.rb_recovery.proofs.Turning.InnermostLevel.{innermost_seen}
use Rattle.rb_recovery.proofs.innermost.innermost.Goals as goal

pub returns : goal.returns
returns g c =
    innermost_seen c.args.proc.now.process.levels c.levels-levels.result c.level.result c.levels-levels.ensures c.if-levels-eq0.false c.level.ensures
