-- The level that stands last.
use Rattle.rb_levels.proofs.InnermostLevels.{innermost_is}
use Rattle.rb_levels.proofs.process.Process.innermost.Goals as goal

pub returns : goal.returns
returns c = innermost_is c.args.self.now.levels.items c.deref.result.now c.last.result c.deref.ensures.value c.last.ensures.value
