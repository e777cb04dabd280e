-- The alternates of a block in memory, and of its plain block.
use Rattle.rb_levels.proofs.InnermostLevels.{alternates_there}
use Rattle.rb_levels.proofs.process.Level.alternates.Goals as goal

pub returns : goal.returns
returns c =
    let level = c.args.self.now in
    alternates_there level.conversation level.block.now c.len.result c.len.ensures
