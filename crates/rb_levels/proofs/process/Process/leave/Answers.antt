-- The levels that are left without the last.
use Rattle.std.proofs.Common.{◌≡◌, ap, ◌∙◌, length, vec_len, arith}
use Rattle.rb_syntax.specs.Plain.{tree}
use Rattle.rb_world.specs.World.{settled}
use Rattle.rb_walk.specs.States.{state_of}
use Rattle.rb_levels.specs.Worlds.{unkept_kind}
use Rattle.rb_levels.proofs.InnermostLevels.{popped_is}
use Rattle.rb_levels.proofs.process.Process.leave.Goals as goal

pub returns : goal.returns
returns c =
    let levels = c.args.self.now.levels in
    let long : length levels.items ≡ vec_len levels = omega (arith, levels.ok.0) in
    let left = popped_is levels.items c.pop.new.self.items (vec_len levels) long c.pop.ensures.rest in
    c.settle.ensures ∙ ap (settled (unkept_kind (tree c.args.program.now)) (state_of c.args.self.now.state)) left
