use Rattle.clap.specs.Words.{app_of}
use Rattle.rb_asking.proofs.Joining.{command_joined}
use Rattle.rb_asking.proofs.line.with_commands.Goals as goal

pub loop-guide-preserved : goal.loop-guide-preserved
loop-guide-preserved c =
    command_joined (app_of c.args.program) c.args.guides.now c.loop-guide.guide-index _ c.loop-guide-test.true
    (app_of c.in_ok-program.program) (app_of c.loop-guide.program) c.loop-guide.invariant c.in_ok-program.ensures
