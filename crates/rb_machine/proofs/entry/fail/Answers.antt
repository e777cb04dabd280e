-- Only the process that fails is changed.
use Rattle.std.proofs.Common.{ap, ◌∙◌, set}
use Rattle.rb_base.specs.declared.event.Cause.TheVariants.{Broken}
use Rattle.rb_world.specs.Reject.{fallen}
use Rattle.rb_conv.proofs.Places.{set-changes}
use Rattle.rb_proc.specs.Process.{kind_of}
use Rattle.rb_recovery.specs.Rejections.{changed}
use Rattle.rb_machine.proofs.entry.fail.Goals as goal

pub returns : goal.returns
returns g c code =
    let procs = c.args.procs.now in
    ap (set procs c.args.p) (c.fail.ensures code)
    ∙ set-changes (changed (fallen (kind_of code) Broken)) procs c.args.p c.index-procs-p.result c.requires
