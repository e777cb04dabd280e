use Rattle.std.proofs.Common.{ap, ◌∙◌, set}
use Rattle.rb_conv.proofs.Places.{set-changes}
use Rattle.rb_recovery.specs.TestLines.{stood}
use Rattle.rb_recovery.proofs.test_line.stand.Goals as goal

pub returns : goal.returns
returns g c =
    ap (set c.args.procs.now c.args.p) c.stand.ensures
    ∙ set-changes stood c.args.procs.now c.args.p c.index-procs-p.result c.requires
