use Rattle.std.proofs.Common.{ap, sym, ◌∙◌}
use Rattle.rb_proc.specs.Given.{alternate_by}
use Rattle.rb_proc.specs.declared.answers.Wanted.{Wanted}
use Rattle.rb_recovery.proofs.Turning.InnermostLevel.{tried_seen}
use Rattle.rb_recovery.proofs.innermost.started.Goals as goal

pub returns-in-Start : goal.returns-in-Start
returns-in-Start g c =
    let levels = c.args.proc.now.process.levels in
    c.tried.ensures ∙ (tried_seen _ c.innermost.result c.innermost.ensures ∙ ap (λ (w : Wanted). alternate_by w levels) (sym c.in-Start.is))
