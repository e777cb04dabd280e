use Rattle.std.proofs.Common.{◌≡◌, ◌≤◌, length, subst, sym, ◌∙◌}
use Rattle.rb_base.specs.declared.limits.TheConstants.{MOST_BYTES}
use Rattle.rb_make.specs.Trial.{schedule, schedule_of, source, source_of}
use Rattle.rb_make.proofs.Short.{short_schedule_of, short_source_of}
use Rattle.rb_make.proofs.trial.make.Goals as goal

pub returns-clause-short : goal.returns-clause-short
returns-clause-short c =
    let own = c.sizes_of-sizes.ensures in
    let source_is : c.in_ok-source.source.items ≡ source_of c.args.number =
    c.in_ok-source.ensures ∙ (λ i. source (own.processes i) (own.rounds i) (own.added i)) in
    let schedule_is : c.in_ok-schedule.schedule.items ≡ schedule_of c.args.number =
    c.in_ok-schedule.ensures ∙ (λ i. schedule (own.processes i) (own.rounds i)) in (
      subst (λ text. length text ≤ MOST_BYTES) (sym source_is) (short_source_of c.args.number),
      subst (λ text. length text ≤ MOST_BYTES) (sym schedule_is) (short_schedule_of c.args.number),
    )
