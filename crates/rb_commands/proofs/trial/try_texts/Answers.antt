use Rattle.std.proofs.Common.{◌≡◌, ℕ, List, [], ◌∷◌, refl, subst}
use Rattle.rb_judge.specs.Verdict.{IsAccepted}
use Rattle.rb_hall.proofs.Ends.{ends_as}
use Rattle.rb_verdict.specs.Judging.{Judges, OverSchedule}
use Rattle.rb_verdict.specs.Summary.{summary_text}
use Rattle.rb_verdict.specs.Texts.{SourceRefused}
use Rattle.rb_verdict.specs.Words.{Trial}
use Rattle.rb_commands.specs.Explained.{ExplainsSource}
use Rattle.rb_commands.specs.declared.why.Why.TheVariants as knows
use Rattle.rb_commands.proofs.Trials.{trial_ends, trial_refused}
use Rattle.rb_commands.proofs.trial.try_texts.Goals as goal

pub returns-in-Ok : goal.returns-in-Ok
returns-in-Ok g c =
    let n = c.args.number in
    let accepted = c.in-Ok.ensures.prepared in
    let text = c.args.schedule.now in
    ends_as (OverSchedule (summary_text n) accepted.tree (text ∷ [])) (Judges (Trial n) []) (λ fault known. known ≡ knows.Plain) (ExplainsSource [])
    ⊥ ⊥ (g.S.Sink.written c.args.out.now) (g.S.Sink.written c.try_schedule.new.out) (g.S.Sink.faults c.args.out.now)
    (g.S.Sink.faults c.try_schedule.new.out) c.try_schedule.result
    (λ j h. trial_ends n accepted.tree (subst (λ (source : List ℕ). IsAccepted source accepted.tree) c.requires.source accepted.accepted) j
    (subst (λ (schedule : List ℕ). OverSchedule (summary_text n) accepted.tree (schedule ∷ []) j) c.requires.schedule h))
    (λ fault known plain. plain) (λ never. never)
    (c.try_schedule.ensures c.args.source.now accepted)

pub returns-in-Err-Refused : goal.returns-in-Err-Refused
returns-in-Err-Refused g c =
    let refused = rw c.in-Err-Refused.field-0-is at c.in-Err-Refused.ensures.refused in
    rw c.in-Err-Refused.field-0-is (
      trial_refused c.args.number c.in-Err-Refused.fault
          (subst (λ (source : List ℕ). SourceRefused source c.in-Err-Refused.fault) c.requires.source refused.0),
      refused.1,
      refl,
      refl,
    )
