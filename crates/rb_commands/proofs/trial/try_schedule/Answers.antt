use Rattle.std.proofs.Common.{◌≡◌, [], ◌∷◌, length, ap, refl}
use Rattle.rb_code.specs.Instructions.Plain.{code}
use Rattle.rb_conv.specs.Conversations.{memberships, opening}
use Rattle.rb_verdict.specs.Judging.{OverSchedule}
use Rattle.rb_verdict.specs.Summary.{summary_of, summary_text}
use Rattle.rb_commands.specs.Products.{word_counts}
use Rattle.rb_commands.specs.declared.why.Why.TheVariants as knows
use Rattle.rb_commands.proofs.Ending.{whole_ends}
use Rattle.rb_commands.proofs.Scheduled.{turns_refused}
use Rattle.rb_commands.proofs.Trials.{trial_writes}
use Rattle.rb_commands.proofs.trial.try_schedule.Goals as goal

pub returns-in-Ok : goal.returns-in-Ok
returns-in-Ok g c =
    let prepared = c.args.prepared.now in
    let n = c.args.number in
    let listed = c.in-Ok.ensures.turns in
    let turns = c.in-Ok.schedule.all in
    let text = summary_of n (length turns) (word_counts (code prepared.code) (memberships (opening prepared.nested)) turns) in
    λ source accepted.
    whole_ends (OverSchedule (summary_text n) accepted.tree (c.args.text.now ∷ [])) (λ fault known. known ≡ knows.Plain) ⊥ text
    (trial_writes n source prepared accepted c.args.text.now listed.0 turns listed.1 (ap (λ s. s.all) listed.2))
    (g.S.Sink.written c.args.out.now) (g.S.Sink.written c.try_turns.new.out) (g.S.Sink.faults c.args.out.now)
    (g.S.Sink.faults c.try_turns.new.out) c.try_turns.result c.try_turns.ensures

pub returns-in-Err : goal.returns-in-Err
returns-in-Err g c =
    λ source accepted. (
      turns_refused source c.args.prepared.now accepted (summary_text c.args.number accepted.tree) c.args.text.now c.in-Err.fault c.in-Err.ensures.turns,
      refl,
      refl,
      refl,
    )
