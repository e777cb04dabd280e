use Rattle.std.proofs.Common.{◌≡◌, false, sym, ap, ap₂, ◌∙◌}
use Rattle.rb_code.specs.Instructions.Plain.{code}
use Rattle.rb_conv.specs.Conversations.{memberships, opening}
use Rattle.rb_machine.specs.Machine.{Seen, opening_seen}
use Rattle.rb_run.specs.Counting.{counts}
use Rattle.rb_verdict.specs.Summary.{summary_of}
use Rattle.rb_commands.specs.Products.{word_counts}
use Rattle.rb_commands.proofs.Loaded.{is_sound}
use Rattle.rb_turns.proofs.Ending.{put_done, put_stopped}
use Rattle.rb_commands.proofs.trial.try_turns.Goals as goal

pub load-requires-clause-sound : goal.load-requires-clause-sound
load-requires-clause-sound g c = is_sound c.requires.prepared.0 c.args.prepared.now c.requires.prepared.1

pub count-counts-requires-clause-fresh : goal.count-counts-requires-clause-fresh
count-counts-requires-clause-fresh g c =
    let loaded = c.in-Ok.ensures in
    loaded ∙ sym (ap (λ (m : Seen). opening_seen m.code m.groups false m.most) loaded)

pub returns-in-Ok-put_summary : goal.returns-in-Ok-put_summary
returns-in-Ok-put_summary g c =
    let prepared = c.args.prepared.now in
    let n = c.args.number in
    let turns = c.args.schedule.all in
    let counted : counts c.count-counts.result ≡ word_counts (code prepared.code) (memberships (opening prepared.nested)) turns =
    c.count-counts.ensures.counts ∙ ap (λ (m : Seen). word_counts m.code m.groups turns) c.in-Ok.ensures in
    put_done _ _ (ap₂ (summary_of n) c.turns-turns.ensures.all counted) _ _ _ _ _ c.in-Ok-put_summary.ensures

pub returns-in-Ok : goal.returns-in-Ok
returns-in-Ok g c =
    let prepared = c.args.prepared.now in
    let n = c.args.number in
    let turns = c.args.schedule.all in
    let counted : counts c.count-counts.result ≡ word_counts (code prepared.code) (memberships (opening prepared.nested)) turns =
    c.count-counts.ensures.counts ∙ ap (λ (m : Seen). word_counts m.code m.groups turns) c.in-Ok.ensures in
    put_stopped _ _ (ap₂ (summary_of n) c.turns-turns.ensures.all counted) _ _ _ _ _ c.in-Err-put_summary.ensures
