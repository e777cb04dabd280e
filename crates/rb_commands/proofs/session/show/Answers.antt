use Rattle.std.proofs.Common.{◌≡◌, ℕ, [], ◌∷◌, length, vec_len, Err, Ok, ap, refl, subst, sym, ◌∙◌}
use Rattle.rb_base.specs.Naming.{process_names}
use Rattle.rb_code.specs.Instructions.Plain.{code}
use Rattle.rb_conv.specs.Conversations.{memberships, opening}
use Rattle.rb_sched.specs.Schedule.{Plan}
use Rattle.rb_script.specs.Script.{CanFollow, script_of}
use Rattle.rb_script.specs.Shown.{session_text}
use Rattle.rb_verdict.specs.Judging.{SessionGoesOn}
use Rattle.rb_commands.specs.Explained.{NamesOfSource}
use Rattle.rb_commands.specs.Written.{KnowsNames, PutsFrontOrMemory}
use Rattle.rb_commands.proofs.Ending.{front_ends}
use Rattle.rb_commands.proofs.Scheduled.{its_names}
use Rattle.rb_commands.proofs.Sessions.{orders_followed, orders_refused}
use Rattle.rb_commands.proofs.session.show.Goals as goal

pub follow-requires-clause-whole : goal.follow-requires-clause-whole
follow-requires-clause-whole g c =
    let same = c.counted-again.ensures.turns c.requires.read.0 c.requires.read.1 in
    ap (λ (plan : Plan). plan.left) same ∙ sym (ap (λ (plan : Plan). plan.all) same)

pub follow-requires-clause-can_follow : goal.follow-requires-clause-can_follow
follow-requires-clause-can_follow g c =
    let same = c.counted-again.ensures.turns c.requires.read.0 c.requires.read.1 in
    subst (λ (n : ℕ). CanFollow (vec_len c.args.prepared.code.names.processes) n 0 c.in-Ok.script)
    (c.requires.read.2 ∙ sym (ap (λ (plan : Plan). length plan.left) same)) c.in-Ok.ensures.can_follow

pub returns-in-Ok : goal.returns-in-Ok
returns-in-Ok g c source accepted =
    let prepared = c.args.prepared in
    let all = c.requires.read.0 in
    let same = c.counted-again.ensures.turns all c.requires.read.1 in
    let orders = c.in-Ok.script in
    let session = c.args.session.now in
    let w0 = g.S.Sink.written c.args.out.now in
    let w1 = g.S.Sink.written c.follow.new.out in
    let f0 = g.S.Sink.faults c.args.out.now in
    let f1 = g.S.Sink.faults c.follow.new.out in
    let given = subst (λ (n : ℕ). script_of (process_names prepared.code.names) n session ≡ Ok orders) c.requires.read.2 c.in-Ok.ensures.orders in
    front_ends (SessionGoesOn accepted.tree (c.args.schedule.now ∷ session ∷ [])) (KnowsNames (NamesOfSource source)) (Unit {0})
    (session_text (code prepared.code) (memberships (opening prepared.nested)) all orders)
    (orders_followed source prepared accepted c.args.schedule.now session all c.requires.read.1 orders given)
    w0 w1 f0 f1 tt c.follow.result
    (subst (λ (plan : Plan). PutsFrontOrMemory (session_text (code prepared.code) (memberships (opening prepared.nested)) plan.all orders)
    w0 w1 f0 f1 c.follow.result) same c.follow.ensures)

pub returns : goal.returns
returns g c source accepted =
    let prepared = c.args.prepared in
    let session = c.args.session.now in
    let fault = c.in-Err.fault in
    let bad = subst (λ (n : ℕ). script_of (process_names prepared.code.names) n session ≡ Err fault) c.requires.read.2 c.in-Err.ensures.orders in (
      orders_refused source prepared accepted c.args.schedule.now session c.requires.read.0 c.requires.read.1 fault bad,
      (c.into_names.result, refl, subst (NamesOfSource source) (sym c.into_names.ensures) (its_names source prepared accepted)),
      refl,
      refl,
    )
