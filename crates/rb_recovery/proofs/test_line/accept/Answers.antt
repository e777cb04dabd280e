use Rattle.std.proofs.Common.{length, ap, sym, ◌∙◌, subst}
use Rattle.std.proofs.lemmas.Option.{get_or_from_slice_get}
use Rattle.rb_scope.proofs.Long.{got}
use Rattle.rb_code.specs.Instructions.Plain.{code as plain}
use Rattle.rb_proc.specs.Process.{Seen}
use Rattle.rb_world.specs.World.{last_of}
use Rattle.rb_recovery.specs.Channels.{conversation_in}
use Rattle.rb_recovery.specs.TestLines.{IsListed}
use Rattle.rb_recovery.proofs.Turning.TestLines.{alone_taken, gone_waits, stood_leave, stood_waits, together_taken}
use Rattle.rb_recovery.proofs.Working.LineWork.{alone_named, together_named}
use Rattle.rb_recovery.proofs.test_line.accept.Goals as goal

pub pass_line-requires-clause-waits : goal.pass_line-requires-clause-waits
pass_line-requires-clause-waits g c = stood_waits c.args.p c.args.procs.now c.stand.new.procs c.stand.ensures c.requires.waits

pub pass_line-requires-clause-leave : goal.pass_line-requires-clause-leave
pass_line-requires-clause-leave g c =
    stood_leave (plain c.args.code.now) c.args.p c.args.procs.now c.stand.new.procs c.stand.ensures c.requires.holds c.requires.leave

pub returns-in-None-clause-taken : goal.returns-in-None-clause-taken
returns-in-None-clause-taken g c = λ one memory e.
    let procs = c.args.procs.now in
    let same = get_or_from_slice_get procs c.args.p one c.index-procs-p.result e in
    let conversation = sym (ap (λ (x : Seen). conversation_in (last_of x.process.levels)) same) ∙ (sym c.conversation_of.ensures ∙ c.in-None.is) in
    alone_taken (plain c.args.code.now) memory procs c.args.table.now c.args.p one e c.leave_alone.new.procs
    (c.requires.holds one e).inside conversation
    c.leave_alone.ensures.gone

pub returns-in-None-clause-waits : goal.returns-in-None-clause-waits
returns-in-None-clause-waits g c =
    gone_waits (plain c.args.code.now) c.args.p c.args.procs.now c.leave_alone.new.procs c.leave_alone.ensures.gone c.requires.waits

pub returns-in-Some-clause-taken : goal.returns-in-Some-clause-taken
returns-in-Some-clause-taken g c = λ one memory e.
    let procs = c.args.procs.now in
    let same = get_or_from_slice_get procs c.args.p one c.index-procs-p.result e in
    let conversation = sym c.in-Some.is ∙ (c.conversation_of.ensures ∙ ap (λ (x : Seen). conversation_in (last_of x.process.levels)) same) in
    together_taken (plain c.args.code.now) memory procs c.args.table.now c.args.p one e c.in-Some.conversation c.stand.new.procs c.pass_line.new.procs
    c.pass_line.new.table c.pass_line.result conversation c.stand.ensures (c.pass_line.ensures.taken memory)

pub returns-in-None-clause-work : goal.returns-in-None-clause-work
returns-in-None-clause-work g c = λ one memory e.
    let procs = c.args.procs.now in
    let same = get_or_from_slice_get procs c.args.p one c.index-procs-p.result e in
    let conversation = sym (ap (λ (x : Seen). conversation_in (last_of x.process.levels)) same) ∙ (sym c.conversation_of.ensures ∙ c.in-None.is) in
    alone_named
    (plain c.args.code.now) c.args.steps.now c.leave_alone.new.steps memory procs c.args.table.now c.args.p one e
    (c.requires.holds one e).inside
    conversation (c.leave_alone.ensures.work one e)

pub returns-in-Some-clause-work : goal.returns-in-Some-clause-work
returns-in-Some-clause-work g c = λ one memory e.
    let procs = c.args.procs.now in
    let same = get_or_from_slice_get procs c.args.p one c.index-procs-p.result e in
    let conversation = sym c.in-Some.is ∙ (c.conversation_of.ensures ∙ ap (λ (x : Seen). conversation_in (last_of x.process.levels)) same) in
    together_named (plain c.args.code.now) c.args.steps.now c.pass_line.new.steps memory procs c.args.table.now c.args.p one e c.in-Some.conversation
    c.stand.new.procs conversation c.stand.ensures (c.pass_line.ensures.work memory)

pub pass_line-requires-clause-conversation : goal.pass_line-requires-clause-conversation
pass_line-requires-clause-conversation g c =
    let there = got c.args.procs.now c.args.p c.index-procs-p.result c.requires.process c.index-procs-p.is in
    subst (IsListed (length c.args.table.now))
    (ap (λ (x : Seen). conversation_in (last_of x.process.levels)) c.index-procs-p.is ∙ sym c.conversation_of.ensures ∙ c.in-Some.is)
    (c.requires.listed c.index-procs-p.result there)
