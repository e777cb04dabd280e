use Rattle.std.proofs.Common.{◌<◌, length, nat_eq, nat_lt, refl, subst, arith}
use Rattle.rb_scope.proofs.Long.{got}
use Rattle.rb_conv.specs.Conversations.{conversation_at}
use Rattle.rb_conv.specs.Reject.{has_next}
use Rattle.rb_proc.specs.Process.{Seen, kind_of}
use Rattle.rb_recovery.specs.Rejections.{tried_alone, tried_together}
use Rattle.rb_recovery.specs.Work.{inside_one}
use Rattle.rb_recovery.proofs.Rejecting.LevelRejected.{alone_may, alone_quiet, alone_rejected, alone_waits, conversation_there}
use Rattle.rb_recovery.proofs.Rejecting.LevelRejected.{same_groups, together_may, together_quiet, together_rejected, together_waits}
use Rattle.rb_recovery.proofs.Beginning.SomeCode.{some_code}
use Rattle.rb_recovery.proofs.Working.UndoingWork.{all_fewer, alone_undoes, inside_alone, inside_together, one_fewer, together_undoes}
use Rattle.rb_recovery.proofs.cascade.reject_level.Goals as goal

pub reject_together-requires-clause-conversation :
    goal.reject_together-requires-clause-conversation
reject_together-requires-clause-conversation g c =
    let a = c.args in
    let view = c.level-level in
    conversation_there a.procs.now a.table.now a.p a.inner c.index-procs-p.result view.result c.requires.process c.requires.may view.ensures
    c.in-Some.conversation c.in-Some.is

pub returns-in-None-clause-rejected : goal.returns-in-None-clause-rejected
returns-in-None-clause-rejected g c =
    let a = c.args in
    let view = c.level-level in
    let gone = c.reject_alone in
    alone_rejected a.procs.now a.table.now a.p a.inner c.index-procs-p.result view.result c.requires.process c.requires.may view.ensures
    gone.new.proc c.index-procs-p-in-None.result (nat_lt view.result.alternate view.result.alternates) gone.ensures.process refl
    a.cause gone.result c.rejection.result a.events.now.items c.push.new.self.items c.in-None.is gone.ensures.answer c.rejection.ensures c.push.ensures.items

pub returns-in-None-clause-may : goal.returns-in-None-clause-may
returns-in-None-clause-may g c =
    let a = c.args in
    let view = c.level-level in
    let gone = c.reject_alone in
    alone_may a.procs.now a.table.now a.p a.inner c.index-procs-p.result view.result c.requires.process c.requires.may view.ensures
    gone.new.proc c.index-procs-p-in-None.result (nat_lt view.result.alternate view.result.alternates) gone.ensures.process refl
    gone.result gone.ensures.answer

pub returns-in-None-clause-quiet : goal.returns-in-None-clause-quiet
returns-in-None-clause-quiet g c =
    let a = c.args in
    let view = c.level-level in
    let gone = c.reject_alone in
    alone_quiet a.procs.now a.table.now a.p a.inner c.index-procs-p.result view.result c.requires.process c.requires.may view.ensures
    gone.new.proc c.index-procs-p-in-None.result (nat_lt view.result.alternate view.result.alternates) gone.ensures.process refl
    c.requires.quiet gone.result gone.ensures.answer

pub returns-in-None-clause-waits : goal.returns-in-None-clause-waits
returns-in-None-clause-waits g c =
    let a = c.args in
    let view = c.level-level in
    let gone = c.reject_alone in
    alone_waits a.procs.now a.table.now a.p a.inner c.index-procs-p.result view.result c.requires.process c.requires.may view.ensures
    gone.new.proc c.index-procs-p-in-None.result (nat_lt view.result.alternate view.result.alternates) gone.ensures.process refl
    c.requires.quiet

pub returns-in-Some-clause-rejected : goal.returns-in-Some-clause-rejected
returns-in-Some-clause-rejected g c =
    let a = c.args in
    let view = c.level-level in
    let gone = c.reject_together in
    together_rejected a.procs.now a.table.now a.p a.inner c.index-procs-p.result view.result c.requires.process c.requires.may view.ensures
    c.in-Some.conversation c.in-Some.is gone.new.procs gone.new.table gone.ensures.table gone.ensures.processes gone.result gone.ensures.answer
    a.cause c.rejection.result a.events.now.items c.push.new.self.items c.rejection.ensures c.push.ensures.items

pub returns-in-Some-clause-may : goal.returns-in-Some-clause-may
returns-in-Some-clause-may g c =
    let a = c.args in
    let view = c.level-level in
    let gone = c.reject_together in
    together_may a.procs.now a.table.now a.p a.inner c.index-procs-p.result view.result c.requires.process c.requires.may view.ensures
    c.in-Some.conversation c.in-Some.is gone.new.procs gone.new.table gone.ensures.table gone.ensures.processes gone.result gone.ensures.answer

pub returns-in-Some-clause-quiet : goal.returns-in-Some-clause-quiet
returns-in-Some-clause-quiet g c =
    let a = c.args in
    let view = c.level-level in
    let gone = c.reject_together in
    together_quiet a.procs.now a.table.now a.p a.inner c.index-procs-p.result view.result c.requires.process c.requires.may view.ensures
    c.in-Some.conversation c.in-Some.is gone.new.procs gone.new.table gone.ensures.table gone.ensures.processes gone.result gone.ensures.answer
    c.requires.quiet

pub returns-in-Some-clause-waits : goal.returns-in-Some-clause-waits
returns-in-Some-clause-waits g c =
    let a = c.args in
    let view = c.level-level in
    let gone = c.reject_together in
    together_waits a.procs.now a.table.now a.p a.inner c.index-procs-p.result view.result c.requires.process c.requires.may view.ensures
    c.in-Some.conversation c.in-Some.is gone.new.procs gone.new.table gone.ensures.table gone.ensures.processes gone.result gone.ensures.answer
    c.requires.quiet

pub returns-in-Some-clause-groups : goal.returns-in-Some-clause-groups
returns-in-Some-clause-groups g c = same_groups c.args.table.now c.reject_together.new.table c.in-Some.conversation c.reject_together.ensures.table

pub returns-in-None-clause-work : goal.returns-in-None-clause-work
returns-in-None-clause-work g c =
    let a = c.args in
    let gone = c.reject_alone in
    alone_undoes a.procs.now a.p c.level-level.result a.cause c.rejection.result a.events.now.items c.push.new.self.items c.rejection.ensures c.push.ensures.items
    a.steps.now gone.new.steps c.index-procs-p-in-None.result gone.new.proc c.requires.process c.in-None.is gone.ensures.work

pub returns-in-None-clause-fewer : goal.returns-in-None-clause-fewer
returns-in-None-clause-fewer g c x =
    let a = c.args in
    let view = c.level-level in
    let gone = c.reject_alone in
    let k = kind_of some_code in
    let more = nat_lt view.result.alternate view.result.alternates in
    one_fewer (inside_one x) (tried_alone k more a.inner) (inside_alone k x more a.inner) a.procs.now a.p c.index-procs-p-in-None.result gone.new.proc
    c.requires.process (gone.ensures.process some_code)

pub returns-in-Some-clause-work : goal.returns-in-Some-clause-work
returns-in-Some-clause-work g c =
    let a = c.args in
    let gone = c.reject_together in
    together_undoes a.procs.now a.p c.level-level.result a.cause c.rejection.result a.events.now.items c.push.new.self.items c.rejection.ensures c.push.ensures.items
    a.steps.now gone.new.steps c.in-Some.conversation gone.new.procs c.in-Some.is gone.ensures.work

pub returns-in-Some-clause-fewer : goal.returns-in-Some-clause-fewer
returns-in-Some-clause-fewer g c x =
    let a = c.args in
    let gone = c.reject_together in
    let k = kind_of some_code in
    let d = c.in-Some.conversation in
    let more = has_next (conversation_at a.table.now d) in
    let lone = nat_eq a.inner 0 in
    all_fewer (inside_one x) (tried_together k more lone d) (inside_together k x more lone d) a.procs.now gone.new.procs
    (gone.ensures.processes some_code)

pub level-level-requires : goal.level-level-requires
level-level-requires g c =
    let one = c.index-procs-p.result in
    let may = c.requires.may one (got c.args.procs.now c.args.p one c.requires.process c.index-procs-p.is) in
    let within = may.within in
    subst (λ (x : Seen). c.args.inner < length x.process.levels) c.index-procs-p.is (omega arith)

pub reject_alone-requires-clause-level : goal.reject_alone-requires-clause-level
reject_alone-requires-clause-level g c =
    let one = c.index-procs-p-in-None.result in
    let may = c.requires.may one (got c.args.procs.now c.args.p one c.requires.process c.index-procs-p-in-None.is) in
    let within = may.within in
    subst (λ (x : Seen). c.args.inner < length x.process.levels) c.index-procs-p-in-None.is (omega arith)
