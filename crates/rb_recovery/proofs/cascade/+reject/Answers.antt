use Rattle.std.proofs.Common.{◌≡◌, ◌+◌, ◌-◌, [], subst, arith}
use Rattle.rb_base.specs.declared.event.Cause.TheVariants.{Inner}
use Rattle.rb_world.specs.Reject.{fallen, reject}
use Rattle.rb_code.specs.WordMachine.Turn.{Common}
use Rattle.rb_proc.specs.Process.{kind_of}
use Rattle.rb_recovery.specs.Cascade.{MayRejectAt}
use Rattle.rb_recovery.specs.Work.{touched_by}
use Rattle.rb_recovery.specs.Worlds.{kind_with, processes_of, world_of}
use Rattle.rb_recovery.proofs.Rejecting.CascadeEnds.{falls, falls_quietly, one_told}
use Rattle.rb_recovery.proofs.Beginning.SomeCode.{some_code}
use Rattle.rb_recovery.proofs.Working.UndoingWork.{one_fewer, touched_fallen, undoes_further}
use Rattle.rb_recovery.proofs.cascade.+reject.Goals as goal

pub returns-then-left-eq0-clause-happened : goal.returns-then-left-eq0-clause-happened
returns-then-left-eq0-clause-happened g t c =
    falls c.args.procs.now c.args.table.now c.args.p c.args.cause c.index-procs-p.result c.fail.new.self c.requires.process c.fail.ensures
    c.args.left c.if-left-eq0.true c.args.events.now.items

pub returns-then-left-eq0-clause-waits : goal.returns-then-left-eq0-clause-waits
returns-then-left-eq0-clause-waits g t c =
    falls_quietly c.args.procs.now c.args.table.now c.args.p c.args.cause c.index-procs-p.result c.fail.new.self
    c.requires.process c.fail.ensures c.requires.quiet.lines

pub reject_level-requires-clause-may : goal.reject_level-requires-clause-may
reject_level-requires-clause-may g t c =
    let same : c.args.left ≡ c.args.left - 1 + 1 = omega (arith, c.if-left-eq0.false) in
    subst (MayRejectAt c.args.procs.now c.args.table.now c.args.p) same c.requires.may

pub reject-requires : goal.reject-requires
reject-requires g t c κs within =
    let added = one_told c.args.events.now.items c.reject_level.new.events.items c.reject_level.ensures.rejected in (
      omega (arith, c.if-left-eq0.false, c.decreases),
      (
        within,
        (
          omega (arith, c.requires.process, c.reject_level.auto.procs),
          (
            c.reject_level.ensures.may c.if-reject_level.true,
            (
              c.reject_level.ensures.quiet c.if-reject_level.true,
              omega (arith, c.requires.room, c.if-left-eq0.false, added),
            ),
          ),
        ),
      ),
    )

pub returns-then-left-eq0-clause-work : goal.returns-then-left-eq0-clause-work
returns-then-left-eq0-clause-work g t c =
    let fewer = one_fewer touched_by (fallen (kind_of some_code) c.args.cause) (touched_fallen some_code c.args.cause) c.args.procs.now c.args.p
    c.index-procs-p.result c.fail.new.self c.requires.process (c.fail.ensures some_code) in
    omega arith

pub returns-then-reject_level-clause-work : goal.returns-then-reject_level-clause-work
returns-then-reject_level-clause-work g t c =
    let level = c.reject_level in
    let k = kind_with some_code level.new.table in
    let none : Common = record { slots = []; links = [] } in
    let more = (reject k c.args.p (c.args.left - 1) Inner (world_of level.new.procs level.new.table none)).1 in
    undoes_further (processes_of c.args.procs.now) (processes_of level.new.procs) level.ensures.fewer (processes_of c.reject.new.procs)
    c.args.events.now.items level.new.events.items more c.reject.new.events.items c.args.steps.now level.new.steps c.reject.new.steps
    (c.reject.ensures.happened some_code none).told level.ensures.work c.reject.ensures.work
