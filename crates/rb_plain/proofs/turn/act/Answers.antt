-- What comes of the process that stands at the number comes of its world.
use Rattle.std.proofs.Common.{◌≡◌, true, Some, Ok, ap, sym, ◌∙◌, subst}
use Rattle.rb_syntax.specs.Plain.{recovery_block, tree}
use Rattle.rb_world.specs.World.{settled}
use Rattle.rb_walk.specs.declared.items.First.{First}
use Rattle.rb_walk.specs.Items.{IsFirst}
use Rattle.rb_levels.specs.Moves.{started_by}
use Rattle.rb_walk.specs.States.{state_of}
use Rattle.rb_levels.specs.Worlds.{process_of, unkept_kind, world_of}
use Rattle.rb_plain.specs.Turns.{may_give}
use Rattle.rb_plain.proofs.ActedWorlds.{ended, end_given, no_number, starts, stuck_given}
use Rattle.rb_plain.proofs.MovedProcesses.{moved_there}
use Rattle.rb_plain.proofs.turn.act.Goals as goal

pub returns-then-not-may_give : goal.returns-then-not-may_give
returns-then-not-may_give c = λ one there.
    stuck_given (tree c.args.program.now) c.args.kept (process_of one) (world_of (tree c.args.program.now) c.args.processes.now) c.args.first
    (c.requires.first one there).1 (sym c.may_give.ensures ∙ c.if-not-may_give.true)

pub perform-requires-clause-alternate : goal.perform-requires-clause-alternate
perform-requires-clause-alternate c =
    no_number c.args.kept.alternate
    (subst (λ (first : First). may_give first c.args.kept.alternate ≡ true) c.in-Statement.is (sym c.may_give.ensures ∙ c.if-not-may_give.false))

pub perform-requires-clause-first : goal.perform-requires-clause-first
perform-requires-clause-first c = λ one there.
    let found = c.requires.first one there in
    (found.0, subst (IsFirst (state_of one.state).items) c.in-Statement.is found.1)

pub judge-requires-clause-alternate : goal.judge-requires-clause-alternate
judge-requires-clause-alternate c =
    no_number c.args.kept.alternate
    (subst (λ (first : First). may_give first c.args.kept.alternate ≡ true) c.in-Test.is (sym c.may_give.ensures ∙ c.if-not-may_give.false))

pub judge-requires-clause-first : goal.judge-requires-clause-first
judge-requires-clause-first c = λ one there.
    let found = c.requires.first one there in
    (found.0, subst (IsFirst (state_of one.state).items) c.in-Test.is found.1)

pub returns-in-Start : goal.returns-in-Start
returns-in-Start c = λ one there.
    let plain = tree c.args.program.now in
    let processes = c.args.processes.now in
    let block = recovery_block c.in-Start.block.now in
    moved_there plain c.args.kept processes one c.index-processes-p.result there (started_by plain c.args.kept block)
    c.start.new.self c.start.result
    (starts plain c.args.kept (process_of one) (world_of plain processes) block
    (subst (IsFirst (state_of one.state).items) c.in-Start.is (c.requires.first one there).1))
    c.start.ensures

pub returns-in-BlockEnd : goal.returns-in-BlockEnd
returns-in-BlockEnd c = λ one there.
    let plain = tree c.args.program.now in
    let processes = c.args.processes.now in
    let kept = c.args.kept in
    moved_there {A = Unit {0}} plain kept processes one c.index-processes-p-in-BlockEnd.result there
    (λ q. Some (settled (unkept_kind plain) q.state q.levels)) c.settle.new.self (Ok tt)
    (ended plain kept (process_of one) (world_of plain processes)
    (end_given c.args.first c.args.kept.alternate c.in-BlockEnd.is (sym c.may_give.ensures ∙ c.if-not-may_give.false))
    c.args.first c.in-BlockEnd.is (c.requires.first one there).1)
    (ap Some (sym c.settle.ensures))
