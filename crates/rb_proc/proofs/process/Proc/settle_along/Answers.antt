use Rattle.std.proofs.Common.{◌≤◌, ◌+◌, ◌*◌, [], List, ap, sym, ◌∙◌, subst, arith}
use Rattle.rb_world.specs.Kind.{Membership}
use Rattle.rb_world.specs.World.{settled}
use Rattle.rb_code.specs.Instructions.Plain.{code as plain}
use Rattle.rb_code.specs.SoundCode.Stands.{SettlesSoundly}
use Rattle.rb_proc.specs.Given.{alternate_by}
use Rattle.rb_proc.specs.Outcomes.{pieces_in}
use Rattle.rb_proc.specs.Process.{Seen, kind_of}
use Rattle.rb_proc.specs.Sees.{AreSized}
use Rattle.rb_proc.specs.Work.{named_settling}
use Rattle.rb_proc.specs.declared.answers.Wanted.{Wanted}
use Rattle.rb_proc.proofs.Listed.{is_among, process_listed}
use Rattle.rb_proc.proofs.Stepping.{none_rise, settle_named, settle_safe, settle_seen, settle_stays}
use Rattle.rb_proc.proofs.process.Proc.settle_along.Goals as goal

pub run-ended-requires-clause-sized : goal.run-ended-requires-clause-sized
run-ended-requires-clause-sized g c = subst (AreSized (plain c.args.code.now)) (sym c.none-none.ensures) tt

pub run-ended-requires-clause-safe : goal.run-ended-requires-clause-safe
run-ended-requires-clause-safe g c =
    let code = plain c.args.code.now in
    let i = c.self.inside in
    let settles =
    subst (λ (old : Seen). (groups : List Membership) × SettlesSoundly code groups old.process.state old.process.levels)
    (sym c.self.view_is) c.requires.settles in
    settle_safe code i.memory i.process i.at i.last_kept c.clear.new.self c.none-operands.result c.new-sight.result c.new-sight.ensures.process
    c.new-sight.ensures.message (ap (λ (w : Wanted). alternate_by w i.memory.levels) c.new-sight.ensures.wanted) c.none-operands.ensures
    c.clear.ensures.line c.clear.ensures.counters c.none-none.result c.none-none.ensures
    settles.0 settles.1

pub run-ended-requires-clause-stays : goal.run-ended-requires-clause-stays
run-ended-requires-clause-stays g c =
    let code = plain c.args.code.now in
    let i = c.self.inside in
    let settles =
    subst (λ (old : Seen). (groups : List Membership) × SettlesSoundly code groups old.process.state old.process.levels)
    (sym c.self.view_is) c.requires.settles in (
      [],
      none_rise code c.new-sight.result.process,
      settle_stays code i.memory i.process i.at i.last_kept c.clear.new.self c.none-operands.result c.new-sight.result c.new-sight.ensures.process
          c.new-sight.ensures.message (ap (λ (w : Wanted). alternate_by w i.memory.levels) c.new-sight.ensures.wanted) c.none-operands.ensures
          c.clear.ensures.line c.clear.ensures.counters c.none-none.result c.none-none.ensures settles.0 settles.1,
    )

pub returns-clause-settled : goal.returns-clause-settled
returns-clause-settled g c =
    let code = plain c.args.code.now in
    let i = c.self.inside in
    settle_seen code i.memory i.process i.at i.last_kept c.clear.new.self c.none-operands.result c.new-sight.result c.new-sight.ensures.process
    c.new-sight.ensures.message (ap (λ (w : Wanted). alternate_by w i.memory.levels) c.new-sight.ensures.wanted) c.none-operands.ensures
    c.clear.ensures.line c.clear.ensures.counters c.none-none.result c.none-none.ensures
    c.run-ended.result c.run-ended.new.memory (pieces_in code.texts c.run-ended.new.bench) c.run-ended.new.bench.counters c.run-ended.new.mails
    c.status_here-self-inside.result c.end_of-at.result c.run-ended.ensures.ended c.run-ended.ensures.kept c.end_of-at.ensures c.status_here-self-inside.ensures
    ∙ ap (λ (old : Seen). record old { process = settled (kind_of code) old.process.state old.process.levels }) c.self.view_is

pub returns-clause-work : goal.returns-clause-work
returns-clause-work g c =
    let code = plain c.args.code.now in
    let i = c.self.inside in
    let same = settle_named code i.memory i.process i.at i.last_kept c.clear.new.self c.none-operands.result c.new-sight.result
    c.new-sight.ensures.process c.new-sight.ensures.message (ap (λ (w : Wanted). alternate_by w i.memory.levels) c.new-sight.ensures.wanted)
    c.none-operands.ensures c.clear.ensures.line c.clear.ensures.counters c.none-none.result c.none-none.ensures in
    subst (λ (old : Seen). c.run-ended.new.steps ≤ c.args.steps.now + 3 * named_settling code old.process.state old.process.levels) c.self.view_is
    (omega (arith, same, c.run-ended.ensures.work))

pub new-sight-requires-clause-process : goal.new-sight-requires-clause-process
new-sight-requires-clause-process g c =
    let code = plain c.args.code.now in
    let settles =
    subst (λ (old : Seen). (groups : List Membership) × SettlesSoundly code groups old.process.state old.process.levels)
    (sym c.self.view_is) c.requires.settles in
    process_listed c.args.code.now c.self.inside.process (is_among code.processes c.self.inside.process settles.1.settles.exists)

pub new-sight-requires-clause-places : goal.new-sight-requires-clause-places
new-sight-requires-clause-places g c =
    let code = plain c.args.code.now in
    let settles =
    subst (λ (old : Seen). (groups : List Membership) × SettlesSoundly code groups old.process.state old.process.levels)
    (sym c.self.view_is) c.requires.settles in
    c.requires.code.places c.self.inside.process (is_among code.processes c.self.inside.process settles.1.settles.exists)

pub new-sight-requires-clause-words : goal.new-sight-requires-clause-words
new-sight-requires-clause-words g c =
    let code = plain c.args.code.now in
    let settles =
    subst (λ (old : Seen). (groups : List Membership) × SettlesSoundly code groups old.process.state old.process.levels)
    (sym c.self.view_is) c.requires.settles in
    c.requires.code.words c.self.inside.process (is_among code.processes c.self.inside.process settles.1.settles.exists)
