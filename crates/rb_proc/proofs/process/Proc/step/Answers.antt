use Rattle.std.proofs.Common.{◌≡◌, ℕ, ◌+◌, ◌*◌, ◌≤◌, Bool, false, List, refl, ap, sym, ◌∙◌, subst, arith}
use Rattle.rb_world.specs.Kind.{Membership}
use Rattle.rb_world.specs.World.{Level, ProcessStatus as Stands}
use Rattle.rb_code.specs.Instructions.Plain.{code as plain}
use Rattle.rb_code.specs.SoundCode.Stands.{Serves, StandsSoundly}
use Rattle.rb_code.specs.WordMachine.Turn.{Copy, want}
use Rattle.rb_recoverable.specs.Contents.{Contents}
use Rattle.rb_proc.specs.Given.{alternate_by}
use Rattle.rb_proc.specs.Outcomes.{whole}
use Rattle.rb_proc.specs.Runs.{CursorsRise}
use Rattle.rb_proc.specs.Process.{Seen, StepsTo, alternate_for, step_of, wanted_by}
use Rattle.rb_proc.specs.ProcessInside.{seen, standing}
use Rattle.rb_proc.specs.Statuses.{status_of}
use Rattle.rb_proc.specs.Work.{named_in_step}
use Rattle.rb_proc.specs.declared.answers.Outcome.TheVariants as outcome
use Rattle.rb_proc.specs.declared.answers.Wanted.{Wanted}
use Rattle.rb_proc.proofs.Listed.{is_among, process_listed, rests_among}
use Rattle.rb_proc.proofs.Stepping.{accept_comes, executes, step_named, step_safe, step_stays, stop_comes, trap_comes}
use Rattle.rb_proc.proofs.process.Proc.step.Goals as goal

pub run-requires-clause-safe : goal.run-requires-clause-safe
run-requires-clause-safe g c =
    let code = plain c.args.code.now in
    let i = c.self.inside in
    let wanted = subst (λ (old : Seen). c.args.wanted ≡ wanted_by (want code old.process.state)) (sym c.self.view_is) c.requires.wanted in
    let stands = subst
    (λ (old : Seen). (groups : List Membership) × StandsSoundly code groups old.process.state old.process.levels)
    (sym c.self.view_is) c.requires.stands in
    let serves = subst
    (λ (old : Seen). Serves (want code old.process.state)
    (alternate_for (want code old.process.state) old.process.levels)
    c.args.message old.process.levels)
    (sym c.self.view_is) c.requires.serves in
    step_safe code i.memory i.process i.at i.last_kept i.at_line i.status c.args.mails.now c.args.message c.clear.new.self c.none-operands.result c.new-sight.result
    c.args.wanted (alternate_by c.args.wanted i.memory.levels) wanted refl
    c.new-sight.ensures.process c.new-sight.ensures.message (ap (λ (w : Wanted). alternate_by w i.memory.levels) c.new-sight.ensures.wanted)
    c.none-operands.ensures c.clear.ensures.line c.clear.ensures.counters
    stands.0 stands.1 serves

pub run-requires-clause-stays : goal.run-requires-clause-stays
run-requires-clause-stays g c =
    let code = plain c.args.code.now in
    let i = c.self.inside in
    let wanted = subst (λ (old : Seen). c.args.wanted ≡ wanted_by (want code old.process.state)) (sym c.self.view_is) c.requires.wanted in
    let stands = subst
    (λ (old : Seen). (groups : List Membership) × StandsSoundly code groups old.process.state old.process.levels)
    (sym c.self.view_is) c.requires.stands in
    let serves = subst
    (λ (old : Seen). Serves (want code old.process.state)
    (alternate_for (want code old.process.state) old.process.levels)
    c.args.message old.process.levels)
    (sym c.self.view_is) c.requires.serves in (
      i.memory.words,
      subst (λ (p : ℕ). CursorsRise code p i.memory.words) (sym c.new-sight.ensures.process)
          (subst (λ (old : Seen). CursorsRise code old.process.state.process old.process.state.words) (sym c.self.view_is) c.requires.cursors),
      step_stays code i.memory i.process i.at i.last_kept i.at_line i.status c.args.mails.now c.args.message c.clear.new.self c.none-operands.result c.new-sight.result
          c.args.wanted (alternate_by c.args.wanted i.memory.levels) wanted refl
          c.new-sight.ensures.process c.new-sight.ensures.message (ap (λ (w : Wanted). alternate_by w i.memory.levels) c.new-sight.ensures.wanted)
          c.none-operands.ensures c.clear.ensures.line c.clear.ensures.counters
          stands.0 stands.1 serves,
    )

pub returns-in-Stop-clause-came : goal.returns-in-Stop-clause-came
returns-in-Stop-clause-came g c =
    let code = plain c.args.code.now in
    let i = c.self.inside in
    let wanted = subst (λ (old : Seen). c.args.wanted ≡ wanted_by (want code old.process.state)) (sym c.self.view_is) c.requires.wanted in
    let e = c.in-Stop.ensures.ended
    ∙ executes code i.memory i.process i.at i.last_kept i.at_line i.status c.args.mails.now c.args.message c.clear.new.self c.none-operands.result c.new-sight.result
    c.args.wanted (alternate_by c.args.wanted i.memory.levels) wanted refl
    c.new-sight.ensures.process c.new-sight.ensures.message (ap (λ (w : Wanted). alternate_by w i.memory.levels) c.new-sight.ensures.wanted)
    c.none-operands.ensures c.clear.ensures.line c.clear.ensures.counters in
    subst (λ (old : Seen). StepsTo code old.process c.args.mails.now
    (step_of code old.process c.args.mails.now c.args.message) outcome.Went
    (record {
      state = standing c.run.new.memory i.process c.in-Stop.at i.last_kept;
      levels =
          c.run.new.memory.levels;
      at_line = i.at_line;
      status =
          status_of c.status_by-self-inside.result;
    }) c.run.new.mails) c.self.view_is
    (stop_comes code
    ((seen i.memory i.process i.at i.last_kept i.at_line i.status).process) c.args.mails.now c.args.message c.in-Stop.at
    (whole code.texts c.run.new.bench c.run.new.memory c.run.new.mails) _ c.run.new.mails e
    (ap (λ (ls : List (Level Copy)). record {
      state = standing c.run.new.memory i.process c.in-Stop.at i.last_kept;
      levels =
          ls;
      at_line = i.at_line;
      status = status_of c.status_by-self-inside.result;
    }) c.in-Stop.ensures.kept.0
    ∙ ap (λ (line : Bool). record {
      state = standing c.run.new.memory i.process c.in-Stop.at i.last_kept;
      levels =
          i.memory.levels;
      at_line = line;
      status = status_of c.status_by-self-inside.result;
    }) (subst (λ (old : Seen). old.process.at_line ≡ false) (sym c.self.view_is) c.requires.away)
    ∙ ap (λ (st : Stands). record {
      state = standing c.run.new.memory i.process c.in-Stop.at i.last_kept;
      levels =
          i.memory.levels;
      at_line = false;
      status = st;
    }) (c.status_by-self-inside.ensures ∙ sym c.in-Stop.ensures.done)) refl)

pub returns-in-Accepts-clause-came : goal.returns-in-Accepts-clause-came
returns-in-Accepts-clause-came g c =
    let code = plain c.args.code.now in
    let i = c.self.inside in
    let wanted = subst (λ (old : Seen). c.args.wanted ≡ wanted_by (want code old.process.state)) (sym c.self.view_is) c.requires.wanted in
    let e = c.in-Accepts.ensures.ended
    ∙ executes code i.memory i.process i.at i.last_kept i.at_line i.status c.args.mails.now c.args.message c.clear.new.self c.none-operands.result c.new-sight.result
    c.args.wanted (alternate_by c.args.wanted i.memory.levels) wanted refl
    c.new-sight.ensures.process c.new-sight.ensures.message (ap (λ (w : Wanted). alternate_by w i.memory.levels) c.new-sight.ensures.wanted)
    c.none-operands.ensures c.clear.ensures.line c.clear.ensures.counters in
    subst (λ (old : Seen). StepsTo code old.process c.args.mails.now
    (step_of code old.process c.args.mails.now c.args.message) outcome.Accepts
    ((seen c.run.new.memory i.process c.in-Accepts.at i.last_kept i.at_line i.status).process) c.run.new.mails) c.self.view_is
    (accept_comes code
    ((seen i.memory i.process i.at i.last_kept i.at_line i.status).process) c.args.mails.now c.args.message c.in-Accepts.at
    (whole code.texts c.run.new.bench c.run.new.memory c.run.new.mails) _ c.run.new.mails e
    (ap
    (λ (ls : List (Level Copy)). record {
      state =
          standing c.run.new.memory i.process c.in-Accepts.at i.last_kept;
      levels = ls;
      at_line = i.at_line;
      status =
          status_of i.status;
    })
    (ap (λ (r : Contents). r.levels) c.in-Accepts.ensures.kept.0)) c.in-Accepts.ensures.kept.1)

pub returns-in-Trap-clause-came : goal.returns-in-Trap-clause-came
returns-in-Trap-clause-came g c =
    let code = plain c.args.code.now in
    let i = c.self.inside in
    let wanted = subst (λ (old : Seen). c.args.wanted ≡ wanted_by (want code old.process.state)) (sym c.self.view_is) c.requires.wanted in
    let e = c.in-Trap.ensures.ended
    ∙ executes code i.memory i.process i.at i.last_kept i.at_line i.status c.args.mails.now c.args.message c.clear.new.self c.none-operands.result c.new-sight.result
    c.args.wanted (alternate_by c.args.wanted i.memory.levels) wanted refl
    c.new-sight.ensures.process c.new-sight.ensures.message (ap (λ (w : Wanted). alternate_by w i.memory.levels) c.new-sight.ensures.wanted)
    c.none-operands.ensures c.clear.ensures.line c.clear.ensures.counters in
    subst (λ (old : Seen). StepsTo code old.process c.args.mails.now
    (step_of code old.process c.args.mails.now c.args.message) (outcome.Trap c.in-Trap.cause)
    ((seen c.run.new.memory i.process i.at i.last_kept i.at_line i.status).process) c.run.new.mails) c.self.view_is
    (trap_comes code
    ((seen i.memory i.process i.at i.last_kept i.at_line i.status).process) c.args.mails.now c.args.message c.in-Trap.cause _ c.run.new.mails e
    (ap (λ (r : Contents). (seen r i.process i.at i.last_kept i.at_line i.status).process) c.in-Trap.ensures.kept.0) c.in-Trap.ensures.kept.1)

pub returns-in-Stop-clause-work : goal.returns-in-Stop-clause-work
returns-in-Stop-clause-work g c =
    let code = plain c.args.code.now in
    let i = c.self.inside in
    let wanted = subst (λ (old : Seen). c.args.wanted ≡ wanted_by (want code old.process.state)) (sym c.self.view_is) c.requires.wanted in
    let same = step_named code i.memory i.process i.at i.last_kept i.at_line i.status c.args.mails.now c.args.message c.clear.new.self
    c.none-operands.result c.new-sight.result
    c.args.wanted (alternate_by c.args.wanted i.memory.levels) wanted refl
    c.new-sight.ensures.process c.new-sight.ensures.message (ap (λ (w : Wanted). alternate_by w i.memory.levels) c.new-sight.ensures.wanted)
    c.none-operands.ensures c.clear.ensures.line c.clear.ensures.counters in
    subst (λ (old : Seen). c.run.new.steps ≤ c.args.steps.now + 3 * named_in_step code old.process c.args.mails.now c.args.message) c.self.view_is
    (omega (arith, same, c.in-Stop.ensures.work))

pub returns-in-Accepts-clause-work : goal.returns-in-Accepts-clause-work
returns-in-Accepts-clause-work g c =
    let code = plain c.args.code.now in
    let i = c.self.inside in
    let wanted = subst (λ (old : Seen). c.args.wanted ≡ wanted_by (want code old.process.state)) (sym c.self.view_is) c.requires.wanted in
    let same = step_named code i.memory i.process i.at i.last_kept i.at_line i.status c.args.mails.now c.args.message c.clear.new.self
    c.none-operands.result c.new-sight.result
    c.args.wanted (alternate_by c.args.wanted i.memory.levels) wanted refl
    c.new-sight.ensures.process c.new-sight.ensures.message (ap (λ (w : Wanted). alternate_by w i.memory.levels) c.new-sight.ensures.wanted)
    c.none-operands.ensures c.clear.ensures.line c.clear.ensures.counters in
    subst (λ (old : Seen). c.run.new.steps ≤ c.args.steps.now + 3 * named_in_step code old.process c.args.mails.now c.args.message) c.self.view_is
    (omega (arith, same, c.in-Accepts.ensures.work))

pub returns-in-Trap-clause-work : goal.returns-in-Trap-clause-work
returns-in-Trap-clause-work g c =
    let code = plain c.args.code.now in
    let i = c.self.inside in
    let wanted = subst (λ (old : Seen). c.args.wanted ≡ wanted_by (want code old.process.state)) (sym c.self.view_is) c.requires.wanted in
    let same = step_named code i.memory i.process i.at i.last_kept i.at_line i.status c.args.mails.now c.args.message c.clear.new.self
    c.none-operands.result c.new-sight.result
    c.args.wanted (alternate_by c.args.wanted i.memory.levels) wanted refl
    c.new-sight.ensures.process c.new-sight.ensures.message (ap (λ (w : Wanted). alternate_by w i.memory.levels) c.new-sight.ensures.wanted)
    c.none-operands.ensures c.clear.ensures.line c.clear.ensures.counters in
    subst (λ (old : Seen). c.run.new.steps ≤ c.args.steps.now + 3 * named_in_step code old.process c.args.mails.now c.args.message) c.self.view_is
    (omega (arith, same, c.in-Trap.ensures.work))

pub overflow_add-self-inside : goal.overflow_add-self-inside
overflow_add-self-inside g c =
    let code = plain c.args.code.now in
    let stands = subst
    (λ (old : Seen). (groups : List Membership) × StandsSoundly code groups old.process.state old.process.levels)
    (sym c.self.view_is) c.requires.stands in
    let within = rests_among code.instrs c.self.inside.at stands.1.stands.rests in
    omega (arith, c.requires.code.addresses)

pub new-sight-requires-clause-process : goal.new-sight-requires-clause-process
new-sight-requires-clause-process g c =
    let code = plain c.args.code.now in
    let stands = subst
    (λ (old : Seen). (groups : List Membership) × StandsSoundly code groups old.process.state old.process.levels)
    (sym c.self.view_is) c.requires.stands in
    process_listed c.args.code.now c.self.inside.process (is_among code.processes c.self.inside.process stands.1.stands.exists)

pub new-sight-requires-clause-places : goal.new-sight-requires-clause-places
new-sight-requires-clause-places g c =
    let code = plain c.args.code.now in
    let stands = subst
    (λ (old : Seen). (groups : List Membership) × StandsSoundly code groups old.process.state old.process.levels)
    (sym c.self.view_is) c.requires.stands in
    c.requires.code.places c.self.inside.process (is_among code.processes c.self.inside.process stands.1.stands.exists)

pub new-sight-requires-clause-words : goal.new-sight-requires-clause-words
new-sight-requires-clause-words g c =
    let code = plain c.args.code.now in
    let stands = subst
    (λ (old : Seen). (groups : List Membership) × StandsSoundly code groups old.process.state old.process.levels)
    (sym c.self.view_is) c.requires.stands in
    c.requires.code.words c.self.inside.process (is_among code.processes c.self.inside.process stands.1.stands.exists)
