use Rattle.std.proofs.Common.{◌≡◌, ◌+◌, ◌<◌, Bool, false, length, Option, slice_get, ap, sym, ◌∙◌, subst, arith}
use Rattle.std.proofs.lemmas.Option.{slice_get_within}
use Rattle.rb_world.specs.World.{status_at}
use Rattle.rb_base.specs.declared.limits.TheConstants.{MOST_OPEN_LEVELS}
use Rattle.rb_code.specs.Instructions.Plain.{code as plain}
use Rattle.rb_code.specs.WordMachine.Turn.{want, wants_there}
use Rattle.rb_code.specs.declared.instr.Instr.{Instr}
use Rattle.rb_code.specs.declared.instr.Instr.TheVariants.{Turn}
use Rattle.rb_recoverable.specs.Contents.{Contents}
use Rattle.rb_proc.specs.Entries.{EntersAs, WantsBlock}
use Rattle.rb_proc.specs.Executable.{RestartsAt}
use Rattle.rb_proc.specs.Process.{Seen}
use Rattle.rb_proc.specs.ProcessInside.{seen}
use Rattle.rb_proc.specs.Statuses.{status_of}
use Rattle.rb_proc.proofs.Entered.{StandsBefore, entered_so, stands_before}
use Rattle.rb_proc.proofs.Listed.{block_listed}
use Rattle.rb_proc.proofs.Landing.{turn_runs}
use Rattle.rb_proc.proofs.process.Proc.enter.Goals as goal

pub open-requires : goal.open-requires
open-requires g c = subst (λ (old : Seen). length old.process.levels < MOST_OPEN_LEVELS) (sym c.self.view_is) c.requires.room

pub returns-clause-process : goal.returns-clause-process
returns-clause-process g c =
    let code = plain c.args.code.now in
    let i = c.self.inside in
    let to = i.at + 2 in
    let stands : StandsBefore code i.at c.args.block =
    stands_before code c.args.block i.at
    (subst (λ (old : Seen). WantsBlock c.args.block (want code old.process.state)) (sym c.self.view_is) c.requires.wants) in
    let restart = subst (λ (old : Seen). RestartsAt code (old.process.state.at + 2)) (sym c.self.view_is) c.requires.restart in
    let runs : status_of i.status ≡ status_at (wants_there code (slice_get code.instrs to) (slice_get code.instrs (to + 1))) =
    ap (λ (old : Seen). old.process.status) c.self.view_is
    ∙ c.requires.running
    ∙ sym (ap (λ (o : Option Instr). status_at (wants_there code o (slice_get code.instrs (to + 1)))) restart
    ∙ turn_runs code (slice_get code.instrs (to + 1))) in
    let away : i.at_line ≡ false = ap (λ (old : Seen). old.process.at_line) c.self.view_is ∙ c.requires.away in
    subst
    (λ (old : Seen). EntersAs code (want code old.process.state) c.args.alternate c.args.turn old.process
    (seen c.open.new.self i.process to c.args.turn i.at_line i.status).process)
    c.self.view_is
    (subst
    (λ (line : Bool). EntersAs code (want code (seen i.memory i.process i.at i.last_kept i.at_line i.status).process.state) c.args.alternate
    c.args.turn (seen i.memory i.process i.at i.last_kept i.at_line i.status).process
    (seen c.open.new.self i.process to c.args.turn line i.status).process)
    (sym away)
    (entered_so code i.memory c.open.new.self i.process i.at i.last_kept i.at_line i.status i.status
    c.facts_of-facts.result c.args.alternate c.args.turn (stands.wants ∙ sym c.facts_of-facts.ensures) c.open.ensures runs))

pub returns-clause-waiting : goal.returns-clause-waiting
returns-clause-waiting g c = ap (λ (r : Contents). r.waiting) c.open.ensures ∙ ap (λ (old : Seen). old.waiting) c.self.view_is

pub facts_of-facts-requires-clause-block : goal.facts_of-facts-requires-clause-block
facts_of-facts-requires-clause-block g c =
    let at = c.args.self.now.process.state.at in
    let stands : StandsBefore (plain c.args.code.now) at c.args.block = stands_before (plain c.args.code.now) c.args.block at c.requires.wants in
    block_listed c.args.code.now c.args.block stands.there

pub overflow_add-self : goal.overflow_add-self
overflow_add-self g c =
    let code = plain c.args.code.now in
    let restart = subst (λ (old : Seen). RestartsAt code (old.process.state.at + 2)) (sym c.self.view_is) c.requires.restart in
    let within = slice_get_within code.instrs (c.self.inside.at + 2) Turn restart in
    omega (arith, c.requires.code.addresses)
