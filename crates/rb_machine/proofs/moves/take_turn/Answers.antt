-- A process that is there and runs takes its turn, and no other does.
use Rattle.std.proofs.Common.{◌≡◌, ap, sym, ◌∙◌, refl, List, slice_get}
use Rattle.std.proofs.lemmas.Option.{slice_get_within}
use Rattle.rb_world.proofs.ListFacts.{some_same}
use Rattle.rb_code.specs.Instructions.Plain.{code as plain}
use Rattle.rb_code.specs.WordMachine.Turn.{Common, Copy, Standing}
use Rattle.rb_conv.specs.Conversations.{memberships}
use Rattle.rb_proc.specs.Process.{Seen}
use Rattle.rb_world.specs.Turn.{Moved}
use Rattle.rb_recovery.specs.Parts.{world}
use Rattle.rb_machine.specs.Turns.{runs_there}
use Rattle.rb_recovery.specs.Work.{enters_there, looking}
use Rattle.rb_recovery.specs.Worlds.{kind_with, processes_of}
use Rattle.rb_machine.proofs.Turning.Ended.{leads_as}
use Rattle.rb_machine.proofs.Knowing.KnownHere.{process_there}
use Rattle.rb_machine.proofs.Working.MoveWork.{pays_nothing, pays_same, running_looks, running_names}
use Rattle.rb_machine.proofs.Turning.TurnsTaken.{rests, running_there, runs_counted}
use Rattle.rb_machine.specs.declared.moves.Move.TheVariants.{Rests, Went}
use Rattle.rb_machine.proofs.moves.take_turn.Goals as goal

rests_not_went : Rests ≡ Went → ⊥
rests_not_went e = cc

pub run-requires-clause-process : goal.run-requires-clause-process
run-requires-clause-process g c =
    let procs = c.args.parts.now.procs.items in
    let runs = ap (λ (xs : List Seen). runs_there (slice_get (processes_of xs) c.args.p)) (sym c.deref.ensures.value)
    ∙ (sym c.is_running.ensures ∙ c.if-is_running.true) in
    let found = running_there procs c.args.p runs in
    slice_get_within procs c.args.p found.0 found.1

pub run-requires-clause-running : goal.run-requires-clause-running
run-requires-clause-running g c one there =
    let procs = c.args.parts.now.procs.items in
    let runs = ap (λ (xs : List Seen). runs_there (slice_get (processes_of xs) c.args.p)) (sym c.deref.ensures.value)
    ∙ (sym c.is_running.ensures ∙ c.if-is_running.true) in
    let found = running_there procs c.args.p runs in
    ap (λ (x : Seen). x.process.status) (some_same (sym there ∙ found.1)) ∙ found.2

pub returns-then-is_running-clause-leads : goal.returns-then-is_running-clause-leads
returns-then-is_running-clause-leads g c =
    let code = plain c.args.code.now in
    let parts = c.args.parts.now in
    let procs = parts.procs.items in
    let runs = ap (λ (xs : List Seen). runs_there (slice_get (processes_of xs) c.args.p)) (sym c.deref.ensures.value)
    ∙ (sym c.is_running.ensures ∙ c.if-is_running.true) in
    let found = running_there procs c.args.p runs in
    leads_as code c.args.turn c.args.p (processes_of procs) c.run.new.parts c.run.result (sym (runs_counted (kind_with code parts.table) c.args.turn c.args.p (world parts) found.0.process
    (process_there procs c.args.p found.0 found.1) found.2))
    (c.run.ensures.leads found.0 found.1)

pub returns-else-is_running-clause-leads : goal.returns-else-is_running-clause-leads
returns-else-is_running-clause-leads g c =
    let parts = c.args.parts.now in
    let none = ap (λ (xs : List Seen). runs_there (slice_get (processes_of xs) c.args.p)) (sym c.deref.ensures.value)
    ∙ (sym c.is_running.ensures ∙ c.if-is_running.false) in
    rests (kind_with (plain c.args.code.now) parts.table) c.args.turn c.args.p (world parts) none

pub returns-then-is_running-clause-ran : goal.returns-then-is_running-clause-ran
returns-then-is_running-clause-ran g c e =
    ap (λ (xs : List Seen). runs_there (slice_get (processes_of xs) c.args.p)) (sym c.deref.ensures.value)
    ∙ (sym c.is_running.ensures ∙ c.if-is_running.true)

pub returns-else-is_running-clause-ran : goal.returns-else-is_running-clause-ran
returns-else-is_running-clause-ran g c e = absurd (rests_not_went e)

pub returns-else-is_running-clause-stays : goal.returns-else-is_running-clause-stays
returns-else-is_running-clause-stays g c = record { table = refl; waits = c.requires.work.waits; sized = c.requires.work.work.sized }

pub returns-then-is_running-clause-work : goal.returns-then-is_running-clause-work
returns-then-is_running-clause-work g c =
    let code = plain c.args.code.now in
    let parts = c.args.parts.now in
    let procs = parts.procs.items in
    let k = kind_with code parts.table in
    let groups = memberships parts.table in
    let runs = ap (λ (xs : List Seen). runs_there (slice_get (processes_of xs) c.args.p)) (sym c.deref.ensures.value)
    ∙ (sym c.is_running.ensures ∙ c.if-is_running.true) in
    let found = running_there procs c.args.p runs in
    let here = process_there procs c.args.p found.0 found.1 in
    let counted = runs_counted k c.args.turn c.args.p (world parts) found.0.process here found.2 in
    pays_same _ _ _ _ _ _ (c.run.ensures.work found.0 found.1)
    (ap (λ (moved : Moved Standing Copy Common). looking (enters_there code moved.kind (slice_get (processes_of procs) c.args.p))) counted
    ∙ running_looks code groups c.args.turn c.args.p (world parts) found.0.process here found.2 _)
    (running_names code groups c.args.turn c.args.p (world parts) found.0.process here found.2)

pub returns-else-is_running-clause-work : goal.returns-else-is_running-clause-work
returns-else-is_running-clause-work g c = pays_nothing _ _ _
