-- The outermost level beyond its bound is rejected; else a process at a test line waits, and any other acts.
use Rattle.std.proofs.Common.{◌+◌, Some, ap, sym, ◌∙◌, refl, length, arith}
use Rattle.std.proofs.lemmas.Option.{slice_get_read}
use Rattle.rb_world.specs.Turn.{Moved, is_over}
use Rattle.rb_world.proofs.ListFacts.{slice_get-there, some_same}
use Rattle.rb_world.proofs.Members.Outcomes.{position_within}
use Rattle.rb_code.specs.Instructions.Plain.{code as plain}
use Rattle.rb_code.specs.WordMachine.Turn.{Common, Copy, Standing}
use Rattle.rb_conv.specs.Conversations.{memberships}
use Rattle.rb_proc.specs.Process.{Seen}
use Rattle.rb_recovery.specs.Parts.{world}
use Rattle.rb_recovery.specs.Work.{enters_there, looking}
use Rattle.rb_recovery.specs.Worlds.{kind_with, memory_of, processes_of}
use Rattle.rb_machine.proofs.Turning.Ended.{leads_as}
use Rattle.rb_machine.proofs.Knowing.KnownHere.{are_quiet, may_reject, process_there}
use Rattle.rb_machine.proofs.Working.MoveWork.{named_away, pays_nothing, pays_same}
use Rattle.rb_machine.proofs.Turning.TurnsTaken.{away_acts, line_waits, overrun_rejects}
use Rattle.rb_machine.proofs.moves.go_on.Goals as goal

pub overflow_add-result : goal.overflow_add-result
overflow_add-result g c =
    let procs = c.args.parts.now.procs.items in
    let found = slice_get-there procs c.args.p c.requires.process in
    let within = position_within is_over found.0.process.levels c.in-Some.level (sym (c.requires.over found.0 found.1) ∙ c.in-Some.is) in
    let few = c.requires.work.work.known.shallow c.args.p found.0.process (process_there procs c.args.p found.0 found.1) in
    omega (arith, within, few)

pub act-requires-clause-acting : goal.act-requires-clause-acting
act-requires-clause-acting g c one there =
    let procs = c.args.parts.now.procs.items in
    let here = slice_get_read procs (length procs) c.args.p c.index.result.now refl c.requires.process c.index.ensures in
    let same = some_same (sym here ∙ there) in
    record {
      running = c.requires.running one there;
      away = ap (λ (x : Seen). x.process.at_line) (sym same) ∙ (sym c.at_line.ensures ∙ c.if-at_line.false);
    }

pub returns-in-Some-clause-leads : goal.returns-in-Some-clause-leads
returns-in-Some-clause-leads g c one there =
    let code = plain c.args.code.now in
    let parts = c.args.parts.now in
    let work = c.requires.work.work in
    let within = position_within is_over one.process.levels c.in-Some.level (sym (c.requires.over one there) ∙ c.in-Some.is) in
    let few = work.known.shallow c.args.p one.process (process_there parts.procs.items c.args.p one there) in
    record {
      there = c.requires.process;
      may = may_reject code parts.table work.sound (c.args.turn + 1) parts.procs.items (memory_of parts.mails parts.links.items) work.known
          c.args.p (c.in-Some.level + 1)
          (λ x found. omega (arith, position_within is_over x.process.levels c.in-Some.level (sym (c.requires.over x found) ∙ c.in-Some.is)));
      quiet = are_quiet code parts.table work.sound (c.args.turn + 1) parts.procs.items (memory_of parts.mails parts.links.items) work.known
          work.few c.requires.work.waits;
      few = omega (arith, within, few);
      moves = overrun_rejects (kind_with code parts.table) c.args.turn c.args.p (world parts) one.process c.args.over c.in-Some.level
          (c.requires.over one there) c.in-Some.is;
      costs = λ kind events after. refl;
    }

pub returns-in-None-clause-leads : goal.returns-in-None-clause-leads
returns-in-None-clause-leads g c one there =
    let parts = c.args.parts.now in
    let procs = parts.procs.items in
    let here = slice_get_read procs (length procs) c.args.p c.index.result.now refl c.requires.process c.index.ensures in
    let at = ap (λ (x : Seen). x.process.at_line) (sym (some_same (sym here ∙ there))) ∙ (sym c.at_line.ensures ∙ c.if-at_line.true) in
    line_waits (kind_with (plain c.args.code.now) parts.table) c.args.turn c.args.p (world parts) one.process c.args.over
    (c.requires.over one there) c.in-None.is at

pub returns-in-None-2-clause-leads : goal.returns-in-None-2-clause-leads
returns-in-None-2-clause-leads g c one there =
    let code = plain c.args.code.now in
    let parts = c.args.parts.now in
    let procs = parts.procs.items in
    let here = slice_get_read procs (length procs) c.args.p c.index.result.now refl c.requires.process c.index.ensures in
    let away = ap (λ (x : Seen). x.process.at_line) (sym (some_same (sym here ∙ there))) ∙ (sym c.at_line.ensures ∙ c.if-at_line.false) in
    leads_as code c.args.turn c.args.p (processes_of procs) c.act.new.parts c.act.result (sym (away_acts (kind_with code parts.table) c.args.turn c.args.p (world parts) one.process c.args.over
    (c.requires.over one there) c.in-None-2.is away))
    (c.act.ensures.leads one there)

pub returns-in-Some-clause-stays : goal.returns-in-Some-clause-stays
returns-in-Some-clause-stays g c = record { table = refl; waits = c.requires.work.waits; sized = c.requires.work.work.sized }

pub returns-in-None-clause-stays : goal.returns-in-None-clause-stays
returns-in-None-clause-stays g c = record { table = refl; waits = c.requires.work.waits; sized = c.requires.work.work.sized }

pub returns-in-Some-clause-work : goal.returns-in-Some-clause-work
returns-in-Some-clause-work g c one there = pays_nothing _ _ _

pub returns-in-None-clause-work : goal.returns-in-None-clause-work
returns-in-None-clause-work g c one there = pays_nothing _ _ _

pub returns-in-None-2-clause-work : goal.returns-in-None-2-clause-work
returns-in-None-2-clause-work g c one there =
    let code = plain c.args.code.now in
    let parts = c.args.parts.now in
    let procs = parts.procs.items in
    let here = slice_get_read procs (length procs) c.args.p c.index.result.now refl c.requires.process c.index.ensures in
    let away = ap (λ (x : Seen). x.process.at_line) (sym (some_same (sym here ∙ there))) ∙ (sym c.at_line.ensures ∙ c.if-at_line.false) in
    pays_same _ _ _ _ _ _ (c.act.ensures.work one there)
    (ap (λ (moved : Moved Standing Copy Common). looking (enters_there code moved.kind (Some one.process)))
    (away_acts (kind_with code parts.table) c.args.turn c.args.p (world parts) one.process c.args.over (c.requires.over one there) c.in-None-2.is away))
    (named_away code (memberships parts.table) c.args.turn c.args.p one.process (world parts) c.args.over
    (c.requires.over one there) c.in-None-2.is away)
