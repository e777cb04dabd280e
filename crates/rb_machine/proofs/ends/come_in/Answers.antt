-- The entry leads to where the turn leads.
use Rattle.std.proofs.Common.{◌≡◌, sym, ◌∙◌, subst, arith}
use Rattle.std.proofs.lemmas.Option.{slice_get_within}
use Rattle.rb_world.specs.Kind.{Enters}
use Rattle.rb_world.proofs.ListFacts.{some_same}
use Rattle.rb_code.specs.Instructions.Plain.{code as plain}
use Rattle.rb_code.specs.WordMachine.Turn.{want}
use Rattle.rb_proc.specs.Entries.{WantsBlock}
use Rattle.rb_proc.specs.Process.{Seen}
use Rattle.rb_recovery.specs.Parts.{world}
use Rattle.rb_recovery.specs.Worlds.{kind_with, processes_of}
use Rattle.rb_ready.proofs.Wanting.{entry_enters, wants_block}
use Rattle.rb_machine.proofs.Turning.Ended.{end_comes, has_ended}
use Rattle.rb_machine.proofs.ends.come_in.Goals as goal

pub enter-came-requires-clause-work : goal.enter-came-requires-clause-work
enter-came-requires-clause-work g c = c.requires.way.way.leads.work

pub enter-came-requires-clause-acting : goal.enter-came-requires-clause-acting
enter-came-requires-clause-acting g c = c.requires.way.way.leads.acting

pub enter-came-requires-clause-room : goal.enter-came-requires-clause-room
enter-came-requires-clause-room g c = c.requires.way.way.leads.room

pub enter-came-requires-clause-process : goal.enter-came-requires-clause-process
enter-came-requires-clause-process g c =
    let leads = c.requires.way.way.leads in
    slice_get_within c.args.parts.now.procs.items c.args.p leads.one leads.there

pub enter-came-requires-clause-wants : goal.enter-came-requires-clause-wants
enter-came-requires-clause-wants g c one there =
    let leads = c.requires.way.way.leads in
    subst (λ (x : Seen). WantsBlock c.args.block (want (plain c.args.code.now) x.process.state)) (some_same (sym leads.there ∙ there)) leads.wants

pub end-requires : goal.end-requires
end-requires g c =
    let code = plain c.args.code.now in
    let now = c.args.parts.now in
    let way = c.requires.way.way in
    let leads = way.leads in
    let wants = wants_block c.args.block (want code leads.one.process.state) leads.wants in
    record {
      come = record {
        code = code;
        turn = c.args.turn;
        before = c.requires.way.before;
        come = end_comes code c.args.turn c.args.p c.requires.way.before now c.args.running.now.items _ way c.enter-came.new.parts
            c.enter-came.new.events.items c.enter-came.result _
            (leads.moves
            ∙ entry_enters code (kind_with code now.table) c.args.turn c.args.p leads.one.process (world now) wants.0 wants.1)
            (c.enter-came.ensures.moved wants.0 leads.one leads.there
            (λ other found. subst (λ (x : Seen). want code x.process.state ≡ Enters wants.0) (some_same (sym leads.there ∙ found)) wants.1))
            c.enter-came.ensures.left c.enter-came.ensures.took c.enter-came.ensures.quiet;
      };
    }

pub returns-clause-ended : goal.returns-clause-ended
returns-clause-ended g c = λ before way.
    let code = plain c.args.code.now in
    let now = c.args.parts.now in
    let leads = way.leads in
    let wants = wants_block c.args.block (want code leads.one.process.state) leads.wants in
    let come = end_comes code c.args.turn c.args.p before now c.args.running.now.items _ way c.enter-came.new.parts
    c.enter-came.new.events.items c.enter-came.result _
    (leads.moves ∙ entry_enters code (kind_with code now.table) c.args.turn c.args.p leads.one.process (world now) wants.0 wants.1)
    (c.enter-came.ensures.moved wants.0 leads.one leads.there
    (λ other found. subst (λ (x : Seen). want code x.process.state ≡ Enters wants.0) (some_same (sym leads.there ∙ found)) wants.1))
    c.enter-came.ensures.left c.enter-came.ensures.took c.enter-came.ensures.quiet in
    has_ended code c.args.turn c.args.p before now c.args.running.now.items c.args.steps.now c.enter-came.new.steps _ c.end.ensures.finished come
    (omega (
      arith,
      c.enter-came.ensures.work,
      leads.costs c.enter-came.result.kind c.enter-came.new.events.items (processes_of c.enter-came.new.parts.procs.items),
    )) c.end.ensures.work
