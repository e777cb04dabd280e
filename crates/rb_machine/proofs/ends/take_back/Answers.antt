-- The rejections lead to where the turn leads.
use Rattle.std.proofs.Common.{sym, ◌∙◌, arith}
use Rattle.rb_recovery.specs.Worlds.{processes_of}
use Rattle.rb_machine.proofs.Turning.Ended.{end_comes, has_ended, not_quiet}
use Rattle.rb_machine.proofs.ends.take_back.Goals as goal

pub undo-came-requires-clause-process : goal.undo-came-requires-clause-process
undo-came-requires-clause-process g c = c.requires.way.2.way.leads.there

pub undo-came-requires-clause-may : goal.undo-came-requires-clause-may
undo-came-requires-clause-may g c = c.requires.way.2.way.leads.may

pub undo-came-requires-clause-quiet : goal.undo-came-requires-clause-quiet
undo-came-requires-clause-quiet g c = c.requires.way.2.way.leads.quiet

pub undo-came-requires-clause-few : goal.undo-came-requires-clause-few
undo-came-requires-clause-few g c = c.requires.way.2.way.leads.few

pub end-requires : goal.end-requires
end-requires g c =
    let w = c.requires.way in
    let way = w.2.way in
    record {
      come = record {
        code = w.0;
        turn = w.1;
        before = w.2.before;
        come = end_comes w.0 w.1 c.args.p w.2.before c.args.parts.now c.args.running.now.items _ way c.undo-came.new.parts c.undo-came.new.events.items
            c.undo-came.result _ way.leads.moves (c.undo-came.ensures.moved w.0) (c.undo-came.ensures.left w.0 way.stays.sized)
            (λ e. not_quiet (sym c.undo-came.ensures.quiet ∙ e)) (λ e. not_quiet (sym c.undo-came.ensures.quiet ∙ e));
      };
    }

pub returns-clause-ended : goal.returns-clause-ended
returns-clause-ended g c = λ code t before way.
    let come = end_comes code t c.args.p before c.args.parts.now c.args.running.now.items _ way c.undo-came.new.parts c.undo-came.new.events.items
    c.undo-came.result _ way.leads.moves (c.undo-came.ensures.moved code) (c.undo-came.ensures.left code way.stays.sized)
    (λ e. not_quiet (sym c.undo-came.ensures.quiet ∙ e)) (λ e. not_quiet (sym c.undo-came.ensures.quiet ∙ e)) in
    has_ended code t c.args.p before c.args.parts.now c.args.running.now.items c.args.steps.now c.undo-came.new.steps _ c.end.ensures.finished come
    (omega (
      arith,
      c.undo-came.ensures.work,
      way.leads.costs c.undo-came.result.kind c.undo-came.new.events.items (processes_of c.undo-came.new.parts.procs.items),
    )) c.end.ensures.work
