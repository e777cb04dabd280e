-- The pieces of a line are added one after another.
use Rattle.rb_trace.specs.Naming.{naming}
use Rattle.rb_run.proofs.Gathered.{gathers_both, gathers_same, gathers_stopped_at}
use Rattle.rb_run.proofs.Recorded.{line_in_pieces}
use Rattle.rb_run.proofs.record.add_kept.Goals as goal

pub returns-in_err-add_turn : goal.returns-in_err-add_turn
returns-in_err-add_turn g c =
    gathers_same _ _ _ _ _ _ _ _ _ (line_in_pieces (naming c.args.names.now) c.args.kept.now)
    (gathers_stopped_at _ _ _ _ _ _ _ _ _ _ _ c.from_residual.ensures.0 c.in_err-add_turn.ensures)

pub returns-in_err-add : goal.returns-in_err-add
returns-in_err-add g c =
    gathers_same _ _ _ _ _ _ _ _ _ (line_in_pieces (naming c.args.names.now) c.args.kept.now)
    (gathers_both _ _ _ _ _ _ _ _ _ _ _ _ _ c.in_ok-add_turn.ensures
    (gathers_stopped_at _ _ _ _ _ _ _ _ _ _ _ c.from_residual-in_err-add.ensures.0 c.in_err-add.ensures))

pub returns-in_err-add_process : goal.returns-in_err-add_process
returns-in_err-add_process g c =
    gathers_same _ _ _ _ _ _ _ _ _ (line_in_pieces (naming c.args.names.now) c.args.kept.now)
    (gathers_both _ _ _ _ _ _ _ _ _ _ _ _ _ c.in_ok-add_turn.ensures
    (gathers_both _ _ _ _ _ _ _ _ _ _ _ _ _ c.in_ok-add.ensures
    (gathers_stopped_at _ _ _ _ _ _ _ _ _ _ _ c.from_residual-in_err-add_process.ensures.0 c.in_err-add_process.ensures)))

pub returns-in_err-add_alternate : goal.returns-in_err-add_alternate
returns-in_err-add_alternate g c =
    gathers_same _ _ _ _ _ _ _ _ _ (line_in_pieces (naming c.args.names.now) c.args.kept.now)
    (gathers_both _ _ _ _ _ _ _ _ _ _ _ _ _ c.in_ok-add_turn.ensures
    (gathers_both _ _ _ _ _ _ _ _ _ _ _ _ _ c.in_ok-add.ensures
    (gathers_both _ _ _ _ _ _ _ _ _ _ _ _ _ c.in_ok-add_process.ensures
    (gathers_stopped_at _ _ _ _ _ _ _ _ _ _ _ c.from_residual-in_err-add_alternate.ensures.0 c.in_err-add_alternate.ensures))))

pub returns : goal.returns
returns g c =
    gathers_same _ _ _ _ _ _ _ _ _ (line_in_pieces (naming c.args.names.now) c.args.kept.now)
    (gathers_both _ _ _ _ _ _ _ _ _ _ _ _ _ c.in_ok-add_turn.ensures
    (gathers_both _ _ _ _ _ _ _ _ _ _ _ _ _ c.in_ok-add.ensures
    (gathers_both _ _ _ _ _ _ _ _ _ _ _ _ _ c.in_ok-add_process.ensures
    (gathers_both _ _ _ _ _ _ _ _ _ _ _ _ _ c.in_ok-add_alternate.ensures c.add-2.ensures))))
