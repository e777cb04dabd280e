-- What is left of the processes tells it, from one of them on.
use Rattle.std.proofs.Common.{◌+◌, ◌&&◌, drop, ap, sym, ◌∙◌}
use Rattle.std.specs.List.{list_all}
use Rattle.rb_stuck.specs.Stuck.{has_ended}
use Rattle.rb_stuck.proofs.Surveyed.{ended_next, ended_unless, is_ended}
use Rattle.rb_stuck.proofs.surveying.have_ended.Goals as goal

pub returns-in-Running : goal.returns-in-Running
returns-in-Running g c =
    let qs = c.args.machine.now.world.processes in
    sym (c.loop-p.invariant ∙ ended_next qs c.loop-p.p c.state.result c.state.ensures
    ∙ ap (λ state. is_ended state && list_all has_ended (drop (c.loop-p.p + 1) qs)) c.in-Running.is)

pub loop-p-preserved : goal.loop-p-preserved
loop-p-preserved g c =
    let qs = c.args.machine.now.world.processes in
    c.loop-p.invariant ∙ ended_next qs c.loop-p.p c.state.result c.state.ensures
    ∙ ap (λ ended. ended && list_all has_ended (drop (c.loop-p.p + 1) qs)) (ended_unless c.state.result c.in_default.not-Running)
