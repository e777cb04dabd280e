use Rattle.std.proofs.Common.{ap, sym, ◌∙◌}
use Rattle.rb_changes.specs.Shown.{stand_of}
use Rattle.rb_world.specs.World.{ProcessStatus, Running}
use Rattle.rb_view.proofs.noting.stand_at.Goals as goal

pub returns-in-Running : goal.returns-in-Running
returns-in-Running g c q there =
    let is = c.in-Running.ensures q there in
    c.stand_running.ensures ∙ ap (stand_of Running) (c.is_at_line.ensures q there (sym is))
    ∙ ap (λ (status : ProcessStatus). stand_of status q.at_line) is

pub returns-in-Finished : goal.returns-in-Finished
returns-in-Finished g c q there = ap (λ (status : ProcessStatus). stand_of status q.at_line) (c.in-Finished.ensures q there)

pub returns-in-Failed : goal.returns-in-Failed
returns-in-Failed g c q there = ap (λ (status : ProcessStatus). stand_of status q.at_line) (c.in-Failed.ensures q there)
