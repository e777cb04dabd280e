use Rattle.std.proofs.Common.{ap, sym, ◌∙◌}
use Rattle.rb_code.specs.Instructions.Plain.{code as plain}
use Rattle.rb_picture.specs.Trace.{address_told}
use Rattle.rb_world.specs.World.{ProcessStatus}
use Rattle.rb_view.proofs.asking.address_of.Goals as goal

pub returns-in-Running : goal.returns-in-Running
returns-in-Running g c q there =
    let is = c.in-Running.ensures q there in
    c.address_running.ensures q there (sym is) ∙ ap (λ (status : ProcessStatus). address_told (plain c.args.code.now) status q) is

pub returns-in-Finished : goal.returns-in-Finished
returns-in-Finished g c q there =
    ap (λ (status : ProcessStatus). address_told (plain c.args.code.now) status q) (c.in-Finished.ensures q there)

pub returns-in-Failed : goal.returns-in-Failed
returns-in-Failed g c q there =
    ap (λ (status : ProcessStatus). address_told (plain c.args.code.now) status q) (c.in-Failed.ensures q there)
