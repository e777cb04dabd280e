use Rattle.std.proofs.Common.{◌∙◌}
use Rattle.rb_view.proofs.Asked.{asked_is}
use Rattle.rb_view.proofs.asking.asked_of.Goals as goal

pub returns : goal.returns
returns g c q there =
    c.asked_by.ensures ∙ asked_is c.args.machine.now.code c.args.machine.now.groups q _ _ _ (c.want.ensures q there) (c.line.ensures q there)
    (c.innermost.ensures q there)
