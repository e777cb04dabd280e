use Rattle.std.proofs.Common.{◌∙◌}
use Rattle.rb_view.proofs.Asked.{at_line_is}
use Rattle.rb_view.proofs.asking.is_at_line.Goals as goal

pub returns : goal.returns
returns g c q there runs = c.is_line.ensures ∙ at_line_is c.args.machine.now.code q c.want.result (c.want.ensures q there) runs
