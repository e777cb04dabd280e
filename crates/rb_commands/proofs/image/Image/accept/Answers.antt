use Rattle.std.proofs.Common.{Err, ap, ◌∙◌}
use Rattle.rb_commands.proofs.Images.{lists_had}
use Rattle.rb_commands.proofs.image.Image.accept.Goals as goal

pub returns-in-Err-Unsound-clause-unfit : goal.returns-in-Err-Unsound-clause-unfit
returns-in-Err-Unsound-clause-unfit c may =
    c.check_lists.ensures.unsound (c.in-Err-Unsound.is ∙ ap Err c.in-Err-Unsound.field-0-is) (lists_had c.args.raw.code c.args.raw.nested may)
