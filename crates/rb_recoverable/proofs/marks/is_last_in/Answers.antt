use Rattle.std.proofs.Common.{ap, ◌∙◌}
use Rattle.rb_recoverable.specs.Marks.{is_last_mark_in}
use Rattle.rb_recoverable.proofs.Looked.{last_there}
use Rattle.rb_recoverable.proofs.marks.is_last_in.Goals as goal

pub returns-in-Some : goal.returns-in-Some
returns-in-Some c =
    c.is_in.ensures ∙ ap (is_last_mark_in c.args.conversation) (c.in-Some.ensures.value ∙ last_there c.args.marks.now)
