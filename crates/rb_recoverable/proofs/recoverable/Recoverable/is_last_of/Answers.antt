use Rattle.std.proofs.Common.{List, ap, ◌∙◌}
use Rattle.rb_world.specs.Turn.{is_last_of}
use Rattle.rb_world.specs.World.{last_of}
use Rattle.rb_recoverable.specs.Contents.{Contents}
use Rattle.rb_recoverable.specs.Marks.{is_last_mark_in}
use Rattle.rb_recoverable.specs.declared.recoverable.LevelMark.{LevelMark}
use Rattle.rb_recoverable.proofs.Looked.{last_seen}
use Rattle.rb_recoverable.proofs.recoverable.Recoverable.is_last_of.Goals as goal

pub returns : goal.returns
returns g c =
    c.is_last_in.ensures ∙ ap (λ (marks : List LevelMark). is_last_mark_in c.args.conversation (last_of marks)) c.deref.ensures.value
    ∙ last_seen _ _ _ _ _ _ _ _ _ c.self.invariant c.args.conversation
    ∙ ap (λ (r : Contents). is_last_of c.args.conversation (last_of r.levels)) c.self.view_is
