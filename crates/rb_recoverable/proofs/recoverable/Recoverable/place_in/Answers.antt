use Rattle.std.proofs.Common.{List, ap, ◌∙◌}
use Rattle.std.specs.Prelude.{position}
use Rattle.rb_world.specs.World.{is_of}
use Rattle.rb_recoverable.specs.Contents.{Contents}
use Rattle.rb_recoverable.specs.Marks.{is_mark_in}
use Rattle.rb_recoverable.specs.declared.recoverable.LevelMark.{LevelMark}
use Rattle.rb_recoverable.proofs.Looked.{place_seen}
use Rattle.rb_recoverable.proofs.recoverable.Recoverable.place_in.Goals as goal

pub returns : goal.returns
returns g c =
    c.place_in.ensures ∙ ap (λ (marks : List LevelMark). position (is_mark_in c.args.conversation) marks) c.deref.ensures.value
    ∙ place_seen _ _ _ _ _ _ _ _ _ c.self.invariant c.args.conversation
    ∙ ap (λ (r : Contents). position (is_of c.args.conversation) r.levels) c.self.view_is
