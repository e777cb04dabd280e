use Rattle.std.proofs.Common.{List, ap, ◌∙◌}
use Rattle.std.specs.Prelude.{position}
use Rattle.rb_world.specs.Turn.{is_over}
use Rattle.rb_recoverable.specs.Contents.{Contents}
use Rattle.rb_recoverable.specs.Marks.{is_mark_over}
use Rattle.rb_recoverable.specs.declared.recoverable.LevelMark.{LevelMark}
use Rattle.rb_recoverable.proofs.Looked.{over_seen}
use Rattle.rb_recoverable.proofs.recoverable.Recoverable.count_by_marks.Goals as goal

pub returns-clause-over : goal.returns-clause-over
returns-clause-over g c =
    c.first_over.ensures ∙ ap (λ (marks : List LevelMark). position (is_mark_over c.self.inside.clock) marks) c.deref.ensures.value
    ∙ over_seen _ _ _ _ _ _ _ _ _ c.self.invariant
    ∙ ap (λ (r : Contents). position is_over r.levels) c.self.view_is
