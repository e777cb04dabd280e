use Rattle.std.proofs.Common.{◌≡◌, ◌-◌, length, ap, ◌∙◌, arith, rules}
use Rattle.std.specs.Prelude.{get_or}
use Rattle.rb_world.specs.Turn.{tried_at}
use Rattle.rb_world.specs.World.{last_of}
use Rattle.rb_cache.specs.Copies.{copies}
use Rattle.rb_recoverable.specs.Contents.{Contents}
use Rattle.rb_recoverable.specs.declared.recoverable.LevelMark.{LevelMark}
use Rattle.rb_recoverable.proofs.Levels.{last_tried, none_tried}
use Rattle.rb_recoverable.proofs.Tied.{marks_copied}
use Rattle.rb_recoverable.proofs.recoverable.Recoverable.alternate.Goals as goal

pub returns-else-count-eq0 : goal.returns-else-count-eq0
returns-else-count-eq0 g c =
    let marks = c.self.inside.marks.items in
    let n : c.len-count.result ≡ length marks = search rules in
    let same = marks_copied _ _ _ _ _ _ _ _ _ c.self.invariant in
    ap (λ (m : LevelMark). m.alternate) c.index.ensures
    ∙ ap (λ k. (get_or marks (k - 1) c.index.result.now).alternate) n
    ∙ last_tried c.self.inside.clock marks (copies c.self.inside.cells.words c.self.inside.cache) c.self.inside.calls.items c.index.result.now same (omega arith)
    ∙ ap (λ (r : Contents). tried_at (last_of r.levels)) c.self.view_is

pub returns-then-count-eq0 : goal.returns-then-count-eq0
returns-then-count-eq0 g c =
    let marks = c.self.inside.marks.items in
    let n : c.len-count.result ≡ length marks = search rules in
    let copied = copies c.self.inside.cells.words c.self.inside.cache in
    none_tried c.self.inside.clock marks copied c.self.inside.calls.items (omega arith) ∙ ap (λ (r : Contents). tried_at (last_of r.levels)) c.self.view_is
