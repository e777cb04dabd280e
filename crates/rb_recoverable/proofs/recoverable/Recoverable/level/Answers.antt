use Rattle.std.proofs.Common.{[], length, ap, sym, ◌∙◌, subst, arith}
use Rattle.std.specs.Prelude.{get_or, slice_get, Option, Some}
use Rattle.rb_world.specs.World.{Level}
use Rattle.rb_cache.specs.Copies.{copies}
use Rattle.rb_code.specs.WordMachine.Turn.{Copy}
use Rattle.rb_recoverable.specs.Contents.{Contents}
use Rattle.rb_recoverable.specs.Inside.{level_of}
use Rattle.rb_recoverable.specs.Views.{IsViewOf}
use Rattle.rb_recoverable.specs.declared.recoverable.LevelMark.{LevelMark}
use Rattle.rb_recoverable.proofs.Backs.{pick}
use Rattle.rb_recoverable.proofs.Tied.{marks_copied, marks_levels}
use Rattle.rb_recoverable.proofs.recoverable.Recoverable.level.Goals as goal

pub index-requires : goal.index-requires
index-requires g c =
    let levels = marks_levels _ _ _ _ _ _ _ _ _ c.self.invariant in
    let same = ap (λ (r : Contents). length r.levels) c.self.view_is in
    omega arith

pub returns : goal.returns
returns g c =
    let i = c.self.inside in
    let levels = marks_levels _ _ _ _ _ _ _ _ _ c.self.invariant in
    let same = ap (λ (r : Contents). length r.levels) c.self.view_is in
    let copied = copies i.cells.words i.cache in
    let found = sym (ap (λ (r : Contents). slice_get r.levels c.args.k) c.self.view_is)
    ∙ pick i.clock i.marks.items copied i.calls.items c.args.k c.index.result.now (omega arith) (marks_copied _ _ _ _ _ _ _ _ _ c.self.invariant)
    ∙ ap (λ (m : LevelMark). Some (level_of i.clock m (get_or copied c.args.k []) i.calls.items)) (sym c.index.ensures) in
    subst (λ (o : Option (Level Copy)). IsViewOf o c.view_of.result) (sym found)
    (c.view_of.ensures.facts, c.view_of.ensures.alternate, c.view_of.ensures.used)
