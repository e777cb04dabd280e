use Rattle.std.proofs.Common.{[], pos, length, ap, sym, ◌∙◌, subst}
use Rattle.std.specs.Prelude.{slice_set, vec_capacity}
use Rattle.rb_hold.specs.Held.{TwoLists}
use Rattle.rb_code.specs.WordMachine.Workspace.{held_place}
use Rattle.rb_recoverable.specs.Contents.{Contents}
use Rattle.rb_recoverable.specs.Inside.{IsTied, contents}
use Rattle.rb_recoverable.proofs.Leaving.{seen_release, tied_release}
use Rattle.rb_recoverable.proofs.recoverable.Recoverable.release.Goals as goal

pub invariant_of-self : goal.invariant_of-self
invariant_of-self g c =
    let i = c.self.inside in
    let none = ap (λ (r : Contents). length r.levels) c.self.view_is ∙ c.requires.none_open in
    subst
    (λ (two : TwoLists). IsTied i.clock i.deadline c.write.new.cells c.write.new.self i.calls.items (vec_capacity i.calls) i.marks.items
    (vec_capacity i.marks) two)
    (sym c.release.ensures)
    (tied_release _ _ _ _ _ _ _ _ _ c.self.invariant none c.write.new.cells c.write.new.self c.write.ensures.cells c.write.ensures.copies
    c.write.ensures.levels c.write.ensures.fits c.write.ensures.limits)

pub returns-clause-lines : goal.returns-clause-lines
returns-clause-lines g c =
    let i = c.self.inside in
    let none = ap (λ (r : Contents). length r.levels) c.self.view_is ∙ c.requires.none_open in
    ap (λ (two : TwoLists). contents i.clock c.write.new.cells.words c.write.new.self i.calls.items i.marks.items two) c.release.ensures
    ∙ seen_release _ _ _ _ _ _ _ _ _ c.self.invariant none c.write.new.cells c.write.new.self c.write.ensures.cells c.write.ensures.copies c.write.ensures.levels
    ∙ ap (λ (r : Contents). record r { words = slice_set r.words held_place (pos 0); held = []; waiting = r.held }) c.self.view_is
