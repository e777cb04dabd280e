use Rattle.std.proofs.Common.{List, count_by, ap, sym, ◌∙◌, arith}
use Rattle.rb_back.specs.declared.view.Change.{Change}
use Rattle.rb_back.specs.Picture.{is_word, picture, undone_all}
use Rattle.rb_back.proofs.Pictures.{counted_last, undone_last}
use Rattle.rb_back.proofs.view.undo_all.Goals as goal

pub loop-last-preserved : goal.loop-last-preserved
loop-last-preserved g c =
    let before = c.in-Some.before.now in
    let last = c.in-Some.last.now in
    let parts = c.in-Some.ensures.cases.0 in
    record {
      view = ap (undone_all before) c.undo.ensures.view ∙ sym (undone_last before last (picture c.loop-last.view))
          ∙ ap (λ (changes : List Change). undone_all changes (picture c.loop-last.view)) (sym parts) ∙ c.loop-last.invariant.view;
      work = omega (
        arith,
        c.undo.ensures.work,
        c.loop-last.invariant.work,
        ap (λ (changes : List Change). count_by is_word changes) parts,
        counted_last before last,
      );
    }
