use Rattle.std.proofs.Common.{◌≡◌, List, ℤ, get_or, slice_set, of_z, to_z, w64, ap, sym, ◌∙◌, rules, subst, arith}
use Rattle.std.proofs.lemmas.Int.{to_z-of_z}
use Rattle.rb_base.specs.Lines.{belonging}
use Rattle.rb_cell.specs.Store.{Store}
use Rattle.rb_back.specs.Noting.{Notes}
use Rattle.rb_back.specs.Picture.{Picture, picture, with_word}
use Rattle.rb_back.proofs.Noted.{notes_none, word_noted, word_same}
use Rattle.rb_back.proofs.Pictures.{cells_long, cells_with_word, within_cells, word_in}
use Rattle.rb_back.proofs.noting.note_word.Goals as goal

pub read-before-requires : goal.read-before-requires
read-before-requires g c =
    omega (
      arith,
      cells_long c.args.view.now.words.items c.args.process c.index.result.now c.requires.there c.index.ensures,
      c.requires.at,
    )

pub write-requires : goal.write-requires
write-requires g c =
    omega (
      arith,
      cells_long c.args.view.now.words.items c.args.process c.index_mut.result.now c.requires.there c.index_mut.ensures.value,
      c.requires.at,
    )

pub returns-else-before-now-clause-noted : goal.returns-else-before-now-clause-noted
returns-else-before-now-clause-noted g c target wanted = notes_none target c.args.changes.now.items (picture c.args.view.now)

pub returns-then-before-now-clause-view : goal.returns-then-before-now-clause-view
returns-then-before-now-clause-view g c =
    ap (λ (words : List (List ℤ)). record (picture c.args.view.now) { words = words })
    (cells_with_word c.args.view.now.words.items c.args.process c.args.at c.args.now c.index_mut.result.now c.write.new.self
    (within_cells c.args.view.now.words.items c.args.process c.requires.there) c.index_mut.ensures.value
    (ap (λ (one : Store). one.words) c.write.ensures.words
    ∙ ap (λ (x : ℤ). slice_set c.index_mut.result.now.words c.args.at x) (to_z-of_z w64 c.args.now (search rules))))

pub returns-then-before-now-clause-noted : goal.returns-then-before-now-clause-noted
returns-then-before-now-clause-noted g c target wanted =
    let shown = picture c.args.view.now in
    let is : c.read-before.result ≡ get_or (belonging shown.words c.args.process) c.args.at c.read-before.result =
    word_in c.args.view.now.words.items c.args.process c.args.at c.index.result.now c.read-before.result c.requires.there c.index.ensures
    c.requires.at c.read-before.ensures.word in
    subst (λ (after : Picture). Notes target c.args.changes.now.items c.note.new.changes.items shown after)
    (sym (returns-then-before-now-clause-view g c))
    (word_noted target c.args.changes.now.items c.note.new.changes.items shown c.args.process c.args.at c.read-before.result c.args.now
    (search rules) c.requires.there c.requires.at is (λ e. c.if-before-now.true (ap (of_z w64) e)) wanted)

pub returns-else-before-now-clause-view : goal.returns-else-before-now-clause-view
returns-else-before-now-clause-view g c =
    let shown = picture c.args.view.now in
    let is : c.read-before.result ≡ get_or (belonging shown.words c.args.process) c.args.at c.read-before.result =
    word_in c.args.view.now.words.items c.args.process c.args.at c.index.result.now c.read-before.result c.requires.there c.index.ensures
    c.requires.at c.read-before.ensures.word in
    let same : c.read-before.result ≡ c.args.now =
    sym (to_z-of_z w64 c.read-before.result (search rules)) ∙ ap (to_z w64) c.if-before-now.false ∙ to_z-of_z w64 c.args.now (search rules) in
    ap (λ (words : List (List ℤ)). record shown { words = words })
    (sym (ap (λ (x : ℤ). with_word c.args.process c.args.at x shown.words) (sym same)
    ∙ word_same shown.words c.args.process c.args.at c.read-before.result is))
