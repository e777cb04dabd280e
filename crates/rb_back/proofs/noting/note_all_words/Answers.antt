-- The words of a process more.
use Rattle.std.proofs.Common.{◌≡◌, ℕ, ℤ, List, ◌<◌, ◌+◌, ◌++◌, length, take, drop, refl, ap, sym, ◌∙◌, subst, arith}
use Rattle.std.proofs.lemmas.List.{length-append, length-drop, length-map, length-take}
use Rattle.rb_cell.specs.Store.{Store}
use Rattle.rb_back.specs.Picture.{Picture, picture}
use Rattle.rb_back.proofs.Alike.{alike_at, alike_count, here_behind, words_next, words_within}
use Rattle.rb_back.proofs.Noted.{notes_none, notes_then}
use Rattle.rb_back.proofs.Pictures.{cells_long}
use Rattle.rb_back.proofs.Progress.{all_processes, process_more}
use Rattle.rb_back.proofs.noting.note_all_words.Goals as goal

-- a process is shown still
shown_still : (before here : Picture) (now : List (List ℤ)) (p : ℕ) → here ≡ record before { words = take p now ++ drop p before.words }
    → length before.words ≡ length now → p < length before.words → p < length here.words
shown_still before here now p is long less =
    subst (λ (shown : Picture). p < length shown.words) (sym is)
    (omega (arith, length-append (take p now) (drop p before.words), length-take p now, length-drop p before.words, long, less))

pub loop-p-init : goal.loop-p-init
loop-p-init g c = record {
  shown = refl;
  noted = notes_none (g.M.Final.words c.args.machine.now) c.args.changes.now.items (picture c.args.view.now);
  len = omega arith;
  room = omega arith;
}

pub note_words-requires-clause-stores : goal.note_words-requires-clause-stores
note_words-requires-clause-stores g c k within outside =
    let before = picture c.args.view.now in
    let now = g.M.Final.words c.args.machine.now in
    let less : c.loop-p.p < length before.words =
    omega (arith, c.loop-p-test.true, c.len-p-end.ensures, length-map c.args.view.now.words.items (λ (one : Store). one.words)) in
    let there : c.loop-p.p < length (picture c.loop-p.view).words =
    shown_still before (picture c.loop-p.view) now c.loop-p.p c.loop-p.invariant.shown (alike_count before.words now c.requires.words) less in
    let high = cells_long c.loop-p.view.words.items c.loop-p.p c.index.result.now there c.index.ensures in
    absurd (outside (omega arith, omega (arith, c.height.ensures.words, high, within)))

pub note_words-requires-clause-there : goal.note_words-requires-clause-there
note_words-requires-clause-there g c =
    let before = picture c.args.view.now in
    let now = g.M.Final.words c.args.machine.now in
    let less : c.loop-p.p < length before.words =
    omega (arith, c.loop-p-test.true, c.len-p-end.ensures, length-map c.args.view.now.words.items (λ (one : Store). one.words)) in
    shown_still before (picture c.loop-p.view) now c.loop-p.p c.loop-p.invariant.shown (alike_count before.words now c.requires.words) less

pub note_words-requires-clause-words : goal.note_words-requires-clause-words
note_words-requires-clause-words g c =
    let before = picture c.args.view.now in
    let less : c.loop-p.p < length before.words =
    omega (arith, c.loop-p-test.true, c.len-p-end.ensures, length-map c.args.view.now.words.items (λ (one : Store). one.words)) in
    ap length (here_behind before (picture c.loop-p.view) (g.M.Final.words c.args.machine.now) c.loop-p.p c.loop-p.invariant.shown c.requires.words less)
    ∙ alike_at before.words (g.M.Final.words c.args.machine.now) c.loop-p.p c.requires.words

pub note_words-requires-clause-room : goal.note_words-requires-clause-room
note_words-requires-clause-room g c =
    let before = picture c.args.view.now in
    let less : c.loop-p.p < length before.words =
    omega (arith, c.loop-p-test.true, c.len-p-end.ensures, length-map c.args.view.now.words.items (λ (one : Store). one.words)) in
    let own = ap length
    (here_behind before (picture c.loop-p.view) (g.M.Final.words c.args.machine.now) c.loop-p.p c.loop-p.invariant.shown c.requires.words less) in
    omega (
      arith,
      own,
      words_next before.words c.loop-p.p less,
      words_within before.words (c.loop-p.p + 1),
      c.loop-p.invariant.len,
      c.loop-p.invariant.room,
      c.requires.room,
    )

pub loop-p-preserved : goal.loop-p-preserved
loop-p-preserved g c =
    let before = picture c.args.view.now in
    let now = g.M.Final.words c.args.machine.now in
    let less : c.loop-p.p < length before.words =
    omega (arith, c.loop-p-test.true, c.len-p-end.ensures, length-map c.args.view.now.words.items (λ (one : Store). one.words)) in
    let own = ap length (here_behind before (picture c.loop-p.view) now c.loop-p.p c.loop-p.invariant.shown c.requires.words less) in
    record {
      shown = process_more before (picture c.loop-p.view) (picture c.note_words.new.view) now c.loop-p.p c.loop-p.invariant.shown
          c.note_words.ensures.view less (alike_count before.words now c.requires.words);
      noted = notes_then c.loop-p.invariant.noted c.note_words.ensures.noted;
      len = omega (arith, c.note_words.ensures.len, c.loop-p.invariant.len, own, words_next before.words c.loop-p.p less);
      room = omega (arith, c.note_words.ensures.room, c.loop-p.invariant.room);
    }

pub returns-clause-view : goal.returns-clause-view
returns-clause-view g c =
    let before = picture c.args.view.now in
    let now = g.M.Final.words c.args.machine.now in
    all_processes before (picture c.loop-p.view) now c.loop-p.p c.loop-p.invariant.shown (alike_count before.words now c.requires.words)
    (omega (
      arith,
      c.loop-p-test.false,
      c.loop-p.auto.p-end,
      c.len-p-end.ensures,
      length-map c.args.view.now.words.items (λ (one : Store). one.words),
    ))
