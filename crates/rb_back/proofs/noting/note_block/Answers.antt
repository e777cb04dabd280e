-- A word more.
use Rattle.std.proofs.Common.{ℤ, List, Some, ap, sym, ◌∙◌, arith, rules, w64}
use Rattle.std.proofs.lemmas.Int.{to_z-of_z}
use Rattle.rb_back.specs.Picture.{picture}
use Rattle.rb_back.proofs.Noted.{notes_none, notes_then}
use Rattle.rb_back.proofs.Progress.{front_shown, here_long, here_there, word_more}
use Rattle.rb_back.proofs.noting.note_block.Goals as goal

pub loop-at-init : goal.loop-at-init
loop-at-init g c =
    let before = picture c.args.view.now in
    let now = g.M.Final.words c.args.machine.now in
    record {
      shown = ap (λ (words : List (List ℤ)). record before { words = words })
          (sym (front_shown before.words now c.args.process c.args.from c.requires.before));
      noted = notes_none now c.args.changes.now.items before;
      len = omega arith;
      room = omega arith;
    }

pub note_word-requires-clause-there : goal.note_word-requires-clause-there
note_word-requires-clause-there g c =
    here_there (picture c.args.view.now) (picture c.loop-at.view) (picture c.loop-at.view) (g.M.Final.words c.args.machine.now) c.args.process
    c.requires.there c.requires.words c.loop-at.at c.loop-at.invariant.shown

pub note_word-requires-clause-at : goal.note_word-requires-clause-at
note_word-requires-clause-at g c =
    let long = here_long (picture c.args.view.now) (picture c.loop-at.view) (picture c.loop-at.view) (g.M.Final.words c.args.machine.now)
    c.args.process c.requires.there c.requires.words c.loop-at.at c.loop-at.invariant.shown
    (omega (arith, c.requires.within, c.loop-at-test.true)) in
    omega (arith, long, c.requires.within, c.loop-at-test.true)

pub loop-at-preserved : goal.loop-at-preserved
loop-at-preserved g c =
    let same = to_z-of_z w64 c.word-now.result (search rules) in
    record {
      shown = word_more (picture c.args.view.now) (picture c.loop-at.view) (picture c.note_word.new.view)
          (g.M.Final.words c.args.machine.now) c.args.process c.requires.there c.requires.words c.loop-at.at _ c.word-now.result
          c.loop-at.invariant.shown c.note_word.ensures.view same (omega (arith, c.requires.within, c.loop-at-test.true))
          c.word-now.ensures.value;
      noted = notes_then c.loop-at.invariant.noted
          (c.note_word.ensures.noted (g.M.Final.words c.args.machine.now)
          (c.word-now.ensures.value ∙ ap (λ (z : ℤ). Some z) (sym same)));
      len = omega (arith, c.note_word.ensures.len, c.loop-at.invariant.len, c.loop-at.auto.at);
      room = omega (arith, c.note_word.ensures.room, c.loop-at.invariant.room);
    }
