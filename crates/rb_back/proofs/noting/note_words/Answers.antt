-- A block more, which has changed or not.
use Rattle.std.proofs.Common.{◌+◌, ℤ, List, ap, sym, ◌∙◌, arith}
use Rattle.rb_back.specs.Picture.{picture}
use Rattle.rb_back.proofs.Noted.{notes_none, notes_then}
use Rattle.rb_back.proofs.Pictures.{cells_long}
use Rattle.rb_back.proofs.Progress.{all_shown, block_more, here_front, here_long, here_there, none_shown, skip_block, skip_same}
use Rattle.rb_back.proofs.noting.note_words.Goals as goal

pub loop-from-init : goal.loop-from-init
loop-from-init g c =
    let before = picture c.args.view.now in
    let now = g.M.Final.words c.args.machine.now in
    let tall = c.height-height.ensures.words
    ∙ sym (cells_long c.args.view.now.words.items c.args.process c.index.result.now c.requires.there c.index.ensures) in
    record {
      tall = tall;
      within = omega (arith, c.min-from.ensures);
      ends = omega (arith, c.min-end.ensures);
      shown = skip_same before before before now c.args.process c.requires.there c.requires.words 0 c.min-from.result
          (ap (λ (words : List (List ℤ)). record before { words = words }) (sym (none_shown before.words now c.args.process))) (omega arith)
          (omega (arith, tall, c.min-from.ensures))
          (λ k from to. c.requires.stores k (omega (arith, tall, to, c.min-from.ensures)) (λ is. omega (arith, to, is.0, c.min-from.ensures)));
      noted = notes_none now c.args.changes.now.items before;
      len = omega arith;
      room = omega arith;
    }

pub are_same-requires-clause-there : goal.are_same-requires-clause-there
are_same-requires-clause-there g c =
    here_there (picture c.args.view.now) (picture c.loop-from.view) (picture c.loop-from.view) (g.M.Final.words c.args.machine.now)
    c.args.process c.requires.there c.requires.words c.loop-from.from c.loop-from.invariant.shown

pub are_same-requires-clause-within : goal.are_same-requires-clause-within
are_same-requires-clause-within g c =
    let long = here_long (picture c.args.view.now) (picture c.loop-from.view) (picture c.loop-from.view) (g.M.Final.words c.args.machine.now)
    c.args.process c.requires.there c.requires.words c.loop-from.from c.loop-from.invariant.shown
    (omega (arith, c.loop-from.invariant.tall, c.loop-from.invariant.within)) in
    omega (arith, long, c.loop-from.invariant.tall, c.min.ensures, c.loop-from-test.true)

pub are_same-requires-clause-words : goal.are_same-requires-clause-words
are_same-requires-clause-words g c =
    here_long (picture c.args.view.now) (picture c.loop-from.view) (picture c.loop-from.view) (g.M.Final.words c.args.machine.now)
    c.args.process c.requires.there c.requires.words c.loop-from.from c.loop-from.invariant.shown
    (omega (arith, c.loop-from.invariant.tall, c.loop-from.invariant.within))
    ∙ c.requires.words

pub note_block-requires-clause-there : goal.note_block-requires-clause-there
note_block-requires-clause-there g c =
    here_there (picture c.args.view.now) (picture c.loop-from.view) (picture c.loop-from.view) (g.M.Final.words c.args.machine.now)
    c.args.process c.requires.there c.requires.words c.loop-from.from c.loop-from.invariant.shown

pub note_block-requires-clause-before : goal.note_block-requires-clause-before
note_block-requires-clause-before g c =
    here_front (picture c.args.view.now) (picture c.loop-from.view) (picture c.loop-from.view) (g.M.Final.words c.args.machine.now)
    c.args.process c.requires.there c.requires.words c.loop-from.from c.loop-from.invariant.shown
    (omega (arith, c.loop-from.invariant.tall, c.loop-from.invariant.within))

pub note_block-requires-clause-within : goal.note_block-requires-clause-within
note_block-requires-clause-within g c =
    let long = here_long (picture c.args.view.now) (picture c.loop-from.view) (picture c.loop-from.view) (g.M.Final.words c.args.machine.now)
    c.args.process c.requires.there c.requires.words c.loop-from.from c.loop-from.invariant.shown
    (omega (arith, c.loop-from.invariant.tall, c.loop-from.invariant.within)) in
    omega (arith, long, c.loop-from.invariant.tall, c.min.ensures, c.loop-from-test.true)

pub note_block-requires-clause-words : goal.note_block-requires-clause-words
note_block-requires-clause-words g c =
    here_long (picture c.args.view.now) (picture c.loop-from.view) (picture c.loop-from.view) (g.M.Final.words c.args.machine.now)
    c.args.process c.requires.there c.requires.words c.loop-from.from c.loop-from.invariant.shown
    (omega (arith, c.loop-from.invariant.tall, c.loop-from.invariant.within))
    ∙ c.requires.words

pub note_block-requires-clause-room : goal.note_block-requires-clause-room
note_block-requires-clause-room g c = omega (
  arith,
  c.requires.room,
  c.loop-from.invariant.tall,
  c.loop-from.invariant.len,
  c.loop-from.invariant.room,
  c.min.ensures,
  c.loop-from-test.true,
)

pub loop-from-preserved-then-not-are_same : goal.loop-from-preserved-then-not-are_same
loop-from-preserved-then-not-are_same g c = record {
  tall = c.loop-from.invariant.tall;
  within = omega (arith, c.min.ensures, c.loop-from-test.true, c.loop-from.invariant.ends);
  ends = c.loop-from.invariant.ends;
  shown = block_more (picture c.args.view.now) (picture c.loop-from.view) (picture c.note_block.new.view) (g.M.Final.words c.args.machine.now)
      c.args.process c.requires.there c.requires.words c.loop-from.from (c.loop-from.from + c.min.result) c.loop-from.invariant.shown
      c.note_block.ensures.view (omega arith) (omega (arith, c.loop-from.invariant.tall, c.loop-from.invariant.ends, c.min.ensures, c.loop-from-test.true));
  noted = notes_then c.loop-from.invariant.noted c.note_block.ensures.noted;
  len = omega (arith, c.note_block.ensures.len, c.loop-from.invariant.len);
  room = omega (arith, c.note_block.ensures.room, c.loop-from.invariant.room);
}

pub loop-from-preserved : goal.loop-from-preserved
loop-from-preserved g c = record {
  tall = c.loop-from.invariant.tall;
  within = omega (arith, c.min.ensures, c.loop-from-test.true, c.loop-from.invariant.ends);
  ends = c.loop-from.invariant.ends;
  shown = skip_block (picture c.args.view.now) (picture c.loop-from.view) (picture c.loop-from.view) (g.M.Final.words c.args.machine.now)
      c.args.process c.requires.there c.requires.words c.loop-from.from (c.loop-from.from + c.min.result) c.loop-from.invariant.shown
      (omega arith) (omega (arith, c.loop-from.invariant.tall, c.loop-from.invariant.ends, c.min.ensures, c.loop-from-test.true))
      (c.are_same.ensures c.if-not-are_same.false);
  noted = c.loop-from.invariant.noted;
  len = omega (arith, c.loop-from.invariant.len);
  room = c.loop-from.invariant.room;
}

pub returns-clause-view : goal.returns-clause-view
returns-clause-view g c =
    let before = picture c.args.view.now in
    let now = g.M.Final.words c.args.machine.now in
    let tall = c.loop-from.invariant.tall in
    skip_same before (picture c.loop-from.view) (picture c.loop-from.view) now c.args.process c.requires.there c.requires.words c.loop-from.from
    c.height-height.result c.loop-from.invariant.shown c.loop-from.invariant.within (omega (arith, tall))
    (λ k from to. c.requires.stores k (omega (arith, tall, to))
    (λ is. omega (arith, from, to, is.1, c.min-end.ensures, c.loop-from-test.false)))
    ∙ ap (λ (words : List (List ℤ)). record before { words = words })
    (all_shown before.words now c.args.process c.requires.there c.requires.words c.height-height.result tall)

pub returns-clause-len : goal.returns-clause-len
returns-clause-len g c = omega (arith, c.loop-from.invariant.tall, c.loop-from.invariant.within, c.loop-from.invariant.len)
