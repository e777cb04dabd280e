-- How each process stands, and then the words of all processes, or of one.
use Rattle.std.proofs.Common.{ℤ, List, length, slice_set, ap, ◌∙◌, arith}
use Rattle.std.proofs.lemmas.List.{length-map}
use Rattle.rb_base.specs.Lines.{belonging}
use Rattle.rb_cell.specs.Store.{Store}
use Rattle.rb_back.specs.Picture.{Picture, picture}
use Rattle.rb_back.proofs.Alike.{all_by_none, all_by_one, alike_at, alike_count, own_within}
use Rattle.rb_back.proofs.Noted.{notes_then}
use Rattle.rb_back.proofs.noting.note_turn.Goals as goal

pub note_words-requires-clause-words : goal.note_words-requires-clause-words
note_words-requires-clause-words g c =
    ap (λ (shown : Picture). length (belonging shown.words c.args.p)) c.note_states.ensures.view
    ∙ alike_at (picture c.args.view.now).words (g.M.Final.words c.args.machine.now) c.args.p c.requires.words

pub note_words-requires-clause-room : goal.note_words-requires-clause-room
note_words-requires-clause-room g c = omega (
  arith,
  ap (λ (shown : Picture). length (belonging shown.words c.args.p)) c.note_states.ensures.view,
  own_within (picture c.args.view.now).words c.args.p,
  c.note_states.ensures.len,
  c.note_states.ensures.room,
  c.requires.room,
)

pub returns-then-not-alone-clause-noted : goal.returns-then-not-alone-clause-noted
returns-then-not-alone-clause-noted g c = notes_then (c.note_states.ensures.noted (g.M.Final.words c.args.machine.now)) c.note_all_words.ensures.noted

pub returns-then-p-len-clause-view : goal.returns-then-p-len-clause-view
returns-then-p-len-clause-view g c =
    let before = picture c.args.view.now in
    let now = g.M.Final.words c.args.machine.now in
    c.note_words.ensures.view
    ∙ ap (λ (shown : Picture). record shown { words = slice_set shown.words c.args.p (belonging now c.args.p) }) c.note_states.ensures.view
    ∙ ap (λ (words : List (List ℤ)). record before { states = g.M.Final.states c.args.machine.now; words = words })
    (all_by_one before.words now c.args.p (alike_count before.words now c.requires.words) (c.requires.alone c.if-not-alone.false))

pub returns-then-p-len-clause-noted : goal.returns-then-p-len-clause-noted
returns-then-p-len-clause-noted g c = notes_then (c.note_states.ensures.noted (g.M.Final.words c.args.machine.now)) c.note_words.ensures.noted

pub returns-else-p-len-clause-view : goal.returns-else-p-len-clause-view
returns-else-p-len-clause-view g c =
    let before = picture c.args.view.now in
    let now = g.M.Final.words c.args.machine.now in
    c.note_states.ensures.view
    ∙ ap (λ (words : List (List ℤ)). record before { states = g.M.Final.states c.args.machine.now; words = words })
    (all_by_none before.words now c.args.p (alike_count before.words now c.requires.words) (c.requires.alone c.if-not-alone.false)
    (omega (
      arith,
      c.if-p-len.false,
      c.len.ensures,
      ap (λ (shown : Picture). length shown.words) c.note_states.ensures.view,
      length-map c.note_states.new.view.words.items (λ (one : Store). one.words),
    )))
