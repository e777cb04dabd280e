use Rattle.std.proofs.Common.{map, reverse, sym, ap, ◌∙◌, refl, arith}
use Rattle.std.proofs.lemmas.List.{length-map}
use Rattle.rb_meaning.specs.Environment.{frames_words}
use Rattle.rb_walk.specs.Slots.{frames_of, left_of}
use Rattle.rb_walk.proofs.Innermost.{frame_in}
use Rattle.rb_walk.proofs.Words.{left_some, left_not, part_more, part_none, parts_all, sum_by-reverse}
use Rattle.rb_walk.proofs.room.room_of_calls.Goals as goal

pub returns-in_err-left : goal.returns-in_err-left
returns-in_err-left c =
    let calls = c.args.calls.now in
    let call = c.call-item.result in
    let left = c.loop-call.left in
    let many = ap (λ xs. left_of left (frames_words (reverse (map frame_in xs)))) c.deref.ensures.value in
    c.from_residual.ensures
    ∙ part_none frames_of frames_words calls c.loop-call.call-index left
    (frames_words (frames_of call)) call c.loop-call-test.true c.call-item.is refl
    (left_not left (frames_words (frames_of call)) (c.in_err-left.ensures ∙ many))
    ∙ c.loop-call.invariant
    ∙ ap (left_of c.args.most) (sym (sum_by-reverse frames_words (map frames_of calls)))

pub loop-call-preserved : goal.loop-call-preserved
loop-call-preserved c =
    let calls = c.args.calls.now in
    let call = c.call-item.result in
    let left = c.loop-call.left in
    let many = ap (λ xs. left_of left (frames_words (reverse (map frame_in xs)))) c.deref.ensures.value in
    part_more frames_of frames_words calls c.loop-call.call-index left (frames_words (frames_of call)) call c.loop-call-test.true c.call-item.is refl
    c.in_ok-left.left (left_some left (frames_words (frames_of call)) c.in_ok-left.left (c.in_ok-left.ensures ∙ many))
    ∙ c.loop-call.invariant

pub returns : goal.returns
returns c =
    let calls = c.args.calls.now in
    parts_all frames_words (map frames_of calls) c.loop-call.call-index c.loop-call.left (omega (arith, length-map calls frames_of))
    ∙ c.loop-call.invariant
    ∙ ap (left_of c.args.most) (sym (sum_by-reverse frames_words (map frames_of calls)))
