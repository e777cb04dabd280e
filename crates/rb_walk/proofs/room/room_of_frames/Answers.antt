use Rattle.std.proofs.Common.{map, sym, ap, ◌∙◌, refl, arith}
use Rattle.std.proofs.lemmas.List.{length-map}
use Rattle.rb_meaning.specs.Environment.{frame_words}
use Rattle.rb_walk.specs.Slots.{frame, left_of}
use Rattle.rb_walk.proofs.Innermost.{frame_in}
use Rattle.rb_walk.proofs.Words.{left_some, left_not, part_more, part_none, parts_all, sum_by-reverse}
use Rattle.rb_walk.proofs.room.room_of_frames.Goals as goal

pub returns-in_err-left : goal.returns-in_err-left
returns-in_err-left c =
    let frames = c.args.frames.now in
    let slots = c.slots-item.result in
    let left = c.loop-slots.left in
    let many = ap (λ xs. left_of left (frame_words (frame xs))) c.deref.ensures.value in
    c.from_residual.ensures
    ∙ part_none frame_in frame_words frames c.loop-slots.slots-index left
    (frame_words (frame_in slots)) slots c.loop-slots-test.true c.slots-item.is refl
    (left_not left (frame_words (frame_in slots)) (c.in_err-left.ensures ∙ many))
    ∙ c.loop-slots.invariant
    ∙ ap (left_of c.args.most) (sym (sum_by-reverse frame_words (map frame_in frames)))

pub loop-slots-preserved : goal.loop-slots-preserved
loop-slots-preserved c =
    let frames = c.args.frames.now in
    let slots = c.slots-item.result in
    let left = c.loop-slots.left in
    let many = ap (λ xs. left_of left (frame_words (frame xs))) c.deref.ensures.value in
    part_more frame_in frame_words frames c.loop-slots.slots-index left
    (frame_words (frame_in slots)) slots c.loop-slots-test.true c.slots-item.is refl
    c.in_ok-left.left (left_some left (frame_words (frame_in slots)) c.in_ok-left.left (c.in_ok-left.ensures ∙ many))
    ∙ c.loop-slots.invariant

pub returns : goal.returns
returns c =
    let frames = c.args.frames.now in
    parts_all frame_words (map frame_in frames) c.loop-slots.slots-index c.loop-slots.left (omega (arith, length-map frames frame_in))
    ∙ c.loop-slots.invariant
    ∙ ap (left_of c.args.most) (sym (sum_by-reverse frame_words (map frame_in frames)))
