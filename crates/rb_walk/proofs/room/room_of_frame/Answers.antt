use Rattle.std.proofs.Common.{◌≡◌, ◌≤◌, length, refl, ◌∙◌, arith}
use Rattle.rb_meaning.specs.Environment.{Stored}
use Rattle.rb_walk.specs.Slots.{stored}
use Rattle.rb_walk.proofs.Words.{part_more, part_none}
use Rattle.rb_walk.proofs.room.room_of_frame.Goals as goal

pub returns-then-words-left : goal.returns-then-words-left
returns-then-words-left c =
    let slot = c.slot-item.result in
    let many : c.len-words.result ≡ length slot.values.items = omega (arith, slot.values.ok.0, c.len-words.ensures) in
    let short : c.len-words.result ≤ c.loop-slot.left → ⊥ = λ h. omega (arith, h, c.if-words-left.true) in
    part_none stored
    (λ (s : Stored). length s.values) c.args.slots.now c.loop-slot.slot-index c.loop-slot.left c.len-words.result slot c.loop-slot-test.true c.slot-item.is many
    short
    ∙ c.loop-slot.invariant

pub loop-slot-preserved : goal.loop-slot-preserved
loop-slot-preserved c =
    let slot = c.slot-item.result in
    let many : c.len-words.result ≡ length slot.values.items = omega (arith, slot.values.ok.0, c.len-words.ensures) in
    part_more stored
    (λ (s : Stored). length s.values) c.args.slots.now c.loop-slot.slot-index c.loop-slot.left c.len-words.result slot c.loop-slot-test.true c.slot-item.is many
    _ (c.if-words-left.false, refl)
    ∙ c.loop-slot.invariant
