use Rattle.std.proofs.Common.{◌≡◌, ◌<◌, get_or, length, pos, sym, ap, ◌∙◌, w64, rules, arith}
use Rattle.std.specs.List.{flat_map}
use Rattle.std.proofs.lemmas.Int.{to_z-of_z}
use Rattle.std.proofs.lemmas.Option.{unwrap_or-slice_get}
use Rattle.rb_meaning.specs.Environment.{Stored}
use Rattle.rb_walk.specs.Slots.{frame}
use Rattle.rb_walk.proofs.Words.{number_here, number_later, number_beyond}
use Rattle.rb_walk.proofs.environment.word_of.Goals as goal

pub returns-in-Some : goal.returns-in-Some
returns-in-Some c =
    let slot = c.slot-item.result in
    let found = c.in-Some.ensures.lookup.3 in
    let within : c.loop-slot.left < length slot.values.items = omega (arith, found.0, ap length c.deref.ensures.value) in
    let value : c.in-Some.value.now ≡ get_or slot.values.items c.loop-slot.left (pos 0) =
    found.1 (pos 0) ∙ ap (λ ns. get_or ns c.loop-slot.left (pos 0)) c.deref.ensures.value in
    to_z-of_z w64 c.in-Some.value.now (search rules)
    ∙ number_here c.args.slots.now c.loop-slot.slot-index c.loop-slot.left slot c.in-Some.value.now c.loop-slot-test.true c.slot-item.is within value
    ∙ c.loop-slot.invariant
    ∙ sym (unwrap_or-slice_get (flat_map (λ (s : Stored). s.values) (frame c.args.slots.now)) c.args.at (pos 0))

pub loop-slot-preserved : goal.loop-slot-preserved
loop-slot-preserved c =
    let slot = c.slot-item.result in
    let beyond = c.in_default.ensures.lookup.3 in
    let many : length slot.values.items ≡ c.len-left.result = omega (arith, slot.values.ok.0, c.len-left.ensures) in
    number_later c.args.slots.now c.loop-slot.slot-index c.loop-slot.left c.len-left.result slot c.loop-slot-test.true c.slot-item.is many
    (omega (arith, beyond, ap length c.deref.ensures.value))
    ∙ c.loop-slot.invariant

pub returns : goal.returns
returns c =
    number_beyond c.args.slots.now c.loop-slot.slot-index c.loop-slot.left c.loop-slot-test.false
    ∙ c.loop-slot.invariant
    ∙ sym (unwrap_or-slice_get (flat_map (λ (s : Stored). s.values) (frame c.args.slots.now)) c.args.at (pos 0))
