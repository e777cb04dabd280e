use Rattle.std.proofs.Common.{ap, sym, ◌∙◌}
use Rattle.std.specs.List.{position_from}
use Rattle.std.proofs.lemmas.Iterator.Adapters.{position_from-zero}
use Rattle.std.proofs.lemmas.List.{drop_all}
use Rattle.rb_walk.proofs.Places.{is_named, place_here, place_later}
use Rattle.rb_walk.proofs.environment.place_of.Goals as goal

pub returns-then-eq : goal.returns-then-eq
returns-then-eq c =
    let x = c.args.name.now in
    let slots = c.args.slots.now in
    sym (place_here x slots c.loop-place.place c.index-slots-place.result c.loop-place-test.true c.index-slots-place.is (sym c.if-eq.ensures))
    ∙ c.loop-place.invariant
    ∙ sym (position_from-zero (is_named x) slots)

pub loop-place-preserved : goal.loop-place-preserved
loop-place-preserved c =
    sym
    (place_later c.args.name.now c.args.slots.now c.loop-place.place c.index-slots-place.result c.loop-place-test.true c.index-slots-place.is
    (sym c.if-eq.ensures))
    ∙ c.loop-place.invariant

pub returns : goal.returns
returns c =
    let x = c.args.name.now in
    let slots = c.args.slots.now in
    sym (ap (position_from (is_named x) c.loop-place.place) (drop_all c.loop-place.place slots c.loop-place-test.false))
    ∙ c.loop-place.invariant
    ∙ sym (position_from-zero (is_named x) slots)
