use Rattle.std.proofs.Common.{sym, ◌∙◌, ap, w64, rules}
use Rattle.std.proofs.lemmas.Int.{to_z-of_z}
use Rattle.rb_walk.specs.Slots.{frame, changed}
use Rattle.rb_walk.proofs.Places.{frame-set, frame-there, frame-absent, stored_in-absent}
use Rattle.rb_walk.proofs.environment.set.Goals as goal

pub returns-in-Some : goal.returns-in-Some
returns-in-Some c =
    let there = sym c.place_of.ensures ∙ c.in-Some.is in
    let same = to_z-of_z w64 c.args.value (search rules) in
    record {
      found = sym (frame-there c.args.name.now c.args.slots.now c.in-Some.place there);
      after = frame-set c.args.name.now c.args.index c.args.value c.args.slots.now c.in-Some.place c.index-slots-place.result c.set.new.self there
          (c.set.ensures ∙ ap (changed _ c.args.index) same);
    }

pub returns-in-None : goal.returns-in-None
returns-in-None c =
    let absent = frame-absent c.args.name.now c.args.slots.now (sym c.place_of.ensures ∙ c.in-None.is) in
    record {
      found = sym absent;
      after = sym (stored_in-absent c.args.name.now c.args.index c.args.value (frame c.args.slots.now) absent);
    }
