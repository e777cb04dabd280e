use Rattle.std.proofs.Common.{[], ap, length, map, take, ◌∙◌, arith, length-take}
use Rattle.std.proofs.lemmas.List.{length-map, take_all}
use Rattle.rb_world.proofs.ListFacts.{slice_get-there}
use Rattle.rb_changes.specs.Shown.{level_shown}
use Rattle.rb_picture.specs.Trace.{word_reading}
use Rattle.rb_view.proofs.Kept.{one_more}
use Rattle.rb_view.proofs.noting.note_levels.Goals as goal

pub level_at-requires-clause-level : goal.level_at-requires-clause-level
level_at-requires-clause-level g c q there = omega (arith, c.loop-k-test.true, c.levels-k-end.ensures q there)

pub loop-k-preserved : goal.loop-k-preserved
loop-k-preserved g c = record {
  long = omega (arith, c.add.ensures.len, c.loop-k.invariant.long);
  room = omega (arith, c.add.ensures.room, c.loop-k.invariant.room);
  noted = λ q there.
      let level = slice_get-there q.levels c.loop-k.k (omega (arith, c.loop-k-test.true, c.levels-k-end.ensures q there)) in
      c.add.ensures.items
      ∙ one_more _ q.levels c.loop-k.k level.0 c.loop-k.levels.items c.level_at.result level.1 (c.loop-k.invariant.noted q there)
      (c.level_at.ensures q level.0 there level.1);
}

pub add-requires : goal.add-requires
add-requires g c =
    let q = slice_get-there c.args.machine.now.world.processes c.args.p c.requires.process in
    omega (
      arith,
      c.loop-k.invariant.long,
      c.loop-k.invariant.room,
      c.loop-k-test.true,
      c.levels-k-end.ensures q.0 q.1,
      c.requires.steady.shallow c.args.p q.0 q.1,
      c.requires.room,
    )

pub returns-clause-few : goal.returns-clause-few
returns-clause-few g c =
    let q = slice_get-there c.args.machine.now.world.processes c.args.p c.requires.process in
    omega (
      arith,
      ap length (c.loop-k.invariant.noted q.0 q.1),
      length-map (take c.loop-k.k q.0.levels) (level_shown (word_reading c.args.machine.now.code c.args.machine.now.groups []) c.args.machine.now.world.memory),
      length-take c.loop-k.k q.0.levels,
      c.requires.steady.shallow c.args.p q.0 q.1,
    )

pub returns-clause-levels : goal.returns-clause-levels
returns-clause-levels g c q there =
    let shown = level_shown (word_reading c.args.machine.now.code c.args.machine.now.groups []) c.args.machine.now.world.memory in
    c.loop-k.invariant.noted q there
    ∙ ap (map shown) (take_all c.loop-k.k q.levels (omega (arith, c.loop-k-test.false, c.levels-k-end.ensures q there)))
