use Rattle.std.proofs.Common.{◌+◌, ◌∙◌, Err, drop, refl, sym}
use Rattle.rb_syntax.specs.Plain.{tree}
use Rattle.rb_trace.specs.Naming.{naming}
use Rattle.rb_trace.proofs.Written.{written_more, written_part}
use Rattle.rb_world.specs.Text.{out_lines}
use Rattle.rb_world.specs.Turn.{freed, freed_lines}
use Rattle.rb_world.specs.World.{with_each}
use Rattle.rb_plain.specs.Played.{outs_in, played}
use Rattle.rb_levels.specs.Worlds.{unkept_kind, world_of}
use Rattle.rb_plain.proofs.TurnsLeft.{outs_next, still_ends, still_stuck, turn_taken, turn_wanting}
use Rattle.rb_plain.proofs.Writing.{next_wanting, writes_answered, writes_failed}
use Rattle.rb_plain.proofs.playing.play.Goals as goal

pub loop-kept-preserved : goal.loop-kept-preserved
loop-kept-preserved g c =
    let program = tree c.args.program.now in
    let turns = c.args.turns.now in
    let i = c.loop-kept.kept-index in
    let names = naming c.args.names.now in
    let moved = world_of program c.take.new.processes in
    let on = turn_taken program turns i (record { turn = 0; process = 0; alternate = 0 }) c.loop-kept-test.true
    (world_of program c.loop-kept.processes)
    moved (world_of program c.free_all.new.processes) c.in_ok-take.ensures c.free_all.ensures in
    record {
      goes = sym (still_stuck on) ∙ c.loop-kept.invariant.goes;
      ends = c.loop-kept.invariant.ends ∙ still_ends on;
      text = written_more _ _ (out_lines names _ 0 (freed_lines (unkept_kind program) moved))
          (outs_in names (played program (drop (i + 1) turns) (world_of program c.free_all.new.processes))) _ _ _ _ _ _
          c.loop-kept.invariant.text (outs_next on names c.loop-kept.invariant.goes) c.in_ok-write_freed.ensures;
    }

pub returns-in_err-take-clause-text : goal.returns-in_err-take-clause-text
returns-in_err-take-clause-text g c =
    let program = tree c.args.program.now in
    writes_answered _ _ _ _ _ c.in_err-take.field-0.0 c.from_residual.result c.from_residual.ensures.1
    (next_wanting _ _ _ _ _ _ c.in_err-take.field-0.0
    (turn_wanting program c.args.turns.now c.loop-kept.kept-index (record { turn = 0; process = 0; alternate = 0 }) c.loop-kept-test.true
    (world_of program c.loop-kept.processes)
    (world_of program c.take.new.processes) c.in_err-take.field-0.0 c.loop-kept.invariant.goes c.in_err-take.ensures)
    c.loop-kept.invariant.text)

pub returns-in_err-write_freed-clause-text : goal.returns-in_err-write_freed-clause-text
returns-in_err-write_freed-clause-text g c =
    let program = tree c.args.program.now in
    let turns = c.args.turns.now in
    let i = c.loop-kept.kept-index in
    let names = naming c.args.names.now in
    let moved = world_of program c.take.new.processes in
    let next = with_each (freed (unkept_kind program)) moved in
    let on = turn_taken program turns i (record { turn = 0; process = 0; alternate = 0 }) c.loop-kept-test.true
    (world_of program c.loop-kept.processes)
    moved next c.in_ok-take.ensures refl in
    writes_failed _ _ _ _ _ c.in_err-write_freed.field-0.0 c.from_residual-in_err-write_freed.result c.from_residual-in_err-write_freed.ensures.1
    (written_part _ _ (out_lines names _ 0 (freed_lines (unkept_kind program) moved))
    (outs_in names (played program (drop (i + 1) turns) next)) _ _ _ _ _ _ c.in_err-write_freed.field-0.0
    (Err c.in_err-write_freed.field-0.0)
    c.loop-kept.invariant.text (outs_next on names c.loop-kept.invariant.goes) c.in_err-write_freed.ensures refl)
