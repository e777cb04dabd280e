-- A process more.
use Rattle.std.proofs.Common.{arith}
use Rattle.rb_back.specs.Picture.{picture}
use Rattle.rb_back.proofs.Noted.{notes_then}
use Rattle.rb_back.proofs.Progress.{state_more}
use Rattle.rb_back.proofs.noting.note_states.Goals as goal

pub loop-p-preserved : goal.loop-p-preserved
loop-p-preserved g c = record {
  shown = state_more (picture c.args.view.now) (picture c.loop-p.view) (picture c.note_state.new.view) (g.M.Final.states c.args.machine.now)
      c.loop-p.p c.state.result c.loop-p.invariant.shown c.note_state.ensures.view c.state.ensures
      (omega (arith, c.loop-p-test.true, c.len-p-end.ensures));
  noted = λ target. notes_then (c.loop-p.invariant.noted target) (c.note_state.ensures.noted target);
  len = omega (arith, c.note_state.ensures.len, c.loop-p.invariant.len);
  room = omega (arith, c.note_state.ensures.room, c.loop-p.invariant.room);
}
