use Rattle.rb_picture.proofs.turn.write_turn.Goals as goal

pub returns-in-Idle : goal.returns-in-Idle
returns-in-Idle g c = rw (c.in-Idle.is, ← c.process_at-process.ensures) c.put_turn.ensures

pub returns-in-Undone : goal.returns-in-Undone
returns-in-Undone g c = rw (c.in-Undone.is, ← c.process_at-process.ensures) c.put_turn-in-Undone.ensures

pub returns-in-Wait : goal.returns-in-Wait
returns-in-Wait g c = rw (c.in-Wait.is, ← c.process_at-process.ensures) c.write_wait.ensures

pub returns-in-Took : goal.returns-in-Took
returns-in-Took g c = rw (c.in-Took.is, ← c.process_at-process.ensures) c.write_took.ensures
