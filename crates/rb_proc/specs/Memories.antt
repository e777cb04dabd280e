-- What a process can recover, as it is lent.
use Rattle.std.specs.Prelude.{◌≡◌}
use Rattle.rb_world.specs.World.{Process}
use Rattle.rb_code.specs.WordMachine.Turn.{Copy, Standing}
use Rattle.rb_recoverable.specs.Contents.{Contents}

-- the words, the open calls, the held lines and the levels are those of a process
pub record IsMemoryOf (q : Process Standing Copy) (memory : Contents) : Type 0 where
  pub words : memory.words ≡ q.state.words
  pub calls : memory.calls ≡ q.state.calls
  pub held : memory.held ≡ q.state.held
  pub levels : memory.levels ≡ q.levels
