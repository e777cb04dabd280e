-- What is told of how a run stands, as a statement of the world at its end, and of the turns that may follow.
use Rattle.std.specs.Prelude.{◌≡◌, ◌<◌, ◌↔◌, ℕ, ◌+◌, true, false, List, ◌++◌, codes, length}
use Rattle.std.specs.List.{list_all}
use Rattle.rb_syntax.specs.Tree.{Tree}
use Rattle.rb_world.specs.Kind.{Kind}
use Rattle.rb_world.specs.Turn.{turn}
use Rattle.rb_world.specs.World.{World}
use Rattle.rb_meaning.specs.Meaning.{run_of, tree_kind}
use Rattle.rb_stuck.specs.Stuck.{ChangesMore, ChangesNoMore, ChangesNothing, has_ended}

-- Some process goes on: its next turn changes more than turns used. It may be one in which a level is beyond its bound, and is rejected.
pub record GoesOn {S C M : Type 0} (k : Kind S C M) (t : ℕ) (w : World S C M) : Type 0 where
  pub process : ℕ
  pub is_there : process < length w.processes
  pub changes : ChangesMore k t w process

-- Some process runs, and none goes on: no next turn changes more than turns used.
pub record NobodyGoesOn {S C M : Type 0} (k : Kind S C M) (t : ℕ) (w : World S C M) : Type 0 where
  pub some_run : list_all has_ended w.processes ≡ false
  pub all_stay : (p : ℕ) → ChangesNoMore w (turn k t p w)

-- a text begins with these bytes
abbrev pub BeginsWith : List ℕ → List ℕ → Type 0
BeginsWith text first = (rest : List ℕ) × (text ≡ first ++ rest)

-- What is written of a world is so, and where it is so it is written: `ended` where all processes are done or have failed, `stuck` where
-- some run and none goes on, and `open` where some process goes on. Who is stuck stays so, whatever turns follow, up to the first in which
-- a level is beyond its bound. The next turn is the one with this number.
pub record StandsAsWritten {S C M : Type 0} (k : Kind S C M) (t : ℕ) (w : World S C M) (text : List ℕ) : Type 0 where
  pub ended : (text ≡ codes "ended\n") ↔ (list_all has_ended w.processes ≡ true)
  pub stuck : BeginsWith text (codes "stuck\n") ↔ NobodyGoesOn k t w
  pub stays : BeginsWith text (codes "stuck\n") → (turns : List ℕ) → ChangesNothing k w t turns w
  pub goes_on : (text ≡ codes "open\n") ↔ GoesOn k t w

-- The run of a tree over these turns stands at its end as the text says.
abbrev pub StandsAsTold : Tree → List ℕ → List ℕ → Type 0
StandsAsTold tree turns text = StandsAsWritten (tree_kind tree) (length turns + 1) (run_of tree turns).0 text
