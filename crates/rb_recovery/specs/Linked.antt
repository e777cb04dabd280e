-- What is known of the links of every world of a run: their turns fall from the newest on, and from the last kept turn of a process, in the
-- present or in a copy, they lead to links of that process alone.
use Rattle.std.specs.Prelude.{◌≡◌, ◌<◌, ℕ, List, [], ◌∷◌}
use Rattle.rb_world.specs.Standing.{Each}
use Rattle.rb_world.specs.World.{Process}
use Rattle.rb_code.specs.WordMachine.Turn.{Copy, Link, Standing}
use Rattle.rb_code.specs.WordMachine.WordRun.{WordWorld}

-- the turns of links fall from below a number, the newest first, and none is 0
abbrev pub Fall : ℕ → List Link → Type 0
Fall t [] = 0 < t
Fall t (link ∷ links) = (link.turn < t) × Fall link.turn links

-- a turn lies below a number, and each link of it is one of process p
pub record IsOwn (links : List Link) (t p n : ℕ) : Type 0 where
  pub below : n < t
  pub own : Each (λ _ link. link.turn ≡ n → link.process ≡ p) links

-- so it is of the last kept turn of process p, and of those of its copies
pub record IsLinked (links : List Link) (t p : ℕ) (q : Process Standing Copy) : Type 0 where
  pub number : q.state.process ≡ p
  pub last : IsOwn links t p q.state.last_kept
  pub copied : Each (λ _ level. IsOwn links t p level.copy.last_kept) q.levels

-- and of the turn before that of each link, before turn number t of a run
pub record AreLinked (t : ℕ) (w : WordWorld) : Type 0 where
  pub fall : Fall t w.memory.links
  pub before : Each (λ _ link. IsOwn w.memory.links t link.process link.before) w.memory.links
  pub processes : Each (IsLinked w.memory.links t) w.processes
