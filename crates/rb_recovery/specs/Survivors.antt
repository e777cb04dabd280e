-- The survivors of a world of the word machine: the turns that its links reach.
use Rattle.std.specs.Prelude.{ℕ, cond, Bool, List, [], ◌∷◌, map, slice_get, slice_set}
use Rattle.rb_base.specs.declared.kept.Kept.{Kept}
use Rattle.rb_world.specs.Plain.{survivors_of}
use Rattle.rb_world.specs.World.{is_number}
use Rattle.rb_code.specs.WordMachine.Turn.{Link, kept_from}
use Rattle.rb_code.specs.WordMachine.WordRun.{WordWorld}

-- the turns that the links reach from the last kept turn of each process, in the order of their numbers
abbrev pub word_survivors : WordWorld → List Kept
word_survivors w = survivors_of (map (λ q. kept_from w.memory.links q.state.last_kept) w.processes)

-- Of each process a turn is wanted; this link is the one of its process.
abbrev pub is_wanted : List ℕ → Link → Bool
is_wanted wanted link = is_number (slice_get wanted link.process) link.turn

-- then the turn before it is wanted
abbrev pub next_wanted : List ℕ → Link → List ℕ
next_wanted wanted link = slice_set wanted link.process link.before

-- the turn that a link keeps
abbrev pub kept_by : Link → Kept
kept_by link = record { turn = link.turn; process = link.process; alternate = link.alternate }

-- the turns that links lead to from the wanted ones, the newest first
abbrev pub reached : List Link → List ℕ → List Kept
reached [] wanted = []
reached (link ∷ links) wanted =
    cond (is_wanted wanted link) (kept_by link ∷ reached links (next_wanted wanted link)) (reached links wanted)
