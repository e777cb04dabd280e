-- How the regions lie one after the other in one arena, and the stamps of the first words: for each the number of its last
-- entry there, from 1, or 0. No other word has an entry.
use Rattle.std.specs.Prelude.{ℕ, ◌+◌, ◌<◌, ◌≤◌, ◌≡◌, Bool, eqb, cond, List, [], ◌∷◌, map, take, drop, length, get_or, zero, suc}
use Rattle.rb_cache.specs.declared.entry.Entry.{Entry}
use Rattle.rb_cache.specs.declared.entry.Mark.{Mark}
use Rattle.rb_cache.specs.Undo.{Saved, Region}
use Rattle.rb_cache.specs.Regions.{Stacked}

-- what an entry saves
abbrev pub saved_of : Entry → Saved
saved_of e = record { place = e.place; value = e.value }

-- the regions that the marks, from the innermost out, cut out of the arena
abbrev pub regions_of : List Mark → List Entry → List Region
regions_of [] log = []
regions_of (m ∷ ms) log = record { height = m.height; saved = map saved_of (drop m.first log) } ∷ regions_of ms (take m.first log)

-- a number one further in, or 1 if it is here, or none
abbrev pub one_more : Bool → ℕ → ℕ
one_more here zero = cond here 1 0
one_more here (suc n) = suc n + 1

-- the number of the last entry of a place, from 1, or 0
abbrev pub last_of : List Entry → ℕ → ℕ
last_of [] p = 0
last_of (e ∷ es) p = one_more (eqb e.place p) (last_of es p)

-- each stamp is that of the last entry of its place, and each entry has the stamp from before it
pub record WellStamped (stamps : List ℕ) (log : List Entry) : Type 0 where
  pub now : (p : ℕ) → p < length stamps → get_or stamps p 0 ≡ last_of log p
  pub before : (i : ℕ) (d : Entry) → i < length log → (get_or log i d).earlier ≡ last_of (take i log) (get_or log i d).place

-- each mark lies within the arena below the next one
abbrev pub Cuts : List Mark → List Entry → Type 0
Cuts [] log = length log ≡ 0
Cuts (m ∷ ms) log = (m.first ≤ length log) × Cuts ms (take m.first log)

-- what ties n stamps and the arena to the marks, from the innermost out
pub record Holds (n : ℕ) (ms : List Mark) (stamps : List ℕ) (log : List Entry) : Type 0 where
  pub size : length stamps ≡ n
  pub stamped : WellStamped stamps log
  pub cuts : Cuts ms log
  pub stacked : Stacked n (regions_of ms log)
