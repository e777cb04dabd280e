-- What is known of a world before a turn in which levels are nested, and what then becomes of the levels of a conversation in the
-- turn: of all that are inside at once.
use Rattle.std.specs.Prelude.{◌≡◌, ℕ, suc, nat_eq, true, false, List, [], ◌∷◌, length, slice_get, Some, None}
use Rattle.std.specs.List.{list_any}
use Rattle.rb_base.specs.declared.event.Event.TheVariants.{Pass}
use Rattle.rb_world.specs.Kind.{Facts, Kind, Enters}
use Rattle.rb_world.specs.World.{Level, Process, World}
use Rattle.rb_world.specs.Reject.{next_alternate, parent_of}
use Rattle.rb_world.specs.Turn.{Moved, freed, members_of}
use Rattle.rb_world.specs.Together.{AllCome, IsEmpty}
use Rattle.rb_world.specs.Standing.{Each}
use Rattle.rb_world.specs.Nested.{IsLevelOf}
use Rattle.rb_world.proofs.Members.Cascade.{AllNested, EndsIn}

-- What is known before a turn: levels are nested, and are those of members; who stands at no line and enters a conversation that
-- lies in no other has no level; a conversation that is broken lies in no other; no lines are left to be released.
pub record IsOrdered {S C M : Type 0} (k : Kind S C M) (w : World S C M) : Type 0 where
  pub nested : AllNested k w
  pub members : (r i c : ℕ) (q : Process S C) → slice_get w.processes r ≡ Some q → IsLevelOf c q.levels i
      → list_any (nat_eq r) (members_of (slice_get k.groups c)) ≡ true
  pub outermost : (r c : ℕ) (q : Process S C) (facts : Facts) → slice_get w.processes r ≡ Some q → q.at_line ≡ false → k.want q.state ≡ Enters facts
      → facts.conversation ≡ Some c → parent_of (slice_get k.groups c) ≡ None → q.levels ≡ []
  pub broken : Each (λ c talk. talk.is_broken ≡ true → parent_of (slice_get k.groups c) ≡ None) w.talks
  pub quiet : (r : ℕ) (q : Process S C) → slice_get w.processes r ≡ Some q → freed k q ≡ q

-- a level, but for its turns used
abbrev pub unused : {C : Type 0} → Level C → Level C
unused level = record { facts = level.facts; alternate = level.alternate; used = 0; copy = level.copy }

-- a conversation's level is among later levels at the same number
abbrev pub Carries : {C : Type 0} → ℕ → List (Level C) → List (Level C) → Type 0
Carries {C} c levels later = (i : ℕ) (at : IsLevelOf c levels i)
    → (level : Level C) × (slice_get later i ≡ Some level) × (unused level ≡ unused at.level)

-- who is inside a conversation keeps its level of it
abbrev pub Keeps : {S C M : Type 0} → ℕ → World S C M → World S C M → Type 0
Keeps {S} {C} {M} c w later = (r : ℕ) (q : Process S C) → slice_get w.processes r ≡ Some q
    → (now : Process S C) × (slice_get later.processes r ≡ Some now) × Carries c q.levels now.levels

-- a process is back at its level number i, which goes on to the next alternate
pub record IsBack {S C M : Type 0} (k : Kind S C M) (i : ℕ) (level : Level C) (now : Process S C) : Type 0 where
  pub innermost : length now.levels ≡ suc i
  pub next : slice_get now.levels i ≡ Some (next_alternate level)
  pub left : S
  pub state : now.state ≡ k.restore left level.copy
  pub away : now.at_line ≡ false

-- all that are inside a conversation are back at their levels of it
abbrev pub AreBack : {S C M : Type 0} → Kind S C M → ℕ → World S C M → World S C M → Type 0
AreBack {S} {C} {M} k c w later = (r i : ℕ) (q : Process S C) → slice_get w.processes r ≡ Some q → (at : IsLevelOf c q.levels i)
    → (now : Process S C) × (slice_get later.processes r ≡ Some now) × IsBack k i at.level now

-- What becomes in a turn of p of the levels of a conversation.
pub data Together {S C M : Type 0} (k : Kind S C M) (c p : ℕ) (w : World S C M) (moved : Moved S C M) : Type 0 where
  AllStay : Keeps c w moved.world → Together k c p w moved
  AllPass : (alternate : ℕ) → moved.passes ≡ Pass c alternate ∷ [] → AllCome k c p w → IsEmpty c moved.world → Together k c p w moved
  AllGoBack : EndsIn c p moved.rejections → AreBack k c w moved.world → Together k c p w moved
  AllGoOut : (outer : ℕ) → EndsIn outer p moved.rejections → IsEmpty c moved.world → Together k c p w moved
