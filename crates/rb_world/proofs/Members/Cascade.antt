-- How far a cascade of rejections has come, and what it comes to, from a world whose levels are nested.
use Rattle.std.specs.Prelude.{◌≡◌, ◌≢◌, ◌<◌, ℕ, suc, false, List, [], ◌∷◌, ◌++◌, length, slice_get, Option, Some, None}
use Rattle.rb_base.specs.declared.event.Cause.{Cause}
use Rattle.rb_base.specs.declared.event.Event.{Event}
use Rattle.rb_base.specs.declared.event.Event.TheVariants.{Reject, RejectAll, Error, Pass, Done}
use Rattle.rb_world.specs.Kind.{Kind, Membership}
use Rattle.rb_world.specs.World.{Level, Process, World}
use Rattle.rb_world.specs.Reject.{Happened, next_alternate, parent_of}
use Rattle.rb_world.specs.Nested.{AreNested, IsLevelOf}
use Rattle.rb_world.specs.Together.{IsOutside}

-- every process of a world has nested levels
abbrev pub AllNested : {S C M : Type 0} → Kind S C M → World S C M → Type 0
AllNested {S} {C} {M} k w = (r : ℕ) (q : Process S C) → slice_get w.processes r ≡ Some q → AreNested k.groups q.levels

-- A process in a cascade of p, of whose levels so many are left, and in which `last` was the last conversation to be put back.
-- Its levels up to there are those that it had, and who was outside that conversation is as it was.
pub record Now {S C M : Type 0} (p left : ℕ) (last : Option ℕ) (r : ℕ) (q : Process S C) (w : World S C M) : Type 0 where
  pub now : Process S C
  pub there : slice_get w.processes r ≡ Some now
  pub outer : (i : ℕ) → i < left → slice_get now.levels i ≡ slice_get q.levels i
  pub same : r ≢ p → IsOutside last q → now ≡ q

-- No conversation was put back yet, and if no level is left p had none of a conversation; or the last one lies in that of
-- the next level out.
pub data IsLast {C : Type 0} (groups : List Membership) (levels : List (Level C)) (left : ℕ) (last : Option ℕ) : Type 0 where
  NoneYet : last ≡ None → (left ≡ 0 → (i c : ℕ) → IsLevelOf c levels i → ⊥) → IsLast groups levels left last
  OneBefore : (c d j : ℕ) → last ≡ Some c → left ≡ suc j → parent_of (slice_get groups c) ≡ Some d → IsLevelOf d levels j
      → IsLast groups levels left last

-- a cascade of p, which was u in the world v in which it began, has come to the world w
pub record HasCome {S C M : Type 0} (k : Kind S C M) (p : ℕ) (u : Process S C) (v : World S C M) (left : ℕ)
    (last : Option ℕ) (w : World S C M) : Type 0 where
  pub last_is : IsLast k.groups u.levels left last
  pub each : (r : ℕ) (q : Process S C) → slice_get v.processes r ≡ Some q → Now p left last r q w

-- only private levels were rejected
abbrev pub ArePrivate : List Event → Type 0
ArePrivate [] = Unit {0}
ArePrivate (Reject p line a cause ∷ events) = ArePrivate events
ArePrivate (RejectAll c a p cause ∷ events) = ⊥
ArePrivate (Error p cause ∷ events) = ⊥
ArePrivate (Pass c a ∷ events) = ⊥
ArePrivate (Done p ∷ events) = ⊥

-- the last of these events rejects a conversation for p
pub record EndsIn (c p : ℕ) (events : List Event) : Type 0 where
  pub inner : List Event
  pub alternate : ℕ
  pub cause : Cause
  pub is : events ≡ inner ++ RejectAll c alternate p cause ∷ []

-- nobody else but who is inside a conversation has changed
abbrev pub LeavesOthers : {S C M : Type 0} → ℕ → Option ℕ → World S C M → World S C M → Type 0
LeavesOthers {S} {C} {M} p conversation v later = (r : ℕ) (q : Process S C) → slice_get v.processes r ≡ Some q → r ≢ p → IsOutside conversation q
    → slice_get later.processes r ≡ Some q

-- who had a level of a conversation still has it
abbrev pub KeepsTalks : {S C M : Type 0} → Process S C → ℕ → World S C M → Type 0
KeepsTalks {S} {C} {M} u p later =
    (now : Process S C) × (slice_get later.processes p ≡ Some now)
    × ((i c : ℕ) (at : IsLevelOf c u.levels i) → slice_get now.levels i ≡ Some at.level)

-- a process was put back to its level number j, which goes on to its next alternate
pub record IsBackAt {S C M : Type 0} (k : Kind S C M) (j : ℕ) (q : Process S C) (level : Level C) (now : Process S C) : Type 0 where
  pub innermost : length now.levels ≡ suc j
  pub outer : (i : ℕ) → i < j → slice_get now.levels i ≡ slice_get q.levels i
  pub next : slice_get now.levels j ≡ Some (next_alternate level)
  pub left : S
  pub state : now.state ≡ k.restore left level.copy
  pub away : now.at_line ≡ false

-- all with a level number j of this conversation were put back to it
abbrev pub AreBackAt : {S C M : Type 0} → Kind S C M → ℕ → ℕ → World S C M → World S C M → Type 0
AreBackAt {S} {C} {M} k c j v later = (r : ℕ) (q : Process S C) → slice_get v.processes r ≡ Some q → (at : IsLevelOf c q.levels j)
    → (now : Process S C) × (slice_get later.processes r ≡ Some now) × IsBackAt k j q at.level now

-- all with a level number j of this conversation have no level now
abbrev pub HaveFallen : {S C M : Type 0} → ℕ → ℕ → World S C M → World S C M → Type 0
HaveFallen {S} {C} {M} c j v later = (r : ℕ) (q : Process S C) → slice_get v.processes r ≡ Some q → IsLevelOf c q.levels j
    → (now : Process S C) × (slice_get later.processes r ≡ Some now) × (now.levels ≡ [])

-- What a cascade comes to. No conversation was put back; or all that are inside one, the outermost of those that were put back,
-- go on to its next alternate; or they fail, and it lies in no other.
pub data Ends {S C M : Type 0} (k : Kind S C M) (p : ℕ) (u : Process S C) (v : World S C M) (last : Option ℕ) (h : Happened S C M) : Type 0 where
  Alone : last ≡ None → ArePrivate h.1 → LeavesOthers p None v h.0 → KeepsTalks {M = M} u p h.0 → Ends k p u v last h
  AllBack : (c j : ℕ) → EndsIn c p h.1 → IsLevelOf c u.levels j → LeavesOthers p (Some c) v h.0 → AreBackAt k c j v h.0 → Ends k p u v last h
  AllFallen : (c j : ℕ) → EndsIn c p h.1 → IsLevelOf c u.levels j → j ≡ 0 → LeavesOthers p (Some c) v h.0 → HaveFallen c j v h.0 → Ends k p u v last h
