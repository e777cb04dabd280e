-- What one turn may do to those inside a conversation, all at once, and to those outside of it. That members pass the test line together
-- and go back together is Randell's (1975); that who goes back stands as at the entry is from Horning, Lauer, Melliar-Smith, Randell (1974).
use Rattle.std.specs.Prelude.{◌≡◌, ◌≢◌, ℕ, suc, nat_eq, true, false, List, [], ◌∷◌, length, slice_get, Option, Some, None}
use Rattle.std.specs.List.{list_any}
use Rattle.rb_base.specs.declared.event.Cause.{Cause}
use Rattle.rb_base.specs.declared.event.Event.{Event}
use Rattle.rb_base.specs.declared.event.Event.TheVariants.{Reject, RejectAll, Error, Pass, Done}
use Rattle.rb_base.specs.declared.event.TurnKind.TheVariants.{Undone}
use Rattle.rb_world.specs.Kind.{Kind}
use Rattle.rb_world.specs.World.{Level, Process, World, is_inside, last_of, process_levels}
use Rattle.rb_world.specs.Reject.{next_alternate}
use Rattle.rb_world.specs.Turn.{Told, is_last_of, members_of, stands_there}

-- an event of a turn
abbrev pub IsAmong : Event → List Event → Type 0
IsAmong event events = (i : ℕ) × (slice_get events i ≡ Some event)

-- the outermost conversation that was rejected in a turn, whose rejections are told from the inside out
abbrev pub further_out : Option ℕ → Option ℕ → Option ℕ
further_out inner None = inner
further_out inner (Some c) = Some c

abbrev pub outermost_rejected : List Event → Option ℕ
outermost_rejected [] = None
outermost_rejected (Reject p line a cause ∷ events) = outermost_rejected events
outermost_rejected (RejectAll c a p cause ∷ events) = further_out (Some c) (outermost_rejected events)
outermost_rejected (Error p cause ∷ events) = outermost_rejected events
outermost_rejected (Pass c a ∷ events) = outermost_rejected events
outermost_rejected (Done p ∷ events) = outermost_rejected events

-- a process is not inside the conversation, if there is one
abbrev pub IsOutside : {S C : Type 0} → Option ℕ → Process S C → Type 0
IsOutside None q = Unit {0}
IsOutside (Some c) q = is_inside c q ≡ false

-- A turn of p that is undone changes no other process than those inside the outermost conversation that it rejects; where it rejects
-- none, no other at all.
abbrev pub LeavesOutsiders : {S C M : Type 0} → ℕ → World S C M → World S C M × Told → Type 0
LeavesOutsiders {S} {C} {M} p w turned = turned.1.kind ≡ Undone → (r : ℕ) (q : Process S C) → slice_get w.processes r ≡ Some q → r ≢ p
    → IsOutside (outermost_rejected turned.1.events) q → slice_get turned.0.processes r ≡ Some q

-- nobody is inside conversation c
abbrev pub IsEmpty : {S C M : Type 0} → ℕ → World S C M → Type 0
IsEmpty {S} {C} {M} c w = (r : ℕ) (q : Process S C) → slice_get w.processes r ≡ Some q → is_inside c q ≡ false

-- the same level, but for its turns used
pub record IsSameLevel {C : Type 0} (level later : Level C) : Type 0 where
  pub facts : later.facts ≡ level.facts
  pub alternate : later.alternate ≡ level.alternate
  pub copy : later.copy ≡ level.copy

-- a process's level number i, with the process
pub record HasLevel {S C M : Type 0} (w : World S C M) (r i : ℕ) (q : Process S C) (level : Level C) : Type 0 where
  pub there : slice_get w.processes r ≡ Some q
  pub level_there : slice_get q.levels i ≡ Some level

-- who is inside conversation c keeps its level of it
abbrev pub KeepTheirLevels : {S C M : Type 0} → ℕ → World S C M → World S C M → Type 0
KeepTheirLevels {S} {C} {M} c w later = (r i : ℕ) (q : Process S C) (level : Level C) → HasLevel w r i q level
    → level.facts.conversation ≡ Some c
    → (q' : Process S C) × (level' : Level C) × HasLevel later r i q' level' × IsSameLevel level level'

-- a process is back at its level number i, which goes on to the next alternate: an entry would copy of it what was copied then
pub record IsPutBack {S C M : Type 0} (k : Kind S C M) (level : Level C) (i : ℕ) (q' : Process S C) : Type 0 where
  pub innermost : length q'.levels ≡ suc i
  pub next : slice_get q'.levels i ≡ Some (next_alternate level)
  pub state : k.copy q'.state ≡ level.copy
  pub away : q'.at_line ≡ false

-- so is each that is inside conversation c, at its level of it
abbrev pub ArePutBack : {S C M : Type 0} → Kind S C M → ℕ → World S C M → World S C M → Type 0
ArePutBack {S} {C} {M} k c w later = (r i : ℕ) (q : Process S C) (level : Level C) → HasLevel w r i q level
    → level.facts.conversation ≡ Some c
    → (q' : Process S C) × (slice_get later.processes r ≡ Some q') × IsPutBack k level i q'

-- every other member stands at the line of conversation c, and p, a member, is innermost in it
pub record AllCome {S C M : Type 0} (k : Kind S C M) (c p : ℕ) (w : World S C M) : Type 0 where
  pub others : (m : ℕ) → list_any (nat_eq m) (members_of (slice_get k.groups c)) ≡ true → m ≢ p
      → stands_there c (slice_get w.processes m) ≡ true
  pub member : list_any (nat_eq p) (members_of (slice_get k.groups c)) ≡ true
  pub here : is_last_of c (last_of (process_levels w p)) ≡ true

-- What becomes in a turn of p of the levels of conversation c, for all that are inside at once: they stay; or the test line is
-- passed, once all members came to it, and they go; or they are put back; or they go by a rejection.
pub data GoTogether {S C M : Type 0} (k : Kind S C M) (c p : ℕ) (w later : World S C M) (events : List Event) : Type 0 where
  Stay : KeepTheirLevels c w later → GoTogether k c p w later events
  PassTogether : (alternate : ℕ) → IsAmong (Pass c alternate) events → AllCome k c p w → IsEmpty c later
      → GoTogether k c p w later events
  BackTogether : (alternate : ℕ) (cause : Cause) → IsAmong (RejectAll c alternate p cause) events → ArePutBack k c w later
      → GoTogether k c p w later events
  OutTogether : (outer alternate : ℕ) (cause : Cause) → IsAmong (RejectAll outer alternate p cause) events → IsEmpty c later
      → GoTogether k c p w later events
