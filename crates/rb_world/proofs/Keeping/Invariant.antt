-- The laws of an invariant of worlds: one for each way in which a turn changes a world. There are three predicates. `before`
-- holds before turn t, of a world and of all that was told. `during` holds in a turn of process p, once its turn is counted
-- at each of its levels, and between the steps of a cascade of rejections: of the levels of p that many are left, and those
-- further in were put back and are spent. `after` holds once the turn has changed the world, before lines are released.
-- Invariants that need no such difference give one predicate for all three.
use Rattle.std.specs.Prelude.{◌≡◌, ℕ, ℤ, ◌+◌, ◌<◌, ◌≤◌, suc, true, false, List, [], ◌∷◌, ◌++◌, length, position, slice_get, Option, Some, None}
use Rattle.rb_base.specs.declared.event.Cause.{Cause}
use Rattle.rb_world.specs.Kind.{Facts, Kind, Went, Held}
use Rattle.rb_world.specs.World.{Level, Process, World, last_of, with_process, with_each, copy_of}
use Rattle.rb_world.specs.Reject.{fallen, parent_of, put_back, raised}
use Rattle.rb_world.specs.Turn.{Told, all_leave, all_stand, freed, freed_lines, is_over, moved_to, opened, turn_used}
use Rattle.rb_world.proofs.TurnFacts.{RunsAt, StepsAt, EntersAt, MustFall, RejectsAt, left_alone, come_to_stand, all_next, all_spent, all_broken}

-- turn, all that was told in the turns before, world
abbrev pub Between : Type 0 → Type 0 → Type 0 → Type 1
Between S C M = ℕ → List Told → World S C M → Type 0

-- turn, all that was told before, process, number of its levels that are left, world
abbrev pub Within : Type 0 → Type 0 → Type 0 → Type 1
Within S C M = ℕ → List Told → ℕ → ℕ → World S C M → Type 0

-- who does not run changes nothing
abbrev pub Rests : {S C M : Type 0} → Between S C M → Between S C M → Type 0
Rests {S} {C} {M} before after = (t : ℕ) (past : List Told) (w : World S C M) → before t past w → after t past w

-- a turn is used at each level
abbrev pub Uses : {S C M : Type 0} → Between S C M → Within S C M → Type 0
Uses {S} {C} {M} before during =
    (t : ℕ) (past : List Told) (p : ℕ) (q : Process S C) (w : World S C M) → before t past w → RunsAt p q w
    → during t past p (length q.levels) (with_process p (λ _. turn_used q) w)

-- level j is beyond its bound, and those further in count no more
abbrev pub Overruns : {S C M : Type 0} → Within S C M → Within S C M → Type 0
Overruns {S} {C} {M} during fewer =
    (t : ℕ) (past : List Told) (p : ℕ) (q : Process S C) (w : World S C M) (j : ℕ) → during t past p (length q.levels) w
    → RunsAt p q w → position is_over q.levels ≡ Some j → fewer t past p (suc j) w

-- it waits: at a line, for room, for a message, or because nothing is left
abbrev pub Waits : {S C M : Type 0} → Within S C M → Between S C M → Type 0
Waits {S} {C} {M} during after =
    (t : ℕ) (past : List Told) (p : ℕ) (q : Process S C) (w : World S C M) → during t past p (length q.levels) w
    → RunsAt p q w → position is_over q.levels ≡ None → after t past w

-- a step went on
abbrev pub Goes : {S C M : Type 0} → Kind S C M → Within S C M → Between S C M → Type 0
Goes {S} {C} {M} k during after =
    (t : ℕ) (past : List Told) (p : ℕ) (q : Process S C) (w : World S C M) (alternate : ℕ) (message : Option ℤ) (s : S) (m : M)
    → during t past p (length q.levels) w → StepsAt k p q w alternate message
    → k.step alternate (copy_of (last_of q.levels)) q.state message w.memory ≡ Went s m
    → after t past (moved_to k p q.levels w (k.keep t alternate s m))

-- a block is entered
abbrev pub Opens : {S C M : Type 0} → Kind S C M → Within S C M → Between S C M → Type 0
Opens {S} {C} {M} k during after =
    (t : ℕ) (past : List Told) (p : ℕ) (q : Process S C) (w : World S C M) (facts : Facts) (alternate : ℕ)
    → during t past p (length q.levels) w → EntersAt k p q w facts alternate
    → after t past (opened k p facts alternate q w (k.keep t 0 (k.enter q.state) w.memory))

-- the acceptance test of a private level held, and the level goes
abbrev pub Accepts : {S C M : Type 0} → Kind S C M → Within S C M → Between S C M → Type 0
Accepts {S} {C} {M} k during after =
    (t : ℕ) (past : List Told) (p : ℕ) (q : Process S C) (w : World S C M) (alternate : ℕ) (message : Option ℤ) (s : S) (level : Level C)
    → during t past p (length q.levels) w → StepsAt k p q w alternate message
    → k.step alternate (copy_of (last_of q.levels)) q.state message w.memory ≡ Held s
    → last_of q.levels ≡ Some level → level.facts.conversation ≡ None
    → after t past (left_alone k p q.levels w (k.keep t alternate s w.memory))

-- a member's test held and it comes to stand at the line; another is not there yet
abbrev pub Stands : {S C M : Type 0} → Kind S C M → Within S C M → Between S C M → Type 0
Stands {S} {C} {M} k during after =
    (t : ℕ) (past : List Told) (p : ℕ) (q : Process S C) (w : World S C M) (alternate : ℕ) (message : Option ℤ) (s : S) (level : Level C) (c : ℕ)
    → during t past p (length q.levels) w → StepsAt k p q w alternate message
    → k.step alternate (copy_of (last_of q.levels)) q.state message w.memory ≡ Held s
    → last_of q.levels ≡ Some level → level.facts.conversation ≡ Some c
    → all_stand k c (come_to_stand p q.levels w (k.keep t alternate s w.memory)) ≡ false
    → after t past (come_to_stand p q.levels w (k.keep t alternate s w.memory))

-- the last member's test held, and all leave together
abbrev pub Leaves : {S C M : Type 0} → Kind S C M → Within S C M → Between S C M → Type 0
Leaves {S} {C} {M} k during after =
    (t : ℕ) (past : List Told) (p : ℕ) (q : Process S C) (w : World S C M) (alternate : ℕ) (message : Option ℤ) (s : S) (level : Level C) (c : ℕ)
    → during t past p (length q.levels) w → StepsAt k p q w alternate message
    → k.step alternate (copy_of (last_of q.levels)) q.state message w.memory ≡ Held s
    → last_of q.levels ≡ Some level → level.facts.conversation ≡ Some c
    → all_stand k c (come_to_stand p q.levels w (k.keep t alternate s w.memory)) ≡ true
    → after t past (all_leave k c (come_to_stand p q.levels w (k.keep t alternate s w.memory)))

-- a process fails
abbrev pub Falls : {S C M : Type 0} → Kind S C M → Within S C M → Between S C M → Type 0
Falls {S} {C} {M} k during after =
    (t : ℕ) (past : List Told) (p : ℕ) (q : Process S C) (w : World S C M) (left : ℕ) (cause : Cause)
    → during t past p left w → RunsAt p q w → MustFall k q w left cause → after t past (with_process p (fallen k cause) w)

-- a private level is put back, and has a next alternate
abbrev pub TriesNext : {S C M : Type 0} → Kind S C M → Within S C M → Between S C M → Type 0
TriesNext {S} {C} {M} k during after =
    (t : ℕ) (past : List Told) (p : ℕ) (q : Process S C) (w : World S C M) (j : ℕ) (level : Level C)
    → during t past p (suc j) w → RejectsAt p q w j level → level.facts.conversation ≡ None
    → level.alternate < level.facts.alternates
    → after t past (with_process p (raised j) (with_process p (put_back k j) w))

-- a private level is put back, and has none
abbrev pub IsSpent : {S C M : Type 0} → Kind S C M → Within S C M → Within S C M → Type 0
IsSpent {S} {C} {M} k during fewer =
    (t : ℕ) (past : List Told) (p : ℕ) (q : Process S C) (w : World S C M) (j : ℕ) (level : Level C)
    → during t past p (suc j) w → RejectsAt p q w j level → level.facts.conversation ≡ None
    → level.facts.alternates ≤ level.alternate
    → fewer t past p j (with_process p (put_back k j) w)

-- a conversation is put back, and has a next alternate
abbrev pub AllTryNext : {S C M : Type 0} → Kind S C M → Within S C M → Between S C M → Type 0
AllTryNext {S} {C} {M} k during after =
    (t : ℕ) (past : List Told) (p : ℕ) (q : Process S C) (w : World S C M) (j : ℕ) (level : Level C) (c : ℕ)
    → during t past p (suc j) w → RejectsAt p q w j level → level.facts.conversation ≡ Some c
    → level.alternate < level.facts.alternates
    → after t past (all_next k c w)

-- a conversation is put back, has none, and lies in another
abbrev pub AllSpent : {S C M : Type 0} → Kind S C M → Within S C M → Within S C M → Type 0
AllSpent {S} {C} {M} k during fewer =
    (t : ℕ) (past : List Told) (p : ℕ) (q : Process S C) (w : World S C M) (j : ℕ) (level : Level C) (c parent : ℕ)
    → during t past p (suc j) w → RejectsAt p q w j level → level.facts.conversation ≡ Some c
    → level.facts.alternates ≤ level.alternate → parent_of (slice_get k.groups c) ≡ Some parent
    → fewer t past p j (all_spent k c w)

-- a conversation is put back, has none, and lies in no other: all inside fail
abbrev pub Breaks : {S C M : Type 0} → Kind S C M → Within S C M → Between S C M → Type 0
Breaks {S} {C} {M} k during after =
    (t : ℕ) (past : List Told) (p : ℕ) (q : Process S C) (w : World S C M) (j : ℕ) (level : Level C) (c : ℕ)
    → during t past p (suc j) w → RejectsAt p q w j level → level.facts.conversation ≡ Some c
    → level.facts.alternates ≤ level.alternate → parent_of (slice_get k.groups c) ≡ None
    → after t past (all_broken k c w)

-- A level that is to be rejected is not there. That is so only where a process had two levels of one conversation, and a
-- `during` that says it has not refutes this.
abbrev pub IsGone : {S C M : Type 0} → Within S C M → Between S C M → Type 0
IsGone {S} {C} {M} during after =
    (t : ℕ) (past : List Told) (p : ℕ) (q : Process S C) (w : World S C M) (j : ℕ)
    → during t past p (suc j) w → RunsAt p q w → slice_get q.levels j ≡ None → after t past w

-- held lines are released, and the turn is told
abbrev pub Releases : {S C M : Type 0} → Kind S C M → Between S C M → Between S C M → Type 0
Releases {S} {C} {M} k after before =
    (t : ℕ) (past : List Told) (w : World S C M) (one : Told) → after t past w → one.released ≡ freed_lines k w
    → before (t + 1) (past ++ one ∷ []) (with_each (freed k) w)

-- Where the first three predicates hold before a change, the last three hold after it.
pub record Carries {S C M : Type 0} (k : Kind S C M) (before : Between S C M) (during : Within S C M)
    (after : Between S C M) (before' : Between S C M) (during' : Within S C M) (after' : Between S C M) : Type 0 where
  pub rests : Rests before after'
  pub uses : Uses before during'
  pub overruns : Overruns during during'
  pub waits : Waits during after'
  pub goes : Goes k during after'
  pub opens : Opens k during after'
  pub accepts : Accepts k during after'
  pub stands : Stands k during after'
  pub leaves : Leaves k during after'
  pub falls : Falls k during after'
  pub tries_next : TriesNext k during after'
  pub is_spent : IsSpent k during during'
  pub all_try_next : AllTryNext k during after'
  pub all_are_spent : AllSpent k during during'
  pub breaks : Breaks k during after'
  pub is_gone : IsGone during after'
  pub releases : Releases k after before'

-- an invariant carries itself
abbrev pub IsInvariant : {S C M : Type 0} → Kind S C M → Between S C M → Within S C M → Between S C M → Type 0
IsInvariant k before during after = Carries k before during after before during after

-- Two at once. An invariant may be shown under another that was shown before.
abbrev pub BothBetween : {S C M : Type 0} → Between S C M → Between S C M → Between S C M
BothBetween one other t past w = one t past w × other t past w

abbrev pub BothWithin : {S C M : Type 0} → Within S C M → Within S C M → Within S C M
BothWithin one other t past p left w = one t past p left w × other t past p left w

abbrev pub IsInvariantUnder : {S C M : Type 0} → Kind S C M → Between S C M → Within S C M → Between S C M → Between S C M
    → Within S C M → Between S C M → Type 0
IsInvariantUnder k before during after before' during' after' =
    Carries k (BothBetween before before') (BothWithin during during') (BothBetween after after') before' during' after'

pub both_kept : {S C M : Type 0} {k : Kind S C M} {before : Between S C M} {during : Within S C M} {after : Between S C M} {before' : Between S C M} {during' : Within S C M} {after' : Between S C M}
    → IsInvariant k before during after → IsInvariantUnder k before during after before' during' after'
    → IsInvariant k (BothBetween before before') (BothWithin during during') (BothBetween after after')
both_kept one other = record {
  rests = λ t past w h. (one.rests t past w h.0, other.rests t past w h);
  uses = λ t past p q w h r. (one.uses t past p q w h.0 r, other.uses t past p q w h r);
  overruns = λ t past p q w j h r e. (one.overruns t past p q w j h.0 r e, other.overruns t past p q w j h r e);
  waits = λ t past p q w h r e. (one.waits t past p q w h.0 r e, other.waits t past p q w h r e);
  goes = λ t past p q w a v s m h at e. (one.goes t past p q w a v s m h.0 at e, other.goes t past p q w a v s m h at e);
  opens = λ t past p q w f a h at. (one.opens t past p q w f a h.0 at, other.opens t past p q w f a h at);
  accepts = λ t past p q w a v s l h at e x y. (one.accepts t past p q w a v s l h.0 at e x y, other.accepts t past p q w a v s l h at e x y);
  stands = λ t past p q w a v s l c h at e x y z.
      (one.stands t past p q w a v s l c h.0 at e x y z, other.stands t past p q w a v s l c h at e x y z);
  leaves = λ t past p q w a v s l c h at e x y z.
      (one.leaves t past p q w a v s l c h.0 at e x y z, other.leaves t past p q w a v s l c h at e x y z);
  falls = λ t past p q w n c h r why. (one.falls t past p q w n c h.0 r why, other.falls t past p q w n c h r why);
  tries_next = λ t past p q w j l h r x y. (one.tries_next t past p q w j l h.0 r x y, other.tries_next t past p q w j l h r x y);
  is_spent = λ t past p q w j l h r x y. (one.is_spent t past p q w j l h.0 r x y, other.is_spent t past p q w j l h r x y);
  all_try_next = λ t past p q w j l c h r x y. (one.all_try_next t past p q w j l c h.0 r x y, other.all_try_next t past p q w j l c h r x y);
  all_are_spent =
      λ t past p q w j l c d h r x y z.
      (one.all_are_spent t past p q w j l c d h.0 r x y z, other.all_are_spent t past p q w j l c d h r x y z);
  breaks = λ t past p q w j l c h r x y z. (one.breaks t past p q w j l c h.0 r x y z, other.breaks t past p q w j l c h r x y z);
  is_gone = λ t past p q w j h r e. (one.is_gone t past p q w j h.0 r e, other.is_gone t past p q w j h r e);
  releases = λ t past w o h e. (one.releases t past w o h.0 e, other.releases t past w o h e);
}
