-- The invariant behind erasure. It speaks of every consistent cut of a world: there is a plain run of the kept turns in the
-- cut's own states, it is not stuck, and it ends in the world that the cut shows, with the lines of the run so far.
--
-- It is shown under a first invariant, of each process and conversation alone (`IsGrounded`), and in two forms: before a turn, and
-- after a turn has changed the world, before lines are released. There a turn is kept in the plain run too, or it is not.
use Rattle.std.specs.Prelude.{◌≡◌, ◌≤◌, ◌<◌, ◌+◌, ℕ, suc, true, List, [], ◌∷◌, ◌++◌, length, map, slice_get, Some, None}
use Rattle.rb_world.specs.Kind.{Ends}
use Rattle.rb_world.specs.World.{Level, Process, Talk, World, change_at}
use Rattle.rb_world.specs.Reject.{parent_of}
use Rattle.rb_world.specs.Turn.{Moved, Told}
use Rattle.rb_world.specs.Plain.{Ended, plain_moves, plain_run, survivors_of}
use Rattle.rb_world.specs.Standing.{Each, is_failed}
use Rattle.rb_world.specs.Erased.{Rises, numbered, released_in}
use Rattle.rb_world.proofs.Erasing.ErasableKinds.{Nothing, Parts, plain, IsFront}
use Rattle.rb_world.proofs.Erasing.Showing.Cuts.{IsConsistent, Shows}

-- What holds of each process alone, in all phases of a turn: each recovery point's messages are the first of those of the points
-- further in, and of the present; a failed process has no level and holds no line; the outermost recovery point holds no line.
pub record IsGrounded {S E P : Type 0} (x : Parts S E P) (Known : ℕ → Process S S → Type 0) (r : ℕ) (q : Process S S) : Type 0 where
  pub known : Known r q
  pub in_order : (i j : ℕ) (outer inner : Level S) → i ≤ j → slice_get q.levels i ≡ Some outer
      → slice_get q.levels j ≡ Some inner → IsFront x outer.copy inner.copy
  pub before_now : (i : ℕ) (level : Level S) → slice_get q.levels i ≡ Some level → IsFront x level.copy q.state
  pub outermost : (level : Level S) → slice_get q.levels 0 ≡ Some level → x.held level.copy ≡ []
  pub bare : is_failed q.status ≡ true → q.levels ≡ []
  pub lost : is_failed q.status ≡ true → x.held q.state ≡ []

-- a process without a level holds no line, but in a turn before lines are released
abbrev pub IsQuiet : {S E P : Type 0} → Parts S E P → ℕ → Process S S → Type 0
IsQuiet x r q = q.levels ≡ [] → x.held q.state ≡ []

-- a conversation that is broken for good lies in no other
abbrev pub BreaksOutside : {S E P : Type 0} → Parts S E P → List Talk → Type 0
BreaksOutside x talks = Each (λ c talk. talk.is_broken ≡ true → parent_of (slice_get x.groups c) ≡ None) talks

-- where no level of p is left to be put back, it has none, or one that was put back
pub data IsSpentOut {S : Type 0} (q : Process S S) : Type 0 where
  NoLevel : q.levels ≡ [] → IsSpentOut q
  OneSpent : (level : Level S) → q.levels ≡ level ∷ [] → q.state ≡ level.copy → IsSpentOut q

-- the first invariant, before a turn
pub record Grounded {S E P : Type 0} (x : Parts S E P) (Known : ℕ → Process S S → Type 0) (w : World S S Nothing) : Type 0 where
  pub each : Each (IsGrounded x Known) w.processes
  pub quiet : Each (IsQuiet x) w.processes
  pub talks : BreaksOutside x w.talks

-- the same within a turn of p, with so many of its levels left
pub record GroundedWithin {S E P : Type 0} (x : Parts S E P) (Known : ℕ → Process S S → Type 0) (p left : ℕ) (w : World S S Nothing) : Type 0 where
  pub ground : Grounded x Known w
  pub spent : (q : Process S S) → slice_get w.processes p ≡ Some q → left ≡ 0 → IsSpentOut q

-- after the turn has changed the world, a process may hold lines that are still to be released
pub record StillGrounded {S E P : Type 0} (x : Parts S E P) (Known : ℕ → Process S S → Type 0) (w : World S S Nothing) : Type 0 where
  pub each : Each (IsGrounded x Known) w.processes
  pub talks : BreaksOutside x w.talks

-- the kept turns of the processes of a plain world
abbrev pub kept_in : {S E P C : Type 0} → Parts S E P → World S C Nothing → List (List (ℕ × ℕ))
kept_in x v = map (λ q. x.kept q.state) v.processes

-- all kept turns are before turn t
abbrev pub AreBefore : ℕ → List (List (ℕ × ℕ)) → Type 0
AreBefore t turns = Each (λ r list. Each (λ i one. one.0 < t) list) turns

-- no process has taken more from a channel than its sender has sent
abbrev pub AreSent : {S E P C : Type 0} → Parts S E P → World S C Nothing → Type 0
AreSent {S} {E} {P} {C} x v = (c : ℕ) (ends : Ends) (sender receiver : Process S C) → slice_get x.channels c ≡ Some ends
    → slice_get v.processes ends.sender ≡ Some sender → slice_get v.processes ends.receiver ≡ Some receiver
    → x.taken receiver.state c ≤ x.sent sender.state c

-- v is the last world of the plain run of its own kept turns, from the world in which it opens; its lines are those of the run
-- so far, of which this was told, and its turns rise and are before turn t
pub record IsErased {S E P : Type 0} (x : Parts S E P) (start : World S P Nothing) (t : ℕ) (past : List Told) (v : World S P Nothing) : Type 0 where
  pub lines : List (ℕ × Told)
  pub ran : plain_run (plain x) (survivors_of (kept_in x v)) start ≡ Ended v lines
  pub released : released_in lines ≡ released_in (numbered 1 past)
  pub before : AreBefore t (kept_in x v)
  pub rises : Rises (survivors_of (kept_in x v))
  pub sent : AreSent x v

-- a cut is shown by such a world
pub record ShowsCut {S E P : Type 0} (x : Parts S E P) (start : World S P Nothing) (t : ℕ) (past : List Told)
    (w : World S S Nothing) (f : ℕ → ℕ) : Type 0 where
  pub world : World S P Nothing
  pub shows : Shows x f w.processes world.processes
  pub erased : IsErased x start t past world

-- every consistent cut is shown
abbrev pub AllShown : {S E P : Type 0} → Parts S E P → World S P Nothing → ℕ → List Told → World S S Nothing → Type 0
AllShown x start t past w = (f : ℕ → ℕ) → IsConsistent f w.processes → ShowsCut x start t past w f

-- Turn t is kept by the plain run too: from an erased world the plain turn of process p leads to one that shows the cut.
pub record KeepsTurn {S E P : Type 0} (x : Parts S E P) (start : World S P Nothing) (t : ℕ) (past : List Told)
    (w : World S S Nothing) (f : ℕ → ℕ) : Type 0 where
  pub old : World S P Nothing
  pub erased : IsErased x start t past old
  pub process : ℕ
  pub alternate : ℕ
  pub moved : Moved S P Nothing
  pub moves : plain_moves (plain x) (record { turn = t; process = process; alternate = alternate }) old (slice_get old.processes process) ≡ Some moved
  pub shows : Shows x f w.processes moved.world.processes
  pub keeps : kept_in x moved.world ≡ change_at process (λ turns. turns ++ (t, alternate) ∷ []) (kept_in x old)
  pub here : suc process ≤ length old.processes
  pub sent : AreSent x moved.world

-- after turn t, before lines are released, a cut is shown by a world as it was, if nobody has a line to release, or by a kept turn
pub data ShowsAfter {S E P : Type 0} (x : Parts S E P) (start : World S P Nothing) (t : ℕ) (past : List Told)
    (w : World S S Nothing) (f : ℕ → ℕ) : Type 0 where
  StaysShown : Each (IsQuiet x) w.processes → ShowsCut x start t past w f → ShowsAfter x start t past w f
  TurnKept : KeepsTurn x start t past w f → ShowsAfter x start t past w f

abbrev pub AllShownAfter : {S E P : Type 0} → Parts S E P → World S P Nothing → ℕ → List Told → World S S Nothing → Type 0
AllShownAfter x start t past w = (f : ℕ → ℕ) → IsConsistent f w.processes → ShowsAfter x start t past w f

-- the three forms: before turn t, within a turn, and after turn t has changed the world
abbrev pub ErasedBefore : {S E P : Type 0} → Parts S E P → World S P Nothing → ℕ → List Told → World S S Nothing → Type 0
ErasedBefore x start t past w = (t ≡ length past + 1) × AllShown x start t past w

abbrev pub ErasedWithin : {S E P : Type 0} → Parts S E P → World S P Nothing → ℕ → List Told → ℕ → ℕ → World S S Nothing → Type 0
ErasedWithin x start t past p left w = (t ≡ length past + 1) × AllShown x start t past w

abbrev pub ErasedAfter : {S E P : Type 0} → Parts S E P → World S P Nothing → ℕ → List Told → World S S Nothing → Type 0
ErasedAfter x start t past w = (t ≡ length past + 1) × AllShownAfter x start t past w

-- the first invariant in the form that induction asks for
abbrev pub GroundedBefore : {S E P : Type 0} → Parts S E P → (ℕ → Process S S → Type 0) → ℕ → List Told → World S S Nothing → Type 0
GroundedBefore x Known t past w = Grounded x Known w

abbrev pub GroundedDuring : {S E P : Type 0} → Parts S E P → (ℕ → Process S S → Type 0) → ℕ → List Told → ℕ → ℕ → World S S Nothing → Type 0
GroundedDuring x Known t past p left w = GroundedWithin x Known p left w

abbrev pub GroundedAfter : {S E P : Type 0} → Parts S E P → (ℕ → Process S S → Type 0) → ℕ → List Told → World S S Nothing → Type 0
GroundedAfter x Known t past w = StillGrounded x Known w
