-- A turn that is idle or waits, of a process with no level, comes to the world in which it began, whatever its number is.
use Rattle.std.proofs.Common.{◌≡◌, ℕ, ◌+◌, ℤ, Bool, true, false, cond, List, [], ◌∷◌, length, map, position, Option, Some, None, slice_get, refl, ap, sym, ◌∙◌, subst}
use Rattle.std.specs.Prelude.{nat_le}
use Rattle.rb_base.specs.declared.event.Cause.{Cause}
use Rattle.rb_base.specs.declared.event.Cause.TheVariants.{Overrun, Depth, Broken}
use Rattle.rb_base.specs.declared.event.TurnKind.{TurnKind}
use Rattle.rb_world.specs.Channels.{has_room, message_there}
use Rattle.rb_world.specs.Kind.{Facts, Kind, Want, NothingLeft, SendsOn, ReceivesOn, MayReceiveOn, Enters, Starts, Acts, Stepped, Trapped, Went, Held}
use Rattle.rb_world.specs.Reject.{Happened, fallen, reject}
use Rattle.rb_world.specs.Turn.{Moved, accepted, acts, bounded, by_status, enter_either, enters, is_over, join, most_levels, move, moves, one_used, open_at, receives, runs, stepped, steps, trapped, tried_at, turn_used, undone, waits}
use Rattle.rb_world.specs.World.{Level, Process, ProcessStatus, Running, Finished, FailedWith, Talk, World, copy_of, last_of, process_levels, talk_at, with_process}
use Rattle.rb_machine.specs.Resting.{IsBare, is_still}
use Rattle.rb_recovery.proofs.Changed.{same_there}

untrue : false ≡ true → ⊥
untrue e = cc

-- what a turn comes to that changes nothing
abbrev pub at_rest : {S C M : Type 0} → World S C M → TurnKind → Moved S C M
at_rest w kind = record { world = w; kind = kind; rejections = []; passes = [] }

module _ {S C M : Type 0} (k : Kind S C M) (n m p : ℕ) where
  -- if a turn with the one number is still, that with the other is the same, and neither changes the world
  abbrev pub Rests : World S C M → Moved S C M → Moved S C M → Type 0
  Rests w one other = is_still one.kind ≡ true → (one ≡ at_rest w one.kind) × (other ≡ at_rest w one.kind)

  either : (b : Bool) (w : World S C M) (one other one' other' : Moved S C M) → Rests w one one' → Rests w other other'
      → Rests w (cond b one other) (cond b one' other')
  either true w one other one' other' h i = h
  either false w one other one' other' h i = i

  waits_so : (w : World S C M) → Rests w (waits w) (waits w)
  waits_so w still = (refl, refl)

  undone_so : (w : World S C M) (happened : Happened S C M) → Rests w (undone happened) (undone happened)
  undone_so w (after, events) still = absurd (untrue still)

  trapped_so : (cause : Cause) (w : World S C M) → Rests w (trapped k p cause w) (trapped k p cause w)
  trapped_so cause w = undone_so w (reject k p (length (process_levels w p)) cause w)

  open_so : (facts : Facts) (alternate : ℕ) (q : Process S C) (w : World S C M)
      → Rests w (open_at k n p facts alternate q w) (open_at k m p facts alternate q w)
  open_so facts alternate q w still = absurd (untrue still)

  join_so : (facts : Facts) (q : Process S C) (w : World S C M) (talk : Option Talk)
      → Rests w (join k n p facts q w talk) (join k m p facts q w talk)
  join_so facts q w None = waits_so w
  join_so facts q w (Some talk) =
      either talk.is_broken w (undone (with_process p (fallen k Broken) w, [])) (open_at k n p facts talk.alternate q w)
      (undone (with_process p (fallen k Broken) w, [])) (open_at k m p facts talk.alternate q w)
      (undone_so w (with_process p (fallen k Broken) w, [])) (open_so facts talk.alternate q w)

  entered_so : (facts : Facts) (conversation : Option ℕ) (q : Process S C) (w : World S C M)
      → Rests w (enter_either k n p facts conversation q w) (enter_either k m p facts conversation q w)
  entered_so facts None q w = open_so facts 1 q w
  entered_so facts (Some c) q w = join_so facts q w (talk_at w c)

  enters_so : (facts : Facts) (q : Process S C) (w : World S C M) → Rests w (enters k n p facts q w) (enters k m p facts q w)
  enters_so facts q w =
      either (nat_le most_levels (length q.levels)) w (trapped k p Depth w) (enter_either k n p facts facts.conversation q w)
      (trapped k p Depth w) (enter_either k m p facts facts.conversation q w)
      (trapped_so Depth w) (entered_so facts facts.conversation q w)

  -- without a level a test that held waits
  held_so : (levels : List (Level C)) (w : World S C M) (one other : S × M) → levels ≡ []
      → Rests w (accepted k p levels (last_of levels) w one) (accepted k p levels (last_of levels) w other)
  held_so [] w one other bare = waits_so w
  held_so (level ∷ levels) w one other bare = absurd (cc)

  stepped_so : (alternate : ℕ) (levels : List (Level C)) (w : World S C M) (came : Stepped S M) → levels ≡ []
      → Rests w (stepped k n p alternate levels w came) (stepped k m p alternate levels w came)
  stepped_so alternate levels w (Trapped cause) bare = trapped_so cause w
  stepped_so alternate levels w (Went s after) bare = λ still. absurd (untrue still)
  stepped_so alternate levels w (Held s) bare = held_so levels w (k.keep n alternate s w.memory) (k.keep m alternate s w.memory) bare

  steps_so : (alternate : ℕ) (message : Option ℤ) (q : Process S C) (w : World S C M) → q.levels ≡ []
      → Rests w (steps k n p alternate message q w) (steps k m p alternate message q w)
  steps_so alternate message q w bare =
      stepped_so alternate q.levels w (k.step alternate (copy_of (last_of q.levels)) q.state message w.memory) bare

  receives_so : (message : Option ℤ) (q : Process S C) (w : World S C M) → q.levels ≡ []
      → Rests w (receives k n p q w message) (receives k m p q w message)
  receives_so None q w bare = waits_so w
  receives_so (Some v) q w bare = steps_so 0 (Some v) q w bare

  acts_so : (want : Want) (q : Process S C) (w : World S C M) → q.levels ≡ [] → Rests w (acts k n p q w want) (acts k m p q w want)
  acts_so NothingLeft q w bare = λ still. (refl, refl)
  acts_so (SendsOn c) q w bare =
      either (has_room k w c) w (steps k n p 0 None q w) (waits w) (steps k m p 0 None q w) (waits w) (steps_so 0 None q w bare) (waits_so w)
  acts_so (ReceivesOn c) q w bare = receives_so (message_there k w c) q w bare
  acts_so (MayReceiveOn c) q w bare = steps_so 0 (message_there k w c) q w bare
  acts_so (Enters facts) q w bare = enters_so facts q w
  acts_so Starts q w bare = steps_so (tried_at (last_of q.levels)) None q w bare
  acts_so Acts q w bare = steps_so 0 None q w bare

  bounded_so : (over : Option ℕ) (q : Process S C) (w : World S C M) → q.levels ≡ [] → Rests w (bounded k n p q w over) (bounded k m p q w over)
  bounded_so (Some j) q w bare = undone_so w (reject k p (j + 1) Overrun w)
  bounded_so None q w bare =
      either q.at_line w (waits w) (acts k n p q w (k.want q.state)) (waits w) (acts k m p q w (k.want q.state))
      (waits_so w) (acts_so (k.want q.state) q w bare)

  -- a turn that no level counts leaves its process as it is
  uncounted : (q : Process S C) → q.levels ≡ [] → turn_used q ≡ q
  uncounted q bare =
      ap (λ (levels : List (Level C)). record { state = q.state; levels = levels; at_line = q.at_line; status = q.status })
      (ap (map one_used) bare ∙ sym bare)

  runs_so : (q : Process S C) (w : World S C M) → q.levels ≡ [] → slice_get w.processes p ≡ Some q
      → Rests w (runs k n p (turn_used q) w) (runs k m p (turn_used q) w)
  runs_so q w bare here =
      let used : Process S C = turn_used q in
      let counted : World S C M = with_process p (λ _. used) w in
      let same : counted ≡ w =
      ap (λ (r : Process S C). with_process p (λ _. r) w) (uncounted q bare)
      ∙ ap (λ (all : List (Process S C)). record w { processes = all }) (same_there p q w.processes here) in
      subst (λ (v : World S C M). Rests v (runs k n p used w) (runs k m p used w)) same
      (bounded_so (position is_over used.levels) used counted (ap (map one_used) bare))

  by_status_so : (status : ProcessStatus) (q : Process S C) (w : World S C M) → q.levels ≡ [] → slice_get w.processes p ≡ Some q
      → Rests w (by_status k n p q w status) (by_status k m p q w status)
  by_status_so Running q w bare here = runs_so q w bare here
  by_status_so Finished q w bare here = λ still. (refl, refl)
  by_status_so (FailedWith cause) q w bare here = λ still. (refl, refl)

  moves_so : (there : Option (Process S C)) (w : World S C M) → IsBare there → slice_get w.processes p ≡ there
      → Rests w (moves k n p w there) (moves k m p w there)
  moves_so None w bare here = λ still. (refl, refl)
  moves_so (Some q) w bare here = by_status_so q.status q w bare here

-- so a turn with any other number comes to the same
pub moves_still : {S C M : Type 0} (k : Kind S C M) (n m p : ℕ) (w : World S C M) → IsBare (slice_get w.processes p)
    → is_still (move k n p w).kind ≡ true
    → (move k n p w ≡ at_rest w (move k n p w).kind) × (move k m p w ≡ at_rest w (move k n p w).kind)
moves_still k n m p w bare still = moves_so k n m p (slice_get w.processes p) w bare refl still
