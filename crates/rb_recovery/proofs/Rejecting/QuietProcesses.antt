-- Processes whose levels go back: no line waits as before, and the alternate of every level that is left can rise.
use Rattle.std.proofs.Common.{◌+◌, ◌-◌, ◌^◌, ◌<◌, ℕ, zero, suc, List, [], ◌∷◌, length, map, position, slice_get, take, Option, Some, None, ◌∙◌, not-suc-le-zero, le_of_suc-le-suc, arith}
use Rattle.std.specs.List.{AllByRecursion}
use Rattle.std.proofs.lemmas.Option.{slice_get_within}
use Rattle.rb_world.specs.Kind.{Kind}
use Rattle.rb_world.specs.Reject.{at_place, back_to, put_back, where_inside}
use Rattle.rb_world.specs.World.{Level, Process, change_at, is_of}
use Rattle.rb_world.proofs.ListFacts.{slice_get-there}
use Rattle.rb_world.proofs.Members.CascadeSteps.{put_back_outer}
use Rattle.rb_code.specs.WordMachine.Turn.{Common, Copy, Standing}
use Rattle.rb_recoverable.specs.Contents.{IsBelowLast}
use Rattle.rb_proc.specs.Process.{Seen}
use Rattle.rb_recovery.specs.Cascade.{AreQuiet}
use Rattle.rb_recovery.specs.Rejections.{changed}
use Rattle.rb_recovery.specs.Worlds.{CanRise, NoneWaits}

-- the alternate of every level of a process can rise
abbrev pub Rises : Process Standing Copy → Type 0
Rises q = AllByRecursion (λ (level : Level Copy). level.alternate < 2 ^ 32 - 1) q.levels

-- the first of them
pub all_taken : {A : Type 0} (P : A → Type 0) (n : ℕ) (xs : List A) → AllByRecursion P xs → AllByRecursion P (take n xs)
all_taken P zero xs all = tt
all_taken P (suc n) [] all = tt
all_taken P (suc n) (x ∷ xs) all = (all.0, all_taken P n xs all.1)

-- so it is of a level that is there
pub below_last : (levels : List (Level Copy)) (j : ℕ)
    → AllByRecursion (λ (level : Level Copy). level.alternate < 2 ^ 32 - 1) levels → j < length levels
    → IsBelowLast (slice_get levels j)
below_last [] j rise within = absurd (not-suc-le-zero within)
below_last (level ∷ levels) zero rise within = rise.0
below_last (level ∷ levels) (suc j) rise within = below_last levels j rise.1 (le_of_suc-le-suc within)

module _ (k : Kind Standing Copy Common) where
  rises_back : (j : ℕ) (q : Process Standing Copy) (level : Option (Level Copy)) → Rises q → Rises (back_to k j q level)
  rises_back j q None rises = rises
  rises_back j q (Some level) rises = all_taken (λ (one : Level Copy). one.alternate < 2 ^ 32 - 1) (j + 1) q.levels rises

  -- a process that is put back
  pub rises_put_back : (j : ℕ) (q : Process Standing Copy) → Rises q → Rises (put_back k j q)
  rises_put_back j q rises = rises_back j q (slice_get q.levels j) rises

  rises_at_place : (place : Option ℕ) (q : Process Standing Copy) → Rises q → Rises (at_place (put_back k) place q)
  rises_at_place None q rises = rises
  rises_at_place (Some j) q rises = rises_put_back j q rises

  -- or goes back if it is inside a conversation
  pub rises_inside : (c : ℕ) (q : Process Standing Copy) → Rises q → Rises (where_inside (put_back k) c q)
  rises_inside c q rises = rises_at_place (position (is_of c) q.levels) q rises

  -- the level that was put back is still there
  pub back_within : (j : ℕ) (q : Process Standing Copy) → j < length q.levels → j < length (put_back k j q).levels
  back_within j q within =
      let found = slice_get-there q.levels j within in
      slice_get_within (put_back k j q).levels j found.0 (put_back_outer k j q j (omega arith) ∙ found.1)

-- as many lines wait, whatever happens to the processes
pub waits_each : (f : Process Standing Copy → Process Standing Copy) (procs : List Seen) → NoneWaits procs → NoneWaits (map (changed f) procs)
waits_each f [] waits = tt
waits_each f (one ∷ procs) waits = (waits.0, waits_each f procs waits.1)

pub waits_at : (p : ℕ) (f : Process Standing Copy → Process Standing Copy) (procs : List Seen) → NoneWaits procs
    → NoneWaits (change_at p (changed f) procs)
waits_at p f [] waits = tt
waits_at zero f (one ∷ procs) waits = waits
waits_at (suc p) f (one ∷ procs) waits = (waits.0, waits_at p f procs waits.1)

-- a change of each process that leaves alternates that can rise
rise_each : (f : Process Standing Copy → Process Standing Copy) → ((q : Process Standing Copy) → Rises q → Rises (f q)) → (procs : List Seen)
    → AllByRecursion CanRise procs → AllByRecursion CanRise (map (changed f) procs)
rise_each f still [] rise = tt
rise_each f still (one ∷ procs) rise = (still one.process rise.0, rise_each f still procs rise.1)

pub quiet_each : (f : Process Standing Copy → Process Standing Copy) → ((q : Process Standing Copy) → Rises q → Rises (f q)) → (procs : List Seen)
    → AreQuiet procs → AreQuiet (map (changed f) procs)
quiet_each f still procs quiet = record { lines = waits_each f procs quiet.lines; rise = rise_each f still procs quiet.rise }

-- and of one process
rise_at : (p : ℕ) (f : Process Standing Copy → Process Standing Copy) → ((q : Process Standing Copy) → Rises q → Rises (f q)) → (procs : List Seen)
    → AllByRecursion CanRise procs → AllByRecursion CanRise (change_at p (changed f) procs)
rise_at p f still [] rise = tt
rise_at zero f still (one ∷ procs) rise = (still one.process rise.0, rise.1)
rise_at (suc p) f still (one ∷ procs) rise = (rise.0, rise_at p f still procs rise.1)

pub quiet_at : (p : ℕ) (f : Process Standing Copy → Process Standing Copy)
    → ((q : Process Standing Copy) → Rises q → Rises (f q)) → (procs : List Seen)
    → AreQuiet procs → AreQuiet (change_at p (changed f) procs)
quiet_at p f still procs quiet = record { lines = waits_at p f procs quiet.lines; rise = rise_at p f still procs quiet.rise }
