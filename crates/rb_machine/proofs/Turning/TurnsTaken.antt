-- Whose turn it is: where it leads in the world, by whether the process runs and whether a level is beyond its bound.
use Rattle.std.proofs.Common.{◌≡◌, ℕ, zero, suc, ◌+◌, Bool, true, false, cond, List, [], ◌∷◌, Option, Some, None, position, slice_get, refl, ap, sym, ◌∙◌, true≢false}
use Rattle.rb_base.specs.declared.event.Cause.TheVariants.{Overrun}
use Rattle.rb_base.specs.declared.event.TurnKind.TheVariants.{Idle, Took}
use Rattle.rb_world.specs.Kind.{Kind}
use Rattle.rb_world.specs.Reject.{reject}
use Rattle.rb_world.specs.Turn.{Moved, acts, bounded, by_status, idles, is_over, move, moves, runs, turn_used, undone, waits}
use Rattle.rb_world.specs.World.{Process, ProcessStatus, Running, Finished, FailedWith}
use Rattle.rb_code.specs.WordMachine.Turn.{Common, Copy, Standing}
use Rattle.rb_code.specs.WordMachine.WordRun.{WordWorld}
use Rattle.rb_proc.specs.Process.{Seen}
use Rattle.rb_machine.specs.Telling.{is_running}
use Rattle.rb_machine.specs.Turns.{runs_there}
use Rattle.rb_recovery.specs.Worlds.{processes_of}

-- who runs has this status
pub status_running : (status : ProcessStatus) → is_running status ≡ true → status ≡ Running
status_running Running e = refl
status_running Finished e = absurd (true≢false (sym e))
status_running (FailedWith cause) e = absurd (true≢false (sym e))

-- and is there
pub running_there : (procs : List Seen) (p : ℕ) → runs_there (slice_get (processes_of procs) p) ≡ true
    → (one : Seen) × (slice_get procs p ≡ Some one) × (one.process.status ≡ Running)
running_there [] p e = absurd (true≢false (sym e))
running_there (one ∷ procs) zero e = (one, refl, status_running one.process.status e)
running_there (one ∷ procs) (suc p) e = running_there procs p e

idle_took : Idle ≡ Took → ⊥
idle_took e = cc

module _ (k : Kind Standing Copy Common) (t p : ℕ) (w : WordWorld) where
  rests_by : (q : Process Standing Copy) (status : ProcessStatus) → is_running status ≡ false → by_status k t p q w status ≡ idles w
  rests_by q Running e = absurd (true≢false e)
  rests_by q Finished e = refl
  rests_by q (FailedWith cause) e = refl

  rests_there : (o : Option (Process Standing Copy)) → runs_there o ≡ false → moves k t p w o ≡ idles w
  rests_there None e = refl
  rests_there (Some q) e = rests_by q q.status e

  -- a process that is not there, or does not run, idles
  pub rests : runs_there (slice_get w.processes p) ≡ false → move k t p w ≡ idles w
  rests e = rests_there (slice_get w.processes p) e

  -- so who took a step, or entered a block, ran
  pub took_ran : (move k t p w).kind ≡ Took → runs_there (slice_get w.processes p) ≡ true
  took_ran took = by (runs_there (slice_get w.processes p)) refl
    where
      by : (b : Bool) → runs_there (slice_get w.processes p) ≡ b → b ≡ true
      by true e = refl
      by false e = absurd (idle_took (ap (λ (moved : Moved Standing Copy Common). moved.kind) (sym (rests e)) ∙ took))

  -- a running one counts its turn
  pub runs_counted : (q : Process Standing Copy) → slice_get w.processes p ≡ Some q → q.status ≡ Running
      → move k t p w ≡ runs k t p (turn_used q) w
  runs_counted q there running = ap (moves k t p w) there ∙ ap (by_status k t p q w) running

  module _ (q : Process Standing Copy) where
    -- the outermost level beyond its bound is rejected
    pub overrun_rejects : (over : Option ℕ) (level : ℕ) → over ≡ position is_over q.levels → over ≡ Some level
        → bounded k t p q w (position is_over q.levels) ≡ undone (reject k p (level + 1) Overrun w)
    overrun_rejects over level e is = ap (bounded k t p q w) (sym e ∙ is)

    -- with none a process at a test line waits, and any other acts
    pub line_waits : (over : Option ℕ) → over ≡ position is_over q.levels → over ≡ None → q.at_line ≡ true
        → bounded k t p q w (position is_over q.levels) ≡ waits w
    line_waits over e none at =
        ap (bounded k t p q w) (sym e ∙ none) ∙ ap (λ (b : Bool). cond b (waits w) (acts k t p q w (k.want q.state))) at

    pub away_acts : (over : Option ℕ) → over ≡ position is_over q.levels → over ≡ None → q.at_line ≡ false
        → bounded k t p q w (position is_over q.levels) ≡ acts k t p q w (k.want q.state)
    away_acts over e none away =
        ap (bounded k t p q w) (sym e ∙ none) ∙ ap (λ (b : Bool). cond b (waits w) (acts k t p q w (k.want q.state))) away
