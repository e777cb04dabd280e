-- In every world of a run of sound code who has no level holds no line.
use Rattle.std.specs.Prelude.{slice_set}
use Rattle.std.proofs.Common.{◌≡◌, ℕ, ℤ, pos, List, [], ◌∷◌, refl, ap, subst}
use Rattle.std.proofs.lemmas.Simd.{map-map}
use Rattle.rb_world.specs.Kind.{Membership}
use Rattle.rb_world.specs.World.{Level, Process}
use Rattle.rb_code.specs.Instructions.Plain.{Code}
use Rattle.rb_code.specs.SoundCode.WellFormed.{IsSound}
use Rattle.rb_code.specs.WordMachine.Turn.{Copy, Standing}
use Rattle.rb_code.specs.WordMachine.WordKind.{released, word_kind}
use Rattle.rb_code.specs.WordMachine.WordRun.{opening_of, opening_standings, word_run}
use Rattle.rb_machine.specs.Telling.{AreFreed, HoldsNone as HoldsNoLine}
use Rattle.rb_proc.specs.Process.{Seen}
use Rattle.rb_machine.specs.Loading.{first_seen}
use Rattle.rb_machine.proofs.Knowing.FirstHeld.{opening_freed}
use Rattle.rb_stuck.proofs.Freed.{ReleasesAll, run_frees}
use Rattle.rb_stuck.proofs.Still.Turns.{AllFreed, HoldsNone}

-- a word that is 0 is set to 0 again
set_again : (words : List ℤ) → slice_set (slice_set words 0 (pos 0)) 0 (pos 0) ≡ slice_set words 0 (pos 0)
set_again [] = refl
set_again (x ∷ xs) = refl

module _ (c : Code) (groups : List Membership) where
  words_release : ReleasesAll (word_kind c groups)
  words_release = record { none = λ s. refl; once = λ s. ap (λ (words : List ℤ). record (released s) { words = words }) (set_again s.words) }

  holds_none : (levels : List (Level Copy)) (q : Process Standing Copy) → q.levels ≡ levels → HoldsNoLine q.levels q.state → HoldsNone (word_kind c groups) q
  holds_none levels q e free = by q.levels free
    where
      by : (ls : List (Level Copy)) → HoldsNoLine ls q.state → HoldsNone (word_kind c groups) (record q { levels = ls })
      by [] (same, none) = (none, same)
      by (l ∷ ls) none = (refl, refl)

  pub all_hold_none : (qs : List (Process Standing Copy)) → AreFreed qs → AllFreed (word_kind c groups) qs
  all_hold_none [] free = tt
  all_hold_none (q ∷ qs) free = (holds_none q.levels q refl free.0, all_hold_none qs free.1)

  pub word_runs_freed : (counts : List ℕ) → IsSound c groups counts → (turns : List ℕ) → AllFreed (word_kind c groups) (word_run c groups turns).0.processes
  word_runs_freed counts sound turns =
      run_frees (word_kind c groups) words_release 1 turns (opening_of c groups)
      (all_hold_none (opening_of c groups).processes
      (subst AreFreed (map-map (λ (one : Seen). one.process) (first_seen c) (opening_standings 0 c.processes))
      (opening_freed c groups sound.table sound.has sound.well.lists)))
