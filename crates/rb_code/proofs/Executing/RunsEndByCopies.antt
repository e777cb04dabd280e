-- Who stands in the table of sound code stands upright, in the words of whole runs.
use Rattle.std.proofs.Common.{◌≡◌, ◌⊎◌, ℕ, ℤ, suc, ◌+◌, Bool, true, false, List, [], take, slice_get, Option, Some, None, refl, sym, subst, arith}
use Rattle.rb_world.specs.Kind.{Membership, Want, NothingLeft, SendsOn, ReceivesOn, MayReceiveOn, Enters, Starts, Acts, Went, Held}
use Rattle.rb_world.specs.Slots.{Slots}
use Rattle.rb_world.specs.World.{last_of, without_last}
use Rattle.rb_code.specs.Instructions.Plain.{Code}
use Rattle.rb_code.specs.WordMachine.Act.{Accepts, Going, Outcome, Stopped, Trapped, Unfinished, execute}
use Rattle.rb_code.specs.WordMachine.Turn.{Common, Copy, Standing, memory_of, most_steps, sight, step, want}
use Rattle.rb_code.specs.SoundCode.Sound.{HasTable, Table}
use Rattle.rb_code.specs.SoundCode.Safe.{IsThere}
use Rattle.rb_code.specs.SoundCode.Stands.{ServedBut}
use Rattle.rb_code.specs.SoundCode.WellFormed.{ListsChannels}
use Rattle.rb_code.specs.WordMachine.WordKind.{restored}
use Rattle.rb_code.proofs.Agreeing.Leads.{IsFinished}
use Rattle.rb_code.proofs.Executing.EndsByCopies.{Upright, upright_back, upright_finishes, upright_held, upright_settling_finishes, upright_went}
use Rattle.rb_code.proofs.WholeRuns.Agreeing.{MayStep, accepted_touched, cut_touched}

finished : (o : Outcome) → (o ≡ Unfinished → ⊥) → IsFinished o
finished (Going a operands m) h = tt
finished (Stopped a m) h = tt
finished (Accepts a m) h = tt
finished (Trapped cause) h = tt
finished Unfinished h = h refl

-- what may step is served
served : (w : Want) (message : Option ℤ) → MayStep w message → ServedBut w message
served NothingLeft message h = h
served (SendsOn channel) message h = tt
served (ReceivesOn channel) message h = subst IsThere (sym h.1) tt
served (MayReceiveOn channel) message h = tt
served (Enters facts) message h = h
served Starts message h = tt
served Acts message h = tt

module _ (c : Code) (groups : List Membership) (t : Table) (has : HasTable c groups t) (lists : ListsChannels c) where
  pub sound_finishes : (ds : List Copy) (u : Standing) (alternate : ℕ) (message : Option ℤ) (all : Slots) → Upright c t false ds u
      → MayStep (want c u) message → (want c u ≡ Starts) ⊎ (alternate ≡ 0)
      → IsFinished (execute c (sight u alternate (last_of ds) message) (most_steps c) (u.at + 1) [] (memory_of u all))
  sound_finishes ds u alternate message all h may at =
      finished (execute c (sight u alternate (last_of ds) message) (most_steps c) (u.at + 1) [] (memory_of u all))
      (upright_finishes c groups t has lists ds u alternate message all h (served (want c u) message may))

  pub sound_went : (ds : List Copy) (u : Standing) (alternate : ℕ) (message : Option ℤ) (memory later : Common) (v : Standing)
      → Upright c t false ds u → MayStep (want c u) message → (want c u ≡ Starts) ⊎ (alternate ≡ 0)
      → step c alternate (last_of ds) u message memory ≡ Went v later → Upright c t false ds v
  sound_went ds u alternate message memory later v h may at e =
      upright_went c groups t has lists ds u alternate message memory later v h (served (want c u) message may) e

  pub sound_held : (ds : List Copy) (u : Standing) (alternate : ℕ) (message : Option ℤ) (memory : Common) (v : Standing)
      → Upright c t false ds u → MayStep (want c u) message → (want c u ≡ Starts) ⊎ (alternate ≡ 0)
      → step c alternate (last_of ds) u message memory ≡ Held v → Upright c t true ds v
  sound_held ds u alternate message memory v h may at e =
      upright_held c groups t has lists ds u alternate message memory v h (served (want c u) message may) e

  pub sound_settling_finishes : (ds : List Copy) (u : Standing) → Upright c t true ds u
      → IsFinished
      (execute c (sight (accepted_touched u) 0 (last_of (without_last ds)) None) (most_steps c) u.at [] (memory_of (accepted_touched u) []))
  sound_settling_finishes ds u h =
      finished (execute c (sight (accepted_touched u) 0 (last_of (without_last ds)) None) (most_steps c) u.at [] (memory_of (accepted_touched u) []))
      (upright_settling_finishes c groups t has lists ds u h)

  pub sound_back : (line : Bool) (ds : List Copy) (u : Standing) (j : ℕ) (y : Copy) → Upright c t line ds u → slice_get ds j ≡ Some y
      → Upright c t false (take (suc j) ds) (restored (cut_touched (suc j) u) y)
  sound_back line ds u j y h there =
      let one : j + 1 ≡ suc j = omega arith in
      subst (λ n. Upright c t false (take n ds) (restored (cut_touched n u) y)) one
      (upright_back c groups t has lists line ds u j y h there)
