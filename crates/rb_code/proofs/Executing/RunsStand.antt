-- In every run of sound code each process stands.
use Rattle.std.proofs.Common.{◌≡◌, ℕ, zero, suc, ◌+◌, List, [], ◌∷◌, slice_get, Some, refl, ap, sym, ◌∙◌, subst, arith}
use Rattle.rb_world.specs.Slots.{zero_slots}
use Rattle.rb_world.specs.World.{settled}
use Rattle.rb_world.proofs.Keeping.EachProcess.{each_opening_run}
use Rattle.rb_world.proofs.ListFacts.{none_some, some_same}
use Rattle.rb_code.specs.Instructions.Plain.{Part}
use Rattle.rb_code.specs.WordMachine.Turn.{Standing}
use Rattle.rb_code.specs.SoundCode.StandsInRuns.{ProcessStands}
use Rattle.rb_code.specs.WordMachine.WordKind.{word_kind}
use Rattle.rb_code.specs.WordMachine.WordRun.{opening_standing, opening_standings}
use Rattle.rb_code.specs.SoundCode.SoundLaws.{SoundRunsEnd, SoundRunsStand}
use Rattle.rb_code.proofs.Executing.ProcessesStand.{processes_stand, settled_stands, stands_to_step}
use Rattle.rb_code.proofs.Executing.RunSteps.{run_step_ends}
use Rattle.rb_code.proofs.Executing.StandsAgain.{opening_settles}

-- a process before the first turn
record Opens (p r : ℕ) (parts : List Part) (s : Standing) : Type 0 where
  part : Part
  there : slice_get parts r ≡ Some part
  is : s ≡ opening_standing (p + r) part

opens : (p r : ℕ) (parts : List Part) (s : Standing) → slice_get (opening_standings p parts) r ≡ Some s → Opens p r parts s
opens p r [] s e = absurd (none_some e)
opens p zero (part ∷ parts) s e =
    record { part = part; there = refl; is = sym (some_same e) ∙ ap (λ n. opening_standing n part) (omega arith) }
opens p (suc r) (part ∷ parts) s e =
    let h = opens (p + 1) r parts s e in
    record { part = h.part; there = h.there; is = h.is ∙ ap (λ n. opening_standing n h.part) (omega arith) }

pub runs_stand : SoundRunsStand
runs_stand c groups t has lists turns =
    each_opening_run (processes_stand c groups t has lists) turns (opening_standings 0 c.processes)
    (record { slots = zero_slots c.channels; links = [] })
    (λ r s e.
    let h = opens 0 r c.processes s e in
    let is : s ≡ opening_standing r h.part = h.is ∙ ap (λ n. opening_standing n h.part) (omega arith) in
    subst (λ x. ProcessStands c t (settled (word_kind c groups) x [])) (sym is)
    (settled_stands c groups t has lists (opening_standing r h.part) [] (opening_settles c t groups has r h.part h.there)))

pub runs_end : SoundRunsEnd
runs_end c groups t has lists turns p q there running away alternate message slots serves =
    run_step_ends c groups t has lists q.state q.levels
    (stands_to_step c groups t has lists q (runs_stand c groups t has lists turns p q there) running away)
    alternate message serves slots
