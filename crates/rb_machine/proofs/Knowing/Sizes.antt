-- One turn leaves as many processes and conversations as there were, no process with too many levels, and none of one that has failed; and
-- so it is at the opening.
use Rattle.std.proofs.Common.{◌≡◌, ℕ, suc, ◌+◌, List, [], ◌∷◌, length, refl, ap, ◌∙◌}
use Rattle.rb_world.specs.Kind.{Kind, Membership}
use Rattle.rb_world.specs.World.{Process, World}
use Rattle.rb_world.specs.Turn.{turn}
use Rattle.rb_world.specs.Slots.{zero_slots}
use Rattle.rb_world.specs.Standing.{Each, HasSize, IsBareIfFailed, IsShallow, IsStanding}
use Rattle.rb_world.proofs.Keeping.EachProcess.{KeepsEach, each_kept}
use Rattle.rb_world.proofs.Keeping.Induction.{turn-keeps}
use Rattle.rb_world.proofs.Keeping.StandingFacts.{bare_kept, shallow_kept, size_kept, standing}
use Rattle.rb_code.specs.Instructions.Plain.{Code, Part}
use Rattle.rb_code.specs.WordMachine.Turn.{Common}
use Rattle.rb_code.specs.WordMachine.WordKind.{word_kind}
use Rattle.rb_code.specs.WordMachine.WordRun.{opening_of, opening_standings}

module _ {S C M : Type 0} (k : Kind S C M) (t p : ℕ) (w : World S C M) where
  -- what each change keeps of a process a turn keeps of all
  pub turn-each : (P : ℕ → Process S C → Type 0) → KeepsEach k P → Each P w.processes → Each P (turn k t p w).0.processes
  turn-each P laws holds = turn-keeps (each_kept laws) t [] p w holds

  pub turn-size : HasSize (length w.processes) (length w.talks) (turn k t p w).0
  turn-size =
      turn-keeps (size_kept k (length w.processes) (length w.talks)) t [] p w (record { of_processes = refl; of_talks = refl })

  pub turn-processes : length (turn k t p w).0.processes ≡ length w.processes
  turn-processes = turn-size.of_processes

  pub turn-talks : length (turn k t p w).0.talks ≡ length w.talks
  turn-talks = turn-size.of_talks

  pub turn-shallow : Each IsShallow w.processes → Each IsShallow (turn k t p w).0.processes
  turn-shallow = turn-each IsShallow (shallow_kept k)

  pub turn-bare : Each IsBareIfFailed w.processes → Each IsBareIfFailed (turn k t p w).0.processes
  turn-bare = turn-each IsBareIfFailed (bare_kept k)

-- as many processes as the code has
pub length-opening : (p : ℕ) (parts : List Part) → length (opening_standings p parts) ≡ length parts
length-opening p [] = refl
length-opening p (part ∷ parts) = ap suc (length-opening (p + 1) parts)

module _ (c : Code) (groups : List Membership) where
  abbrev at_first : Common
  at_first = record { slots = zero_slots c.channels; links = [] }

  opening-stands : IsStanding (word_kind c groups) (opening_standings 0 c.processes) (opening_of c groups)
  opening-stands = standing (word_kind c groups) [] (opening_standings 0 c.processes) at_first

  pub opening-processes : length (opening_of c groups).processes ≡ length c.processes
  opening-processes = opening-stands.size.of_processes ∙ length-opening 0 c.processes

  pub opening-talks : length (opening_of c groups).talks ≡ length groups
  opening-talks = opening-stands.size.of_talks

  pub opening-shallow : Each IsShallow (opening_of c groups).processes
  opening-shallow = opening-stands.shallow

  pub opening-bare : Each IsBareIfFailed (opening_of c groups).processes
  opening-bare = opening-stands.bare
