-- Of a turn that only waits: its process ran before it and goes on, and releases nothing.
use Rattle.std.proofs.Common.{◌≡◌, ℕ, true, List, [], Some, slice_get, option_map, refl, ap, sym, ◌∙◌, subst}
use Rattle.rb_world.specs.Turn.{Moved, move, turn_used, waits}
use Rattle.rb_world.specs.World.{Process}
use Rattle.rb_world.proofs.ListFacts.{slice_get-change_at, some_same}
use Rattle.rb_scope.proofs.EachSite.{all_at}
use Rattle.rb_code.specs.Instructions.Plain.{Code}
use Rattle.rb_code.specs.WordMachine.Turn.{Common, Copy, Standing}
use Rattle.rb_code.specs.WordMachine.WordRun.{WordWorld}
use Rattle.rb_proc.specs.Process.{Seen}
use Rattle.rb_recovery.specs.Parts.{world}
use Rattle.rb_machine.specs.Telling.{AreFreed, GoesOn, IsFreed, is_running}
use Rattle.rb_machine.specs.Turns.{runs_there}
use Rattle.rb_recovery.specs.Worlds.{kind_with, processes_of}
use Rattle.rb_recovery.specs.declared.parts.Parts.{Parts}
use Rattle.rb_machine.proofs.Knowing.KnownHere.{process_there}
use Rattle.rb_machine.proofs.Releasing.Finished.{freed_same}
use Rattle.rb_machine.proofs.Unmoved.StillBare.{OnlyCounted, waits_counted}
use Rattle.rb_machine.proofs.Working.TurnWork.{used_freed}

module _ {L : Type 0} (c : Code) (t p : ℕ) (before now : Parts L)
    (is : move (kind_with c before.table) t p (world before) ≡ waits (world now)) where
  abbrev first : List (Process Standing Copy)
  first = processes_of before.procs.items

  counted : OnlyCounted p (slice_get first p) (world before) (move (kind_with c before.table) t p (world before)).world
  counted = waits_counted (kind_with c before.table) t p (world before) (ap (λ (moved : Moved Standing Copy Common). moved.kind) is)

  pub waits_ran : runs_there (slice_get first p) ≡ true
  waits_ran = ap runs_there counted.is ∙ ap is_running counted.runs

  used_there : (one : Seen) → slice_get now.procs.items p ≡ Some one → one.process ≡ turn_used counted.one
  used_there one here =
      let used : Process Standing Copy = turn_used counted.one in
      some_same (sym (process_there now.procs.items p one here)
      ∙ (ap (λ (w : WordWorld). slice_get w.processes p)
      (sym (ap (λ (moved : Moved Standing Copy Common). moved.world) is) ∙ counted.counted)
      ∙ (slice_get-change_at p (λ (_ : Process Standing Copy). used) first ∙ ap (option_map (λ (_ : Process Standing Copy). used)) counted.is)))

  pub waits_on : AreFreed first → (one : Seen) → slice_get now.procs.items p ≡ Some one → GoesOn one
  waits_on freed one here =
      let q = counted.one in
      let same = used_there one here in
      let free : IsFreed one.process =
      subst IsFreed (sym same) (used_freed q.levels q.state (all_at IsFreed first p q freed counted.is)) in
      record {
        running = ap (λ (r : Process Standing Copy). r.status) same ∙ counted.runs;
        same = λ code. sym (freed_same code (record one { waiting = [] }) free refl);
      }
