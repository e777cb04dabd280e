-- A turn that ends quietly touched one process alone, which ran before and goes on.
use Rattle.std.proofs.Common.{◌≡◌, ℕ, Bool, true, List, [], length, Some, option_map, slice_get, ap, ◌∙◌, arith}
use Rattle.std.proofs.lemmas.Option.{slice_get-map, slice_get_within}
use Rattle.rb_base.specs.declared.event.Event.{Event}
use Rattle.rb_base.specs.declared.event.TurnKind.{TurnKind}
use Rattle.rb_world.specs.World.{Process}
use Rattle.rb_code.specs.WordMachine.Turn.{Copy, Standing}
use Rattle.rb_proc.specs.Process.{Seen}
use Rattle.rb_machine.specs.Telling.{GoesOnThere, IsQuiet, is_alone, is_running, running_of, takes_nothing_back}
use Rattle.rb_machine.specs.Turns.{runs_there}
use Rattle.rb_recovery.specs.Worlds.{processes_of}
use Rattle.rb_machine.specs.declared.came.Came.{Came}
use Rattle.rb_machine.proofs.Turning.TurnsTaken.{running_there}

pub quiet_alone : (kind : TurnKind) (passes : List Event) → takes_nothing_back kind ≡ true → passes ≡ [] → is_alone kind passes ≡ true
quiet_alone kind passes nothing none = ap (is_alone kind) none ∙ nothing

pub quiet_goes_on : (before after : List Seen) (p : ℕ) (running : List Bool) (came : Came) → running ≡ running_of (processes_of before)
    → length running ≡ length after → runs_there (slice_get (processes_of before) p) ≡ true → IsQuiet came after p
    → GoesOnThere running after p
quiet_goes_on before after p running came noted as_many runs quiet =
    let found = running_there before p runs in
    let read : slice_get running p ≡ Some true =
    ap (λ (bs : List Bool). slice_get bs p) noted
    ∙ (slice_get-map (λ (q : Process Standing Copy). is_running q.status) (processes_of before) p
    ∙ (ap (option_map (λ (q : Process Standing Copy). is_running q.status))
    (slice_get-map (λ (one : Seen). one.process) before p ∙ ap (option_map (λ (one : Seen). one.process)) found.1)
    ∙ ap (λ status. Some (is_running status)) found.2)) in
    record {
      there = omega (arith, slice_get_within running p true read, as_many);
      ran = read;
      goes_on = quiet.goes_on;
    }
