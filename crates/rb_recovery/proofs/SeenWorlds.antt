-- The world of the machine's parts, where processes are changed.
use Rattle.std.proofs.Common.{◌≡◌, ℕ, zero, suc, List, [], ◌∷◌, map, option_map, slice_get, Option, Some, refl, ap, ◌∙◌}
use Rattle.std.proofs.lemmas.Option.{slice_get-map}
use Rattle.rb_world.specs.World.{Process, change_at, levels_of, process_levels}
use Rattle.rb_conv.specs.Conversations.{Conversation}
use Rattle.rb_code.specs.WordMachine.Turn.{Common, Copy, Standing}
use Rattle.rb_proc.specs.Process.{Seen}
use Rattle.rb_recovery.specs.Rejections.{changed}
use Rattle.rb_recovery.specs.Worlds.{processes_of, world_of}

-- one process is changed
pub processes_at : (p : ℕ) (f : Process Standing Copy → Process Standing Copy) (procs : List Seen)
    → processes_of (change_at p (changed f) procs) ≡ change_at p f (processes_of procs)
processes_at p f [] = refl
processes_at zero f (one ∷ procs) = refl
processes_at (suc p) f (one ∷ procs) = ap (λ (qs : List (Process Standing Copy)). one.process ∷ qs) (processes_at p f procs)

-- and each of them
pub processes_each : (f : Process Standing Copy → Process Standing Copy) (procs : List Seen)
    → processes_of (map (changed f) procs) ≡ map f (processes_of procs)
processes_each f [] = refl
processes_each f (one ∷ procs) = ap (λ (qs : List (Process Standing Copy)). f one.process ∷ qs) (processes_each f procs)

-- the levels of a process that is there
pub levels_there : (procs : List Seen) (table : List Conversation) (memory : Common) (p : ℕ) (one : Seen) → slice_get procs p ≡ Some one
    → process_levels (world_of procs table memory) p ≡ one.process.levels
levels_there procs table memory p one there =
    ap levels_of (slice_get-map (λ (seen : Seen). seen.process) procs p)
    ∙ ap (λ (o : Option Seen). levels_of (option_map (λ (seen : Seen). seen.process) o)) there
