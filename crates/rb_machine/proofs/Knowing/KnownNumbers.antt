-- In a world of a run of sound code each process knows its number, and cursors stand in its copies.
use Rattle.std.proofs.Common.{◌≡◌, ℕ, ◌+◌, List, take, slice_get, Some, ap, sym, subst, ◌∙◌, arith}
use Rattle.std.specs.Option.{option_map}
use Rattle.std.proofs.lemmas.List.{length-map}
use Rattle.std.proofs.lemmas.Option.{slice_get-map}
use Rattle.rb_world.specs.Kind.{Membership}
use Rattle.rb_world.specs.World.{Level, Process}
use Rattle.rb_code.specs.Instructions.Plain.{Code}
use Rattle.rb_code.specs.SoundCode.Stands.{inside_out}
use Rattle.rb_code.specs.SoundCode.StandsInRuns.{ProcessStands}
use Rattle.rb_code.specs.WordMachine.Turn.{Common, Copy, Standing}
use Rattle.rb_code.specs.SoundCode.WellFormed.{IsSound}
use Rattle.rb_code.proofs.Executing.OpenLevels.{bases_rise}
use Rattle.rb_code.proofs.Executing.ProcessesStand.{copy_stands}
use Rattle.rb_world.specs.Slots.{Slots}
use Rattle.rb_conv.specs.Conversations.{Conversation, memberships}
use Rattle.rb_proc.specs.Process.{Seen}
use Rattle.rb_machine.specs.AtWork.{IsAtWork}
use Rattle.rb_recovery.specs.Channels.{AreNumbered, HoldsCursors}
use Rattle.rb_recovery.specs.Known.{IsKnown, IsPlaced}
use Rattle.rb_recovery.specs.Worlds.{counts_of, memory_of, world_of}
use Rattle.rb_recovery.specs.declared.links.Link.{Link}

module _ (c : Code) (groups : List Membership) (counts : List ℕ) (sound : IsSound c groups counts) where
  -- what is known of a process by its number
  pub placed : (t : ℕ) (procs : List Seen) (talks : List Conversation) (memory : Common)
      → IsKnown c groups counts sound.table t (world_of procs talks memory)
      → (p : ℕ) (one : Seen) → slice_get procs p ≡ Some one → IsPlaced c groups sound.table p one.process
  placed t procs talks memory known p one there =
      known.placed p one.process (slice_get-map (λ (one : Seen). one.process) procs p ∙ ap (option_map (λ (one : Seen). one.process)) there)

  -- the words of the main body begin within a copy
  copy_high : (q : Process Standing Copy) (i : ℕ) (level : Level Copy) → ProcessStands c sound.table q → slice_get q.levels i ≡ Some level
      → HoldsCursors c q.state.process level
  copy_high q i level stands there =
      let back = copy_stands c groups sound.table sound.has sound.well.lists q i level there stands in
      let around = inside_out (take (i + 1) q.levels) in
      let up = bases_rise c sound.table q.state.process level.copy.calls back.entry.within back.entry.blocks around back.layout.body in
      omega (arith, up, back.layout.words_are)

  known_numbered : (t : ℕ) (procs : List Seen) (talks : List Conversation) (memory : Common)
      → IsKnown c groups counts sound.table t (world_of procs talks memory) → AreNumbered c procs
  known_numbered t procs talks memory known =
      let at = placed t procs talks memory known in
      record {
        as_many = sym (length-map procs (λ (one : Seen). one.process)) ∙ known.processes;
        numbers = λ p one there. (at p one there).number;
        lists = sound.well.lists;
        copies = λ p one there i level found. subst (λ n. HoldsCursors c n level) (at p one there).number
            (copy_high one.process i level (at p one there).stands found);
      }

-- so it is between two turns, and within one
pub numbered_at_work : (c : Code) (t : ℕ) (procs : List Seen) (table : List Conversation) (slots : Slots) (links : List Link)
    → IsAtWork c t procs table slots links → AreNumbered c procs
numbered_at_work c t procs table slots links work =
    known_numbered c (memberships table) (counts_of table) work.sound t procs table (memory_of slots links) work.known
