-- A turn of the parts is one of the word machine, and leaves them at work.
use Rattle.std.proofs.Common.{◌≡◌, ℕ, zero, suc, ◌+◌, ◌-◌, ◌<◌, ◌≤◌, ◌^◌, Bool, true, List, [], ◌∷◌, ◌++◌, length, map, replicate, refl, ap, sym, ◌∙◌, subst, arith}
use Rattle.std.proofs.lemmas.List.{length-map}
use Rattle.rb_base.specs.Limits.{most_processes}
use Rattle.rb_base.specs.declared.edition.Edition.{Edition}
use Rattle.rb_base.specs.declared.edition.Edition.TheVariants.{First, Second}
use Rattle.rb_base.specs.declared.event.Event.{Event}
use Rattle.rb_base.specs.declared.event.TurnKind.{TurnKind}
use Rattle.rb_world.specs.Kind.{Kind, Membership}
use Rattle.rb_world.specs.Turn.{Moved, finishes, freed, lines_freed, move, turn}
use Rattle.rb_world.specs.World.{Process, with_each}
use Rattle.rb_code.specs.Instructions.Plain.{Code}
use Rattle.rb_code.specs.WordMachine.Turn.{Common, Copy, Standing}
use Rattle.rb_code.specs.SoundCode.WellFormed.{IsSound}
use Rattle.rb_code.specs.WordMachine.WordKind.{word_kind}
use Rattle.rb_code.specs.WordMachine.WordRun.{WordWorld}
use Rattle.rb_conv.specs.Conversations.{memberships}
use Rattle.rb_proc.specs.Process.{Seen}
use Rattle.rb_trace.specs.Report.{told_of}
use Rattle.rb_machine.specs.AtWork.{IsAtWork}
use Rattle.rb_recovery.specs.Known.{IsKnown}
use Rattle.rb_machine.specs.Moves.{HasMoved, IsLeft}
use Rattle.rb_recovery.specs.Parts.{world}
use Rattle.rb_recovery.specs.TestLines.{passes_of}
use Rattle.rb_machine.specs.Telling.{AreFreed, SameBut, WasAlone, ends_told, is_alone, is_running, running_of}
use Rattle.rb_recovery.specs.Worlds.{NoneWaits, counts_of, kind_with, lines_of, memory_of, processes_of, world_of}
use Rattle.rb_machine.specs.declared.came.Came.{Came}
use Rattle.rb_recovery.specs.declared.parts.Parts.{Parts}
use Rattle.rb_machine.proofs.Together.Alone.{moves_alone}
use Rattle.rb_machine.proofs.Knowing.KnownTurns.{known_turn}
use Rattle.rb_machine.proofs.Knowing.Sizes.{turn-processes}

-- where as many lists of lines are all empty, no line waits
pub none_wait : (procs : List Seen) (n : ℕ) → lines_of procs ≡ replicate n [] → NoneWaits procs
none_wait [] n e = tt
none_wait (one ∷ procs) zero e = absurd (cc)
none_wait (one ∷ procs) (suc n) e =
    let first : one.waiting ≡ [] = cc in
    let others : lines_of procs ≡ replicate n [] = cc in
    (first, none_wait procs n others)

-- the release of held lines changes nobody's status
freed_run : {M : Type 0} (k : Kind Standing Copy M) (processes : List (Process Standing Copy))
    → running_of (map (freed k) processes) ≡ running_of processes
freed_run k [] = refl
freed_run k (q ∷ processes) = ap (λ (others : List Bool). is_running q.status ∷ others) (freed_run k processes)

-- so who ran before it runs after it
pub running_after : (c : Code) (groups : List Membership) (procs released : List Seen) (running : List Bool)
    → processes_of released ≡ map (freed (word_kind c groups)) (processes_of procs) → running ≡ running_of (processes_of procs)
    → running ≡ running_of (processes_of released)
running_after c groups procs released running free is =
    is ∙ (sym (freed_run (word_kind c groups) (processes_of procs)) ∙ ap running_of (sym free))

-- both editions have no more processes than this
processes_few : (edition : Edition) → most_processes edition ≤ 64
processes_few First = omega arith
processes_few Second = omega arith

module _ {L : Type 0} (c : Code) (t p : ℕ) (before after : Parts L) (events : List Event) (came : Came) where
  abbrev Words : Kind Standing Copy Common
  Words = kind_with c before.table

  abbrev moves_to : Moved Standing Copy Common
  moves_to = move Words t p (world before)

  -- the world once lines were released
  abbrev world_after : List Seen → WordWorld
  world_after released = world_of released after.table (memory_of after.mails after.links.items)

  module _ (moved : HasMoved after events came moves_to) where
    abbrev moved_so : WordWorld → TurnKind → List Event → List Event → Moved Standing Copy Common
    moved_so w kind rejections passes = record { world = w; kind = kind; rejections = rejections; passes = passes }

    moved_is : moved_so (world after) came.kind events (passes_of came.pass) ≡ moves_to
    moved_is =
        ap (λ (w : WordWorld). moved_so w came.kind events (passes_of came.pass)) moved.worlds
        ∙ (ap (λ (kind : TurnKind). moved_so moves_to.world kind events (passes_of came.pass)) moved.kind
        ∙ (ap (λ (rejections : List Event). moved_so moves_to.world moves_to.kind rejections (passes_of came.pass)) moved.rejections
        ∙ ap (λ (passes : List Event). moved_so moves_to.world moves_to.kind moves_to.rejections passes) moved.passes))

    -- the world and what is told of the turn, once lines were released
    pub turns_to : (told : List Event) (released : List Seen)
        → told ≡ events ++ ends_told (processes_of before.procs.items) (processes_of after.procs.items) came.pass
        → processes_of released ≡ map (freed Words) (processes_of after.procs.items)
        → lines_of released ≡ map (λ (q : Process Standing Copy). lines_freed Words q.state q.levels) (processes_of after.procs.items)
        → (world_after released, told_of came.kind told (lines_of released))
        ≡ turn Words t p (world before)
    turns_to told released telling free lines =
        ap (λ (all : List (Process Standing Copy)). (record (world after) { processes = all }, told_of came.kind told (lines_of released))) free
        ∙ (ap (λ (all : List Event). (with_each (freed Words) (world after), told_of came.kind all (lines_of released))) telling
        ∙ (ap (λ (all : List (List (List ℕ))). (
          with_each (freed Words) (world after),
          told_of came.kind
              (events ++ ends_told (processes_of before.procs.items) (processes_of after.procs.items) came.pass) all,
        )) lines
        ∙ ap (finishes Words (world before)) moved_is))

    -- a turn that took nothing back and passed no test line touched its own process alone
    pub was_alone : (running : List Bool) → running ≡ running_of (processes_of before.procs.items) → AreFreed (processes_of before.procs.items)
        → is_alone came.kind (passes_of came.pass) ≡ true → WasAlone p running (processes_of after.procs.items)
    was_alone running ran freed alone =
        let moves_so : is_alone moves_to.kind moves_to.passes ≡ true =
        ap (λ (kind : TurnKind). is_alone kind moves_to.passes) (sym moved.kind)
        ∙ (ap (λ (passes : List Event). is_alone came.kind passes) (sym moved.passes) ∙ alone) in
        record {
          before = processes_of before.procs.items;
          ran = ran;
          freed = freed;
          same = subst (SameBut p (processes_of before.procs.items)) (sym (ap (λ (w : WordWorld). w.processes) moved.worlds))
              (moves_alone Words t p (world before) moves_so);
        }

    -- there are still as many processes as the code has
    pub as_many_after : IsAtWork c t before.procs.items before.table before.mails before.links.items
        → length after.procs.items ≡ length c.processes
    as_many_after work =
        sym (length-map after.procs.items (λ (one : Seen). one.process))
        ∙ (ap (λ (w : WordWorld). length w.processes) moved.worlds
        ∙ (sym (length-map moves_to.world.processes (freed Words))
        ∙ (turn-processes Words t p (world before) ∙ work.known.processes)))

    -- which are few
    pub few_after : (work : IsAtWork c t before.procs.items before.table before.mails before.links.items) → length after.procs.items ≤ 64
    few_after work = omega (arith, as_many_after work, work.sound.well.few_processes, processes_few c.edition)

    -- and it was noted of as many whether they run
    pub running_as_many : (running : List Bool) → IsAtWork c t before.procs.items before.table before.mails before.links.items
        → running ≡ running_of (processes_of before.procs.items) → length running ≡ length after.procs.items
    running_as_many running work is =
        ap length is
        ∙ (length-map (processes_of before.procs.items) (λ (q : Process Standing Copy). is_running q.status)
        ∙ (work.known.processes ∙ sym (as_many_after work)))

  abbrev Knows : List Membership → List ℕ → WordWorld → Type 0
  Knows groups counts w = (sound : IsSound c groups counts) × IsKnown c groups counts sound.table (t + 1) w

  -- the parts are at work before the next turn
  pub works_on : (released : List Seen) → IsAtWork c t before.procs.items before.table before.mails before.links.items
      → IsLeft c before after events came → t < 2 ^ 32 - 1 → world_after released ≡ (turn Words t p (world before)).0
      → IsAtWork c (t + 1) released after.table after.mails after.links.items
  works_on released work left few is =
      let known = known_turn c (memberships before.table) (counts_of before.table) work.sound t p (world before) work.known in
      let kept : Knows (memberships after.table) (counts_of after.table) (world_after released) =
      subst (λ (groups : List Membership). Knows groups (counts_of after.table) (world_after released)) (sym left.groups.members)
      (subst (λ (counts : List ℕ). Knows (memberships before.table) counts (world_after released)) (sym left.groups.counts)
      (subst (λ (w : WordWorld). Knows (memberships before.table) (counts_of before.table) w) (sym is) (work.sound, known))) in
      record {
        executable = work.executable;
        few = work.few;
        sound = kept.0;
        known = kept.1;
        sized = left.sized;
        turns = omega arith;
      }
