-- A turn that was counted at each level of a process leaves what is known of every world of a run, before the turn after it.
use Rattle.std.proofs.Common.{◌≡◌, ℕ, zero, suc, ◌+◌, ◌-◌, ◌<◌, ◌≤◌, ◌^◌, List, [], ◌∷◌, length, map, set, slice_get, option_map, Some, ap, sym, ◌∙◌, subst, arith}
use Rattle.std.proofs.lemmas.List.{length-map}
use Rattle.rb_world.specs.Kind.{Membership}
use Rattle.rb_world.specs.Present.{IsPresent, TryPresent}
use Rattle.rb_world.specs.Slots.{Slots}
use Rattle.rb_world.specs.Standing.{Each, IsBareIfFailed, IsShallow}
use Rattle.rb_world.specs.Turn.{most_levels, one_used, turn_used}
use Rattle.rb_world.specs.World.{Level, Process, Talk, change_at, with_process}
use Rattle.rb_world.proofs.ListFacts.{Each-change_at, length-change_at, slice_get-change_at, some_same}
use Rattle.rb_world.proofs.Members.PassTogether.{map_found}
use Rattle.rb_code.specs.Instructions.Plain.{Code}
use Rattle.rb_code.specs.WordMachine.Turn.{Copy, Standing}
use Rattle.rb_code.specs.SoundCode.WellFormed.{IsSound}
use Rattle.rb_code.specs.WordMachine.WordRun.{WordWorld}
use Rattle.rb_conv.specs.Conversations.{Conversation, memberships, talks}
use Rattle.rb_proc.specs.Process.{Seen}
use Rattle.rb_machine.specs.AtWork.{IsAtWork}
use Rattle.rb_recovery.specs.Known.{IsCounted, IsKnown, IsPlaced, IsTried}
use Rattle.rb_recovery.specs.Rejections.{changed}
use Rattle.rb_recovery.specs.Worlds.{counts_of, memory_of, processes_of, world_of}
use Rattle.rb_recovery.specs.declared.links.Link.{Link}
use Rattle.rb_machine.proofs.Knowing.Alternates.TriedLevels.{used_tried}
use Rattle.rb_recovery.proofs.Changed.{change_there}
use Rattle.rb_machine.proofs.Knowing.CountsBelow.{used_below, weaker}
use Rattle.rb_machine.proofs.Knowing.KnownHere.{process_there}
use Rattle.rb_machine.proofs.Linking.LinkedTurns.{later_linked, linked_used}
use Rattle.rb_machine.proofs.Knowing.Placed.Kept.{placed_keeps}
use Rattle.rb_recovery.proofs.SeenWorlds.{processes_at}

-- what is written at a number stands there
pub set_there : {A : Type 0} (xs : List A) (p : ℕ) (y x : A) → p < length xs → slice_get (set xs p y) p ≡ Some x → y ≡ x
set_there [] p y x h e = absurd (omega (arith, h))
set_there (z ∷ zs) zero y x h e = some_same e
set_there (z ∷ zs) (suc p) y x h e = set_there zs p y x (omega (arith, h)) e

-- turns used change no alternate
used_present : (conversations : List Talk) (levels : List (Level Copy)) → TryPresent conversations levels
    → TryPresent conversations (map one_used levels)
used_present conversations levels present i d at =
    let found = map_found one_used levels i at.level at.there in
    let was : IsPresent conversations d found.0 =
    present i d (record { level = found.0; there = found.1; of_it = ap (λ (x : Level Copy). x.facts.conversation) found.2 ∙ at.of_it }) in
    record { talk = was.talk; there = was.there; same = ap (λ (x : Level Copy). x.alternate) (sym found.2) ∙ was.same }

module _ (c : Code) (groups : List Membership) (counts : List ℕ) (sound : IsSound c groups counts) (t p : ℕ) (w : WordWorld)
    (known : IsKnown c groups counts sound.table t w) (q : Process Standing Copy) (there : slice_get w.processes p ≡ Some q) where
  -- what is known of each process, of p once it has counted the turn
  one_counted : (P : ℕ → Process Standing Copy → Type 0) → Each P w.processes → P p (turn_used q)
      → Each P (with_process p (λ _. turn_used q) w).processes
  one_counted P each new = Each-change_at P p (λ _. turn_used q) w.processes each (λ _ _. new)

  few : IsShallow p (turn_used q)
  few = subst (λ (n : ℕ). n ≤ most_levels) (sym (length-map q.levels one_used)) (known.shallow p q there)

  placed : IsPlaced c groups sound.table p (turn_used q)
  placed = (placed_keeps c groups sound.table sound.has sound.well.lists).counts p q (known.placed p q there)

  below : IsCounted c (t + 1) p (turn_used q)
  below = weaker c (t + 1) (t + 1) t (t + 1) p (turn_used q) (omega arith) (omega arith) (used_below c groups t t p q (known.counted p q there))

  pub counted_known : IsKnown c groups counts sound.table (t + 1) (with_process p (λ _. turn_used q) w)
  counted_known = record {
    processes = length-change_at p (λ _. turn_used q) w.processes ∙ known.processes;
    talks = known.talks;
    shallow = one_counted IsShallow known.shallow few;
    bare = one_counted IsBareIfFailed known.bare (λ failed. ap (map one_used) (known.bare p q there failed));
    placed = one_counted (IsPlaced c groups sound.table) known.placed placed;
    counted = one_counted (IsCounted c (t + 1))
        (λ r x e. weaker c t (t + 1) t (t + 1) r x (omega arith) (omega arith) (known.counted r x e)) below;
    tried = one_counted (λ _ x. Each (λ _ level. IsTried level) x.levels) known.tried (used_tried q.levels (known.tried p q there));
    present = one_counted (λ _ x. TryPresent w.talks x.levels) known.present (used_present w.talks q.levels (known.present p q there));
    talked = known.talked;
    linked = later_linked t (t + 1) _ (omega arith) (linked_used c groups t p w known.linked q there);
  }

module _ (c : Code) (t : ℕ) (procs : List Seen) (table : List Conversation) (slots : Slots) (links : List Link)
    (work : IsAtWork c t procs table slots links) (p : ℕ) (one : Seen) (here : slice_get procs p ≡ Some one) where
  -- no level has used so many turns that one more could not be counted
  pub few_used : Each (λ _ level. level.used < 2 ^ 32 - 1) one.process.levels
  few_used i level e =
      let less = (work.known.counted p one.process (process_there procs p one here)).used i level e in
      omega (arith, less, work.turns)

  module _ (procs' : List Seen) (counts : procs' ≡ change_at p (changed turn_used) procs) where
    -- the world once the turn was counted
    pub counted_world : world_of procs' table (memory_of slots links)
        ≡ with_process p (λ _. turn_used one.process) (world_of procs table (memory_of slots links))
    counted_world =
        ap (λ (qs : List (Process Standing Copy)). record { processes = qs; talks = talks table; memory = memory_of slots links })
        (ap processes_of counts ∙ (processes_at p turn_used procs
        ∙ change_there p turn_used one.process (processes_of procs) (process_there procs p one here)))

    -- is one of the run before the next turn
    pub counted_work : t < 2 ^ 32 - 1 → IsAtWork c (t + 1) procs' table slots links
    counted_work turns = record {
      executable = work.executable;
      few = work.few;
      sound = work.sound;
      known = subst (IsKnown c (memberships table) (counts_of table) work.sound.table (t + 1)) (sym counted_world)
          (counted_known c (memberships table) (counts_of table) work.sound t p (world_of procs table (memory_of slots links)) work.known
          one.process (process_there procs p one here));
      sized = work.sized;
      turns = omega (arith, turns);
    }

    -- the process is there
    pub counted_there : (later : Seen) → slice_get procs' p ≡ Some later → changed turn_used one ≡ later
    counted_there later e =
        some_same (sym (slice_get-change_at p (changed turn_used) procs ∙ ap (option_map (changed turn_used)) here)
        ∙ (ap (λ (xs : List Seen). slice_get xs p) (sym counts) ∙ e))
