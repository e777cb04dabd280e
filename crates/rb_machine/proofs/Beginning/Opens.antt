-- A machine that was loaded stands for the world of the word machine before its first turn, and is at work.
use Rattle.std.proofs.Common.{◌≡◌, ℕ, ◌<◌, ◌≤◌, pos, Bool, List, [], ◌∷◌, length, map, replicate, Some, refl, ap, sym, ◌∙◌, subst, arith}
use Rattle.std.specs.List.{All}
use Rattle.std.specs.Option.{unwrap_or}
use Rattle.std.proofs.lemmas.List.{get_or-map, length-map, length-replicate}
use Rattle.rb_base.specs.declared.names.Nested.{Nested}
use Rattle.rb_world.specs.Kind.{Ends, Membership}
use Rattle.rb_world.specs.Slots.{Slots, zero_slots}
use Rattle.rb_world.specs.World.{Process, Talk, settled}
use Rattle.rb_world.proofs.ListFacts.{slice_get-there}
use Rattle.rb_code.specs.WordMachine.Workspace.{no_part, part_of}
use Rattle.rb_code.specs.Instructions.Plain.{Code, channel}
use Rattle.rb_code.specs.WordMachine.Turn.{Copy, Standing}
use Rattle.rb_code.specs.SoundCode.WellFormed.{IsSound, JoinsTwo}
use Rattle.rb_code.specs.WordMachine.WordKind.{word_kind}
use Rattle.rb_code.specs.WordMachine.WordRun.{WordWorld, opening_of, opening_standings}
use Rattle.rb_code.specs.declared.code.ChannelCode.{ChannelCode}
use Rattle.rb_code.proofs.Executing.StandsAgain.{opening_settles}
use Rattle.rb_conv.specs.Conversations.{Conversation, memberships, opening, talks}
use Rattle.rb_conv.proofs.TalksAfterCalls.{talks_are_the_worlds}
use Rattle.rb_proc.specs.Executable.{IsExecutable}
use Rattle.rb_proc.specs.Process.{Seen}
use Rattle.rb_proc.specs.Sees.{FitSizes}
use Rattle.rb_machine.specs.AtWork.{HasFewAlternates, IsAtWork}
use Rattle.rb_recovery.specs.Known.{IsKnown}
use Rattle.rb_machine.specs.Loading.{AllSettle, first_seen}
use Rattle.rb_machine.specs.Machine.{Seen as Machine, opening_seen}
use Rattle.rb_machine.specs.Telling.{AreFreed}
use Rattle.rb_recovery.specs.Worlds.{counts_of, lines_of, memory_of, processes_of, world_of}
use Rattle.rb_recovery.specs.declared.links.Link.{Link}
use Rattle.rb_machine.proofs.Knowing.FirstHeld.{opening_freed}
use Rattle.rb_machine.proofs.Knowing.KnownTurns.{known_opening}
use Rattle.rb_machine.proofs.Knowing.Sizes.{opening-processes}

-- each channel has room for a message
pub channels_sized : (c : Code) (channels : List ChannelCode) → All (JoinsTwo c) (map channel channels)
    → All (λ (one : ChannelCode). 1 ≤ one.size) channels
channels_sized c channels joins k d h =
    let within : k < length (map channel channels) = omega (arith, h, length-map channels channel) in
    subst (λ (ends : Ends). 1 ≤ ends.size) (get_or-map channel channels k d (channel d) h) (joins k (channel d) within).size.0

-- each channel has so many slots
zero_fits : (channels : List Ends) → FitSizes (map length (zero_slots channels)) channels
zero_fits [] = tt
zero_fits (ends ∷ channels) = (length-replicate ends.size (pos 0), zero_fits channels)

-- the processes of a world, and the lines that wait of each
first_processes : (c : Code) (groups : List Membership) (states : List Standing)
    → processes_of (map (first_seen c) states) ≡ map (λ (s : Standing). settled (word_kind c groups) s []) states
first_processes c groups [] = refl
first_processes c groups (s ∷ states) =
    ap (λ (others : List (Process Standing Copy)). settled (word_kind c groups) s [] ∷ others) (first_processes c groups states)

first_lines : (c : Code) (states : List Standing) → lines_of (map (first_seen c) states) ≡ replicate (length states) []
first_lines c [] = refl
first_lines c (s ∷ states) = ap (λ (others : List (List (List ℕ))). [] ∷ others) (first_lines c states)

module _ (c : Code) (nested : Nested) (sound : IsSound c (memberships (opening nested)) (counts_of (opening nested))) where
  abbrev table : List Conversation
  table = opening nested

  abbrev groups : List Membership
  groups = memberships table

  abbrev firsts : List Seen
  firsts = map (first_seen c) (opening_standings 0 c.processes)

  pub settles : AllSettle c
  settles p h =
      let there = slice_get-there c.processes p h in
      let is = ap (λ o. unwrap_or o no_part) there.1 in (
        groups,
        record {
          table = sound.table;
          has = sound.has;
          lists = sound.well.lists;
          settles = opening_settles c sound.table groups sound.has p (part_of c p) (there.1 ∙ ap Some (sym is));
        },
      )

  world_is : world_of firsts table (memory_of (zero_slots c.channels) []) ≡ opening_of c groups
  world_is =
      ap (λ (processes : List (Process Standing Copy)). record {
        processes = processes;
        talks = talks table;
        memory =
            memory_of (zero_slots c.channels) [];
      })
      (first_processes c groups (opening_standings 0 c.processes))
      ∙ ap (λ (ts : List Talk). record (opening_of c groups) { talks = ts }) (talks_are_the_worlds.0 nested)

  lines_are : lines_of firsts ≡ replicate (length c.processes) []
  lines_are =
      first_lines c (opening_standings 0 c.processes)
      ∙ ap (λ n. replicate n []) (sym (length-map (opening_standings 0 c.processes) (λ (s : Standing). settled (word_kind c groups) s []))
      ∙ opening-processes c groups)

  abbrev machine_of : Bool → ℕ → List Seen → List Conversation → Slots → List Link → Machine
  machine_of keeps most procs others slots links = record {
    code = c;
    groups = memberships others;
    world = world_of procs others (memory_of slots links);
    waiting = lines_of procs;
    keeps = keeps;
    taken = 0;
    most = most;
  }

  pub opens_as : (keeps : Bool) (most : ℕ) (procs : List Seen) (others : List Conversation) (slots : Slots) (links : List Link) → procs ≡ firsts → others ≡ table
      → slots ≡ zero_slots c.channels → links ≡ [] → machine_of keeps most procs others slots links ≡ opening_seen c groups keeps most
  opens_as keeps most procs others slots links first same zeros none =
      ap (λ (ps : List Seen). machine_of keeps most ps others slots links) first
      ∙ (ap (λ (cs : List Conversation). machine_of keeps most firsts cs slots links) same
      ∙ (ap (λ (ss : Slots). machine_of keeps most firsts table ss links) zeros
      ∙ (ap (λ (ls : List Link). machine_of keeps most firsts table (zero_slots c.channels) ls) none
      ∙ (ap (λ (w : WordWorld). record (machine_of keeps most firsts table (zero_slots c.channels) []) { world = w }) world_is
      ∙ ap (λ (ls : List (List (List ℕ))). record (opening_seen c groups keeps most) { waiting = ls }) lines_are))))

  pub opens_at_work : (procs : List Seen) (others : List Conversation) (slots : Slots) (links : List Link) → IsExecutable c → HasFewAlternates c
      → procs ≡ firsts → others ≡ table → slots ≡ zero_slots c.channels → links ≡ [] → IsAtWork c 1 procs others slots links
  opens_at_work procs others slots links executable few first same zeros none =
      subst (λ (ps : List Seen). IsAtWork c 1 ps others slots links) (sym first)
      (subst (λ (cs : List Conversation). IsAtWork c 1 firsts cs slots links) (sym same)
      (subst (λ (ss : Slots). IsAtWork c 1 firsts table ss links) (sym zeros)
      (subst (λ (ls : List Link). IsAtWork c 1 firsts table (zero_slots c.channels) ls) (sym none) (record {
        executable = executable;
        few = few;
        sound = sound;
        known = subst (λ (w : WordWorld). IsKnown c groups (counts_of table) sound.table 1 w) (sym world_is)
            (known_opening c groups (counts_of table) sound);
        sized = zero_fits c.channels;
        turns = omega arith;
      }))))

  -- and no line is held
  pub opens_freed : (procs : List Seen) → procs ≡ firsts → AreFreed (processes_of procs)
  opens_freed procs first =
      subst (λ (ps : List Seen). AreFreed (processes_of ps)) (sym first)
      (opening_freed c groups sound.table sound.has sound.well.lists)
