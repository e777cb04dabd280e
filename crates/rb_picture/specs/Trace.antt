-- The trace of a run: its head; what was told at the opening, and of each turn what it did, what it told and what it changed; and the
-- ending of the run. It is a function of the worlds of the run: of the world before a turn, of what is told of it, and of the world after.
use Rattle.std.specs.Prelude.{ℕ, ◌+◌, pos, List, [], ◌∷◌, ◌++◌, length, map, replicate, cond, option_map, slice_get, Option, Some, None}
use Rattle.std.specs.Option.{unwrap_or}
use Rattle.rb_base.specs.declared.event.TurnKind.{TurnKind}
use Rattle.rb_base.specs.declared.event.TurnKind.TheVariants.{Undone}
use Rattle.rb_base.specs.declared.place.Place.{Place}
use Rattle.rb_world.specs.Kind.{Ends, Membership}
use Rattle.rb_world.specs.Text.{Final, Naming, end_text, told_text}
use Rattle.rb_world.specs.Turn.{Told, opening_talks, run, turn, told_at_opening}
use Rattle.rb_world.specs.World.{Level, Process, ProcessStatus, Running, Finished, FailedWith, World, last_of}
use Rattle.rb_code.specs.Instructions.Plain.{Block, Code, Part}
use Rattle.rb_code.specs.WordMachine.Turn.{Common, Copy, Standing}
use Rattle.rb_code.specs.WordMachine.WordKind.{word_kind}
use Rattle.rb_code.specs.WordMachine.WordRun.{opening_of, variable_words, word_final}
use Rattle.rb_changes.specs.Changes.{all_back, changes}
use Rattle.rb_picture.specs.Head.{head_text}
use Rattle.rb_changes.specs.Noted.{ProcessNoted, WorldNoted, world_noted}
use Rattle.rb_changes.specs.Shown.{Reading, WorldShown, unused, world_shown}
use Rattle.rb_changes.specs.declared.noted.Stand.TheVariants.{Runs}
use Rattle.rb_picture.specs.Turns.{asked_of, turn_line}
use Rattle.rb_picture.specs.declared.asked.Asked.{Asked}

-- which processes a turn put back, which only one that was undone does
abbrev pub back_text : TurnKind → ℕ → Naming → WorldNoted → WorldShown → List ℕ
back_text Undone t names before after = all_back t names.processes before.processes after.processes
back_text _ t names before after = []

-- A turn of process p: what was asked, shown and to be told before it, what was told of it, and what is shown after it.
abbrev pub turn_text : Naming → ℕ → ℕ → Option Place → Asked → WorldNoted → Told → WorldShown → List ℕ
turn_text names t p place asked before told after =
    turn_line names t p place told.kind asked
    ++ (told_text names t told ++ (back_text told.kind t names before after ++ changes t names before after))

-- before the opening: all variables are 0, no level is open, no line is held, all run, nothing was sent, and conversations are at alternate 1
abbrev pub fresh_process : ℕ → ProcessNoted
fresh_process words = record { words = replicate words (pos 0); levels = []; held = 0; stand = Runs }

abbrev pub process_before : Part → ProcessNoted
process_before part = fresh_process part.words

abbrev pub before_opening : Code → List Membership → WorldNoted
before_opening c groups = record {
  processes = map process_before c.processes;
  channels = map (λ (ends : Ends). (unused ends.size).numbers) c.channels;
  talks = opening_talks groups;
}

module _ {S C M : Type 0} (r : Reading S C M) (names : Naming) where
  -- turn t of process number p, which is this one, in a world; and what it came to
  abbrev pub one_turn : ℕ → ℕ → Process S C → World S C M → World S C M × Told → List ℕ
  one_turn t p q w (after, told) = turn_text names t p (r.place q) (asked_of r.kind q) (world_noted (world_shown r w)) told (world_shown r after)

  abbrev pub turn_of : ℕ → ℕ → Option (Process S C) → World S C M → List ℕ
  turn_of t p None w = []
  turn_of t p (Some q) w = one_turn t p q w (turn r.kind t p w)

  -- the turns from number t on, each in the world that the turns before it came to
  abbrev pub turn_texts : ℕ → World S C M → List ℕ → List ℕ
  turn_texts t w [] = []
  turn_texts t w (p ∷ ps) = turn_of t p (slice_get w.processes p) w ++ turn_texts (t + 1) (turn r.kind t p w).0 ps

  -- who is done before the first turn
  abbrev pub opening_text : WorldNoted → World S C M → List ℕ
  opening_text fresh w = told_text names 0 (told_at_opening w) ++ changes 0 names fresh (world_shown r w)

  -- the trace of a run from a world: what comes before the opening, and how the world ends to which the turns come
  abbrev pub trace_from : List ℕ → WorldNoted → (World S C M → Final) → World S C M → List ℕ → List ℕ
  trace_from head fresh final first turns =
      head ++ (opening_text fresh first ++ (turn_texts 1 first turns ++ end_text names (length turns) (final (run r.kind 1 turns first).0)))

-- The address whose place is told: of what stands first; of the acceptance test, at a test line; and none once the process is done or has failed.
abbrev pub test_of : Code → Option (Level Copy) → Option ℕ
test_of c None = None
test_of c (Some level) = option_map (λ (block : Block). block.test) (slice_get c.blocks level.facts.number)

abbrev pub address_told : Code → ProcessStatus → Process Standing Copy → Option ℕ
address_told c Running q = cond q.at_line (test_of c (last_of q.levels)) (Some q.state.at)
address_told c Finished q = None
address_told c (FailedWith cause) q = None

abbrev pub place_at : List (Option Place) → Option ℕ → Option Place
place_at places None = None
place_at places (Some a) = unwrap_or (slice_get places a) None

-- How the word machine's states are read: an entry is the last kept turn of its recovery point; places are given by address.
abbrev pub word_reading : Code → List Membership → List (Option Place) → Reading Standing Copy Common
word_reading c groups places = record {
  kind = word_kind c groups;
  words = variable_words c;
  entered = λ m copy. copy.last_kept;
  place = λ q. place_at places (address_told c q.status q);
}

-- the trace of the word machine's run of a code
abbrev pub trace_text : Code → List Membership → List ℕ → List (Option Place) → List ℕ → List ℕ
trace_text c groups counts places turns =
    trace_from (word_reading c groups places) c.names (head_text c groups counts (length turns)) (before_opening c groups) (word_final c)
    (opening_of c groups) turns
