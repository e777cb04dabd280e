-- A run of the word machine, and its text.
use Rattle.std.specs.Prelude.{ℕ, ◌+◌, ℤ, pos, List, [], ◌∷◌, ◌++◌, length, map, take, drop, replicate, slice_get, Option, Some, None}
use Rattle.rb_meaning.specs.Meaning.{standing}
use Rattle.rb_world.specs.Kind.{Ends, Membership}
use Rattle.rb_world.specs.World.{World}
use Rattle.rb_world.specs.Turn.{Told, opening, run, told_at_opening}
use Rattle.rb_world.specs.Slots.{zero_slots}
use Rattle.rb_world.specs.Text.{Final, all_told, end_text, told_text}
use Rattle.rb_code.specs.Instructions.Plain.{Code, Part}
use Rattle.rb_code.specs.WordMachine.Workspace.{body_place, part_of, variables_place}
use Rattle.rb_code.specs.WordMachine.Turn.{Common, Copy, Standing}
use Rattle.rb_code.specs.WordMachine.WordKind.{sent_by, taken_by, word_kind}

-- a world of the word machine
abbrev pub WordWorld : Type 0
WordWorld = World Standing Copy Common

-- process number p before the first turn: at its body, all its words 0
abbrev pub opening_standing : ℕ → Part → Standing
opening_standing p part = record {
  process = p;
  at = part.start;
  words = replicate (body_place part) (pos 0);
  calls = [];
  last_kept = 0;
  held = [];
  touched = [];
}

-- the processes from number p on
abbrev pub opening_standings : ℕ → List Part → List Standing
opening_standings p [] = []
opening_standings p (part ∷ parts) = opening_standing p part ∷ opening_standings (p + 1) parts

abbrev pub opening_of : Code → List Membership → WordWorld
opening_of c groups =
    opening (word_kind c groups) (opening_standings 0 c.processes) (record { slots = zero_slots c.channels; links = [] })

-- the run of a list of turns, numbered from 1
abbrev pub word_run : Code → List Membership → List ℕ → WordWorld × List Told
word_run c groups turns = run (word_kind c groups) 1 turns (opening_of c groups)

-- the words of a process's own variables
abbrev pub variable_words : Code → Standing → List ℤ
variable_words c s = take (part_of c s.process).words (drop (variables_place (part_of c s.process)) s.words)

-- how many values were sent on each channel, by the words of its sender, and how many were taken from it, by those of its receiver
abbrev pub by_standing : (Standing → ℕ) → Option Standing → ℕ
by_standing f None = 0
by_standing f (Some s) = f s

abbrev pub counts_sent : Code → List Standing → ℕ → List Ends → List ℕ
counts_sent c standings channel [] = []
counts_sent c standings channel (ends ∷ others) =
    by_standing (λ s. sent_by c s.process s.words channel (Some ends)) (slice_get standings ends.sender)
    ∷ counts_sent c standings (channel + 1) others

abbrev pub counts_taken : Code → List Standing → ℕ → List Ends → List ℕ
counts_taken c standings channel [] = []
counts_taken c standings channel (ends ∷ others) =
    by_standing (λ s. taken_by c s.process s.words channel (Some ends)) (slice_get standings ends.receiver)
    ∷ counts_taken c standings (channel + 1) others

-- how a run ends: statuses, variables, and what was sent on each channel and taken from it
abbrev pub word_final : Code → WordWorld → Final
word_final c w = record {
  statuses = map standing w.processes;
  words = map (λ q. variable_words c q.state) w.processes;
  sent = counts_sent c (map (λ q. q.state) w.processes) 0 c.channels;
  taken = counts_taken c (map (λ q. q.state) w.processes) 0 c.channels;
}

-- the text of a run over so many turns: who is done at turn 0, what each turn printed, and the ending
abbrev pub word_text_of : Code → WordWorld → ℕ → WordWorld × List Told → List ℕ
word_text_of c first turns (w, all) =
    told_text c.names 0 (told_at_opening first) ++ (all_told c.names 1 all ++ end_text c.names turns (word_final c w))

abbrev pub word_text : Code → List Membership → List ℕ → List ℕ
word_text c groups turns = word_text_of c (opening_of c groups) (length turns) (word_run c groups turns)
