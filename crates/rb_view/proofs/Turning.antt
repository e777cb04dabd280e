-- The text of turns, one after another, and how a turn leaves a machine.
use Rattle.std.proofs.Common.{◌≡◌, ℕ, ◌+◌, ◌≤◌, List, [], ◌∷◌, ◌++◌, length, replicate, slice_get, Option, Some, Result, Ok, Err, OnOk, ap, sym, ◌∙◌, subst, arith}
use Rattle.std.proofs.lemmas.Option.{slice_get_past}
use Rattle.std.proofs.lemmas.Slice.Zip.{AllZip-long}
use Rattle.rb_base.specs.declared.names.Names.{Names}
use Rattle.rb_base.specs.declared.place.Place.{Place}
use Rattle.rb_world.specs.Text.{Naming}
use Rattle.rb_world.specs.Turn.{Told}
use Rattle.rb_world.specs.World.{Process}
use Rattle.rb_code.specs.Instructions.Plain.{Code}
use Rattle.rb_code.specs.Instructions.Variables.{VariablesLie}
use Rattle.rb_code.specs.WordMachine.Turn.{Copy, Standing}
use Rattle.rb_code.specs.WordMachine.WordKind.{word_kind}
use Rattle.rb_machine.specs.Machine.{HasTurned, Seen, turned}
use Rattle.rb_changes.specs.Noted.{WorldNoted}
use Rattle.rb_picture.specs.Trace.{turn_of, turn_text, turn_texts, word_reading}
use Rattle.rb_picture.specs.Turns.{asked_of}
use Rattle.rb_picture.specs.declared.asked.Asked.{Asked}
use Rattle.rb_run.specs.Running.{NamesFit, NoneWaits, ran}
use Rattle.rb_run.proofs.TurnsTaken.{after_turn, same_but_lines, same_processes}
use Rattle.rb_view.specs.Steady.{IsSized, IsSteady, noted_now, shown_now}

-- the text of the turns that are left
abbrev pub turns_shown : Naming → List (Option Place) → Seen → List ℕ → List ℕ
turns_shown names places m turns = turn_texts (word_reading m.code m.groups places) names (m.taken + 1) m.world turns

-- and of the next of them
abbrev pub turn_shown : Naming → List (Option Place) → Seen → ℕ → List ℕ
turn_shown names places m p =
    turn_of (word_reading m.code m.groups places) names (m.taken + 1) p (slice_get m.world.processes p) m.world

-- what is known between turns is so whatever lines wait
with_lines : (m : Seen) (lines : List (List (List ℕ))) → IsSteady m → IsSteady (record m { waiting = lines })
with_lines m lines h = record {
  processes = h.processes;
  few = h.few;
  talks = h.talks;
  shallow = h.shallow;
  words = h.words;
  short = h.short;
  channels = h.channels;
  few_channels = h.few_channels;
  few_talks = h.few_talks;
}

module _ (old now : Seen) (rest : record now { waiting = [] } ≡ record old { waiting = [] }) where
  pub steady_lines : IsSteady old → IsSteady now
  steady_lines h = subst IsSteady (sym (same_but_lines old now rest)) (with_lines old now.waiting h)

  pub fit_lines : (names : Names) → NamesFit old.code names → NamesFit now.code names
  fit_lines names fit = subst (λ (c : Code). NamesFit c names) (sym (ap (λ (x : Seen). x.code) rest)) fit

  pub sized_lines : (n : WorldNoted) → IsSized old.code old.groups n → IsSized now.code now.groups n
  sized_lines n sized = subst (λ (x : Seen). IsSized x.code x.groups n) (sym (same_but_lines old now rest)) sized

  pub shown_lines : shown_now now ≡ shown_now old
  shown_lines = ap shown_now rest

  pub noted_lines : noted_now now ≡ noted_now old
  noted_lines = ap noted_now rest

-- A machine after a turn whose lines were written.
module _ (m now : Seen) (p : ℕ) (after : now ≡ record m { world = (turned m p).0; taken = m.taken + 1 }) where
  pub code_after : now.code ≡ m.code
  code_after = ap (λ (x : Seen). x.code) after

  pub groups_after : now.groups ≡ m.groups
  groups_after = ap (λ (x : Seen). x.groups) after

  pub none_after : NoneWaits m → NoneWaits now
  none_after waits =
      ap (λ (x : Seen). x.waiting) after ∙ waits
      ∙ ap (λ n. replicate n [])
      (sym (ap (λ (x : Seen). length x.world.processes) after ∙ same_processes (word_kind m.code m.groups) (m.taken + 1) p m.world))

  module _ (left later : List ℕ) (parts : left ≡ p ∷ later) where
    pub led_after : ran now later ≡ ran m left
    led_after = ap (λ (x : Seen). ran x later) after ∙ to_front ∙ ap (ran m) (sym parts)
      where
        to_front : ran (after_turn m p) later ≡ ran m (p ∷ later)
        to_front = ap (λ n. record (ran (after_turn m p) later) { taken = n }) (omega arith)

    pub shown_after : (names : Naming) (places : List (Option Place))
        → turns_shown names places m left ≡ turn_shown names places m p ++ turns_shown names places now later
    shown_after names places =
        ap (turns_shown names places m) parts ∙ ap (λ (x : Seen). turn_shown names places m p ++ turns_shown names places x later) (sym after)

    pub few_after : m.taken + length left ≤ m.most → now.taken + length later ≤ now.most
    few_after few = omega (arith, few, ap length parts, ap (λ (x : Seen). x.taken) after, ap (λ (x : Seen). x.most) after)

-- A turn of a process that is there, from what was read before it and written behind it.
module _ (m turning : Seen) (p : ℕ) (told : Told) (h : HasTurned m p turning told) (q : Process Standing Copy)
    (there : slice_get m.world.processes p ≡ Some q) where
  pub turn_is : (names : Naming) (places : List (Option Place)) (t : ℕ) (place : Option Place) (asked : Asked) (was : WorldNoted) → t ≡ turning.taken
      → place ≡ (word_reading m.code m.groups places).place q → asked ≡ asked_of (word_kind m.code m.groups) q → was ≡ noted_now m
      → turn_text names t p place asked was told (shown_now turning) ≡ turn_shown names places m p
  turn_is names places t place asked was at stands asks kept =
      (λ j. turn_text names ((at ∙ ap (λ (x : Seen). x.taken) h.machine) j) p (stands j) (asks j) (kept j) (h.told_is j) (ap shown_now h.machine j))
      ∙ ap (λ (o : Option (Process Standing Copy)). turn_of (word_reading m.code m.groups places) names (m.taken + 1) p o m.world) (sym there)

-- a turn of no process
pub no_turn : (m : Seen) (p : ℕ) → length m.world.processes ≤ p → (names : Naming) (places : List (Option Place)) → [] ≡ turn_shown names places m p
no_turn m p past names places =
    sym (ap (λ (o : Option (Process Standing Copy)). turn_of (word_reading m.code m.groups places) names (m.taken + 1) p o m.world)
    (slice_get_past m.world.processes p past))

-- as many names as processes
pub names_each : (m : Seen) (names : Names) → IsSteady m → NamesFit m.code names → length names.processes.items ≡ length m.world.processes
names_each m names h fit = sym (AllZip-long VariablesLie names.processes.items m.code.processes fit.processes) ∙ sym h.processes

-- what holds in any case holds after Ok
pub on_ok_any : {T E P : Type 0} (r : Result T E) → P → OnOk r P
on_ok_any (Ok v) h = h
on_ok_any (Err e) h = tt
