-- What is written of the turns of a machine that are left, and how one turn more leaves it.
use Rattle.std.proofs.Common.{◌≡◌, ℕ, ◌+◌, List, [], ◌∷◌, ◌++◌, length, replicate, Option, Result, Ok, Err, IsErr, sym, ap, ◌∙◌, arith}
use Rattle.std.proofs.lemmas.List.{length-map}
use Rattle.rb_outside.specs.declared.Failed.{Failed}
use Rattle.rb_outside.specs.Outside.{Faults}
use Rattle.rb_outside.specs.Puts.{Puts}
use Rattle.rb_world.specs.Kind.{Kind}
use Rattle.rb_world.specs.World.{World}
use Rattle.rb_world.specs.Text.{Naming, all_told, told_text}
use Rattle.rb_world.specs.Turn.{Told, run, turn}
use Rattle.rb_world.proofs.Keeping.StandingFacts.{run-size}
use Rattle.rb_code.specs.WordMachine.WordKind.{word_kind}
use Rattle.rb_machine.specs.Machine.{HasTurned, Seen, turned}
use Rattle.rb_run.specs.Running.{NoneWaits, ran}
use Rattle.rb_run.proofs.Completes.{Remains, remains_same, remains_less, remains_none, remains_stopped}

-- the text of the turns that are left
abbrev pub turns_left : Naming → Seen → List ℕ → List ℕ
turns_left names m turns = all_told names (m.taken + 1) (run (word_kind m.code m.groups) (m.taken + 1) turns m.world).1

-- a machine after a turn of which all lines were written
abbrev pub after_turn : Seen → ℕ → Seen
after_turn m p = record m { world = (turned m p).0; taken = m.taken + 1 }

-- a turn changes the number of processes no more than it does that of their lines
pub same_processes : {S C M : Type 0} (k : Kind S C M) (t p : ℕ) (w : World S C M) → length (turn k t p w).0.processes ≡ length w.processes
same_processes k t p w = (run-size k t (p ∷ []) w).of_processes

pub released_each : (m : Seen) (p : ℕ) → length (turned m p).1.released ≡ length m.world.processes
released_each m p =
    length-map _ _ ∙ (sym (length-map _ _) ∙ same_processes (word_kind m.code m.groups) (m.taken + 1) p m.world)

pub turned_each : (m : Seen) (p : ℕ) → length (turned m p).0.processes ≡ length m.world.processes
turned_each m p = same_processes (word_kind m.code m.groups) (m.taken + 1) p m.world

-- lines alone are taken from a machine while they are written
pub same_but_lines : (m n : Seen) → record n { waiting = [] } ≡ record m { waiting = [] } → n ≡ record m { waiting = n.waiting }
same_but_lines m n e = ap (λ (x : Seen). record x { waiting = n.waiting }) e

module _ (m turning now : Seen) (p : ℕ) (told : Told) (h : HasTurned m p turning told) (waits : NoneWaits m)
    (none : now.waiting ≡ replicate (length turning.waiting) []) (rest : record now { waiting = [] } ≡ record turning { waiting = [] }) where
  lines_each : length turning.waiting ≡ length m.world.processes
  lines_each = ap (λ (x : Seen). length x.waiting) h.machine ∙ released_each m p

  none_now : now.waiting ≡ m.waiting
  none_now = none ∙ ap (λ n. replicate n []) lines_each ∙ sym waits

  pub is_after : now ≡ after_turn m p
  is_after =
      same_but_lines turning now rest ∙ ap (λ (x : Seen). record x { waiting = now.waiting }) h.machine
      ∙ ap (λ (w : List (List (List ℕ))). record (after_turn m p) { waiting = w }) none_now

  pub processes_now : length now.world.processes ≡ length m.world.processes
  processes_now = ap (λ (x : Seen). length x.world.processes) is_after ∙ same_processes (word_kind m.code m.groups) (m.taken + 1) p m.world

  pub none_waits : NoneWaits now
  none_waits = none_now ∙ waits ∙ ap (λ n. replicate n []) (sym processes_now)

  module _ (left later : List ℕ) (parts : left ≡ p ∷ later) where
    pub led_on : ran now later ≡ ran m left
    led_on = ap (λ (x : Seen). ran x later) is_after ∙ to_front ∙ ap (ran m) (sym parts)
      where
        to_front : ran (after_turn m p) later ≡ ran m (p ∷ later)
        to_front = ap (λ n. record (ran (after_turn m p) later) { taken = n }) (omega arith)

    names_text : (names : Naming) (t : ℕ) → t ≡ turning.taken → turns_left names m left ≡ told_text names t told ++ turns_left names now later
    names_text names t e =
        ap (turns_left names m) parts
        ∙ ap (λ one. told_text names (m.taken + 1) one ++ turns_left names (after_turn m p) later) (sym h.told_is)
        ∙ ap (λ n. told_text names n told ++ turns_left names (after_turn m p) later) (sym (e ∙ ap (λ (x : Seen). x.taken) h.machine))
        ∙ ap (λ (x : Seen). told_text names t told ++ turns_left names x later) (sym is_after)

    -- the lines of one turn more were written
    pub written_on : (names : Naming) (t : ℕ) → t ≡ turning.taken → (whole : List ℕ) (w0 w1 w2 : Option (List ℕ)) (f0 f1 f2 : Faults)
        → Remains (turns_left names m left) whole w0 w1 f0 f1
        → Puts {T = Unit {0}} {E = Failed} (told_text names t told) w1 w2 f1 f2 (Ok tt)
        → Remains (turns_left names now later) whole w0 w2 f0 f2
    written_on names t e whole w0 w1 w2 f0 f1 f2 r q =
        remains_less (told_text names t told) (turns_left names now later) whole w0 w1 w2 f0 f1 f2
        (remains_same (turns_left names m left) (told_text names t told ++ turns_left names now later) whole w0 w1 f0 f1 (names_text names t e) r) q

-- a write of a turn's lines failed, and with it the whole
pub stopped_in : {D : Type 0} (m turning : Seen) (p : ℕ) (told : Told) → HasTurned m p turning told → (left later : List ℕ) → left ≡ p ∷ later
    → (names : Naming) (t : ℕ) → t ≡ turning.taken → (whole : List ℕ) (w0 w1 w2 : Option (List ℕ)) (f0 f1 f2 : Faults) (e : Failed)
    (r : Result (Unit {0}) D) → IsErr r → Remains (turns_left names m left) whole w0 w1 f0 f1
    → Puts {T = Unit {0}} {E = Failed} (told_text names t told) w1 w2 f1 f2 (Err e) → Puts whole w0 w2 f0 f2 r
stopped_in m turning p told h left later parts names t e whole w0 w1 w2 f0 f1 f2 failed r is_err remains q =
    remains_stopped (told_text names t told) (turns_left names (after_turn m p) later) whole w0 w1 w2 f0 f1 f2 failed r is_err
    (remains_same (turns_left names m left) (told_text names t told ++ turns_left names (after_turn m p) later) whole w0 w1 f0 f1
    (ap (turns_left names m) parts
    ∙ ap (λ one. told_text names (m.taken + 1) one ++ turns_left names (after_turn m p) later) (sym h.told_is)
    ∙ ap (λ n. told_text names n told ++ turns_left names (after_turn m p) later) (sym (e ∙ ap (λ (x : Seen). x.taken) h.machine)))
    remains) q

-- no turn is left
pub all_written : (names : Naming) (m : Seen) (left : List ℕ) → left ≡ [] → (whole : List ℕ) (w0 w1 : Option (List ℕ)) (f0 f1 : Faults)
    → Remains (turns_left names m left) whole w0 w1 f0 f1 → Puts {T = Unit {0}} {E = Failed} whole w0 w1 f0 f1 (Ok tt)
all_written names m left e whole w0 w1 f0 f1 r =
    remains_none whole w0 w1 f0 f1 (remains_same (turns_left names m left) [] whole w0 w1 f0 f1 (ap (turns_left names m) e) r)

pub ran_all : (m : Seen) (left : List ℕ) → left ≡ [] → ran m left ≡ m
ran_all m left e = ap (ran m) e ∙ ap (λ n. record m { taken = n }) (omega arith)
