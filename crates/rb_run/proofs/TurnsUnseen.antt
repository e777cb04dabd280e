-- Turns of which nothing is written: their released lines are forgotten, and they are counted.
use Rattle.std.proofs.Common.{◌≡◌, ◌<◌, ◌≤◌, ◌+◌, ◌*◌, ◌^◌, ℕ, suc, Bool, List, [], ◌∷◌, length, count_by, replicate, sum_by, sym, ap, ◌∙◌, arith}
use Rattle.std.proofs.lemmas.List.Sums.{count_by-le-length, sum_by-cons}
use Rattle.rb_base.specs.declared.event.Event.{Event}
use Rattle.rb_meaning.specs.Laws.{is_rejection}
use Rattle.rb_world.specs.Text.{is_done}
use Rattle.rb_world.specs.Turn.{Told, run}
use Rattle.rb_code.specs.WordMachine.WordKind.{word_kind}
use Rattle.rb_machine.specs.Machine.{HasTurned, Seen, opening_seen}
use Rattle.rb_machine.proofs.Knowing.Sizes.{opening-processes}
use Rattle.rb_run.specs.Counting.{AreBelow, Counted, IsMore, both_counted, counts, events_told, is_error, is_pass, lines_told, told_counts}
use Rattle.rb_run.specs.Running.{NoneWaits}
use Rattle.rb_run.specs.declared.counting.Counts.{Counts}
use Rattle.rb_run.proofs.TurnsTaken.{after_turn, is_after}

-- what is told of the turns that are left
abbrev pub told_left : Seen → List ℕ → List Told
told_left m turns = (run (word_kind m.code m.groups) (m.taken + 1) turns m.world).1

-- counts are equal if each is
same_counted : (a b : Counted) → a.out ≡ b.out → a.reject ≡ b.reject → a.pass ≡ b.pass → a.error ≡ b.error → a.done ≡ b.done → a ≡ b
same_counted a b out reject pass error done =
    ap (λ n. record { out = n; reject = a.reject; pass = a.pass; error = a.error; done = a.done }) out
    ∙ (ap (λ n. record { out = b.out; reject = n; pass = a.pass; error = a.error; done = a.done }) reject
    ∙ (ap (λ n. record { out = b.out; reject = b.reject; pass = n; error = a.error; done = a.done }) pass
    ∙ (ap (λ n. record { out = b.out; reject = b.reject; pass = b.pass; error = n; done = a.done }) error
    ∙ ap (λ n. record { out = b.out; reject = b.reject; pass = b.pass; error = b.error; done = n }) done)))

-- the events of a first turn that pass a test, and those of the others
events_first : (test : Event → Bool) (one : Told) (all : List Told) → events_told test (one ∷ all) ≡ count_by test one.events + events_told test all
events_first test one all = sum_by-cons (λ (told : Told). count_by test told.events) one all

lines_first : (one : Told) (all : List Told) → lines_told (one ∷ all) ≡ sum_by length one.released + lines_told all
lines_first one all = sum_by-cons (λ (told : Told). sum_by length told.released) one all

-- counts that have risen by a turn, with those of the turns behind it, are those of all
pub counted_with : (old now : Counts) (n : ℕ) (one : Told) (all : List Told) → IsMore old n one.events now → n ≡ sum_by length one.released
    → both_counted (counts now) (told_counts all) ≡ both_counted (counts old) (told_counts (one ∷ all))
counted_with old now n one all more lines =
    same_counted (both_counted (counts now) (told_counts all)) (both_counted (counts old) (told_counts (one ∷ all)))
    (omega (arith, more.out, lines, lines_first one all))
    (omega (arith, more.reject, events_first is_rejection one all))
    (omega (arith, more.pass, events_first is_pass one all))
    (omega (arith, more.error, events_first is_error one all))
    (omega (arith, more.done, events_first is_done one all))

-- with nothing behind them
pub counted_alone : (c : Counted) → both_counted c (told_counts []) ≡ c
counted_alone c = same_counted (both_counted c (told_counts [])) c (omega arith) (omega arith) (omega arith) (omega arith) (omega arith)

-- so many turns are left room for
pub record HasRoom (turns : ℕ) (c : Counts) : Type 0 where
  pub out : c.out + turns * 4194304 < 2 ^ 63
  pub reject : c.reject + turns * 4194304 < 2 ^ 63
  pub pass : c.pass + turns * 4194304 < 2 ^ 63
  pub error : c.error + turns * 4194304 < 2 ^ 63
  pub done : c.done + turns * 4194304 < 2 ^ 63

pub room_first : (turns : ℕ) (c : Counts) → turns < 2 ^ 32 → AreBelow (2 ^ 32) c → HasRoom turns c
room_first turns c few below = record {
  out = omega (arith, below.out);
  reject = omega (arith, below.reject);
  pass = omega (arith, below.pass);
  error = omega (arith, below.error);
  done = omega (arith, below.done);
}

pub room_after : (left later : List ℕ) (p : ℕ) (old now : Counts) (n : ℕ) (events : List Event) → left ≡ p ∷ later → HasRoom (length left) old
    → IsMore old n events now → n ≤ 64 * 65536 → length events ≤ 96 → HasRoom (length later) now
room_after left later p old now n events parts room more few short =
    let long : length left ≡ suc (length later) = ap length parts in
    record {
      out = omega (arith, room.out, more.out);
      reject = omega (arith, room.reject, more.reject, count_by-le-length is_rejection events);
      pass = omega (arith, room.pass, more.pass, count_by-le-length is_pass events);
      error = omega (arith, room.error, more.error, count_by-le-length is_error events);
      done = omega (arith, room.done, more.done, count_by-le-length is_done events);
    }

module _ (m turning now : Seen) (p : ℕ) (told : Told) (h : HasTurned m p turning told) (waits : NoneWaits m)
    (dropped : now ≡ record turning { waiting = replicate (length turning.waiting) [] }) where
  pub none_waiting : now.waiting ≡ replicate (length turning.waiting) []
  none_waiting = ap (λ (x : Seen). x.waiting) dropped

  pub rest_same : record now { waiting = [] } ≡ record turning { waiting = [] }
  rest_same = ap (λ (x : Seen). record x { waiting = [] }) dropped

  -- what was told of the turn, and what is told of those behind it
  told_on : (left later : List ℕ) → left ≡ p ∷ later → told_left m left ≡ told ∷ told_left now later
  told_on left later parts =
      ap (told_left m) parts
      ∙ (ap (λ one. one ∷ told_left (after_turn m p) later) (sym h.told_is)
      ∙ ap (λ (x : Seen). told ∷ told_left x later) (sym (is_after m turning now p told h waits none_waiting rest_same)))

  -- counts that have risen by the turn
  pub counted_on : (left later : List ℕ) → left ≡ p ∷ later → (old new : Counts) (n : ℕ) → IsMore old n told.events new
      → n ≡ sum_by length told.released
      → both_counted (counts new) (told_counts (told_left now later)) ≡ both_counted (counts old) (told_counts (told_left m left))
  counted_on left later parts old new n more lines =
      counted_with old new n told (told_left now later) more lines
      ∙ ap (λ (all : List Told). both_counted (counts old) (told_counts all)) (sym (told_on left later parts))

-- no turn is left to count
pub counted_all : (m : Seen) (left : List ℕ) → left ≡ [] → (c : Counts) (whole : Counted)
    → both_counted (counts c) (told_counts (told_left m left)) ≡ whole
    → counts c ≡ whole
counted_all m left none c whole so_far =
    sym (counted_alone (counts c))
    ∙ (ap (λ (turns : List ℕ). both_counted (counts c) (told_counts (told_left m turns))) (sym none) ∙ so_far)

-- no line of a machine waits that was just loaded
pub none_waits_first : (old : Seen) (keeps : Bool) → old ≡ opening_seen old.code old.groups keeps old.most → NoneWaits old
none_waits_first old keeps fresh =
    let each : length old.world.processes ≡ length old.code.processes =
    ap (λ (m : Seen). length m.world.processes) fresh ∙ opening-processes old.code old.groups in
    ap (λ (m : Seen). m.waiting) fresh ∙ ap (λ n. replicate n []) (sym each)
