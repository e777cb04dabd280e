-- How many lines of each kind a run prints before its `end` line.
use Rattle.std.specs.Prelude.{◌≡◌, ◌<◌, ◌+◌, ℕ, Bool, true, false, List, length, count_by, sum_by}
use Rattle.rb_base.specs.declared.event.Event.{Event}
use Rattle.rb_base.specs.declared.event.Event.TheVariants.{Reject, RejectAll, Error, Pass, Done}
use Rattle.rb_meaning.specs.Laws.{is_rejection}
use Rattle.rb_world.specs.Text.{is_done}
use Rattle.rb_world.specs.Turn.{Told}
use Rattle.rb_run.specs.declared.counting.Counts.{Counts}

-- released lines, rejections, passes of a test line, errors, and ends of processes
pub record Counted : Type 0 where
  pub out : ℕ
  pub reject : ℕ
  pub pass : ℕ
  pub error : ℕ
  pub done : ℕ

abbrev pub counts : Counts → Counted
counts c = record { out = c.out; reject = c.reject; pass = c.pass; error = c.error; done = c.done }

-- an event tells that a test line was passed
abbrev pub is_pass : Event → Bool
is_pass (Reject p line a cause) = false
is_pass (RejectAll c a p cause) = false
is_pass (Error p cause) = false
is_pass (Pass c a) = true
is_pass (Done p) = false

-- or that a process has failed
abbrev pub is_error : Event → Bool
is_error (Reject p line a cause) = false
is_error (RejectAll c a p cause) = false
is_error (Error p cause) = true
is_error (Pass c a) = false
is_error (Done p) = false

-- of what was told, how many events pass a test
abbrev pub events_told : (Event → Bool) → List Told → ℕ
events_told is all = sum_by (λ one. count_by is one.events) all

-- and how many lines were released
abbrev pub lines_told : List Told → ℕ
lines_told all = sum_by (λ one. sum_by length one.released) all

-- each event is one line, and so is each released line
abbrev pub told_counts : List Told → Counted
told_counts all = record {
  out = lines_told all;
  reject = events_told is_rejection all;
  pass = events_told is_pass all;
  error = events_told is_error all;
  done = events_told is_done all;
}

-- nothing was counted
abbrev pub nothing_counted : Counted
nothing_counted = record { out = 0; reject = 0; pass = 0; error = 0; done = 0 }

-- what was counted in two stretches of a run
abbrev pub both_counted : Counted → Counted → Counted
both_counted a b = record {
  out = a.out + b.out;
  reject = a.reject + b.reject;
  pass = a.pass + b.pass;
  error = a.error + b.error;
  done = a.done + b.done;
}

-- each count is below a number
pub record AreBelow (n : ℕ) (c : Counts) : Type 0 where
  pub out : c.out < n
  pub reject : c.reject < n
  pub pass : c.pass < n
  pub error : c.error < n
  pub done : c.done < n

-- counts have risen by so many released lines, and by the events of a list
pub record IsMore (old : Counts) (released : ℕ) (events : List Event) (new : Counts) : Type 0 where
  pub out : new.out ≡ old.out + released
  pub reject : new.reject ≡ old.reject + count_by is_rejection events
  pub pass : new.pass ≡ old.pass + count_by is_pass events
  pub error : new.error ≡ old.error + count_by is_error events
  pub done : new.done ≡ old.done + count_by is_done events
