-- What the parts of a process stand for.
use Rattle.std.specs.Prelude.{ℕ, Bool}
use Rattle.rb_code.specs.WordMachine.Turn.{Standing}
use Rattle.rb_recoverable.specs.Contents.{Contents}
use Rattle.rb_proc.specs.Process.{Seen}
use Rattle.rb_proc.specs.Statuses.{status_of}
use Rattle.rb_proc.specs.declared.answers.ProcessStatus.{ProcessStatus}

abbrev pub standing : Contents → ℕ → ℕ → ℕ → Standing
standing r process at last_kept = record {
  process = process;
  at = at;
  words = r.words;
  calls = r.calls;
  last_kept = last_kept;
  held = r.held;
  touched = r.touched;
}

abbrev pub seen : Contents → ℕ → ℕ → ℕ → Bool → ProcessStatus → Seen
seen r process at last_kept at_line status = record {
  process = record { state = standing r process at last_kept; levels = r.levels; at_line = at_line; status = status_of status };
  waiting = r.waiting;
}
