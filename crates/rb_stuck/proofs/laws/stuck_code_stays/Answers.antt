use Rattle.std.proofs.Common.{◌+◌, length}
use Rattle.rb_code.specs.WordMachine.WordKind.{word_kind}
use Rattle.rb_code.specs.WordMachine.WordRun.{word_run}
use Rattle.rb_stuck.proofs.Still.Stays.{stuck_stays}
use Rattle.rb_stuck.proofs.WordsFreed.{word_runs_freed}
use Rattle.rb_stuck.proofs.laws.stuck_code_stays.Goals as goal

pub returns : goal.returns
returns c = λ code groups counts turns more sound stuck.
    stuck_stays (word_kind code groups) (length turns + 1) (word_run code groups turns).0 stuck (word_runs_freed code groups counts sound turns)
    (length turns + 1) more
