-- Each code has its table.
use Rattle.rb_code.proofs.Executing.SoundRows.{alternate_before_its_start_tabled, message_behind_fail_tabled, small_loop_tabled}
use Rattle.rb_code.proofs.Executing.OverlappingLoops.{overlapping_loops_tabled}
use Rattle.rb_code.proofs.rows.tabled_codes.Goals as goal

pub returns-clause-small_loop : goal.returns-clause-small_loop
returns-clause-small_loop c = small_loop_tabled

pub returns-clause-overlapping_loops : goal.returns-clause-overlapping_loops
returns-clause-overlapping_loops c = overlapping_loops_tabled

pub returns-clause-message_behind_fail : goal.returns-clause-message_behind_fail
returns-clause-message_behind_fail c = message_behind_fail_tabled

pub returns-clause-alternate_before_its_start : goal.returns-clause-alternate_before_its_start
returns-clause-alternate_before_its_start c = alternate_before_its_start_tabled
