-- No code has a table.
use Rattle.rb_code.proofs.Executing.SoundRows.{jump_between_procedures_untabled, jump_into_a_loop_untabled, two_ways_back_untabled}
use Rattle.rb_code.proofs.rows.untabled_codes.Goals as goal

pub returns-clause-jump_between_procedures : goal.returns-clause-jump_between_procedures
returns-clause-jump_between_procedures c = jump_between_procedures_untabled

pub returns-clause-two_ways_back : goal.returns-clause-two_ways_back
returns-clause-two_ways_back c = two_ways_back_untabled

pub returns-clause-jump_into_a_loop : goal.returns-clause-jump_into_a_loop
returns-clause-jump_into_a_loop c = jump_into_a_loop_untabled
