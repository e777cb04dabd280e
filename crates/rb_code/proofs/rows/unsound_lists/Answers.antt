-- Each point by itself.
use Rattle.rb_code.proofs.Executing.SoundRows.{entry_is_jumped_over, miscounted_alternates, one_name_for_two, reserved_names, third_counter}
use Rattle.rb_code.proofs.rows.unsound_lists.Goals as goal

pub returns-clause-unreached : goal.returns-clause-unreached
returns-clause-unreached c = entry_is_jumped_over

pub returns-clause-miscounted : goal.returns-clause-miscounted
returns-clause-miscounted c = miscounted_alternates

pub returns-clause-reserved : goal.returns-clause-reserved
returns-clause-reserved c = reserved_names

pub returns-clause-one_name : goal.returns-clause-one_name
returns-clause-one_name c = one_name_for_two

pub returns-clause-third_counter : goal.returns-clause-third_counter
returns-clause-third_counter c = third_counter
