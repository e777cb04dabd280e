use Rattle.rb_commands.proofs.over_schedule.over_turns.Given as goal

abbrev pub ghosts-run_turns : goal.ghosts-run_turns
ghosts-run_turns g a = record { name = a.blank.name; parts = a.blank.parts }

abbrev pub ghosts-survive_turns : goal.ghosts-survive_turns
ghosts-survive_turns g a = record { name = a.blank.name; parts = a.blank.parts }

abbrev pub ghosts-survey_turns : goal.ghosts-survey_turns
ghosts-survey_turns g a = record { name = a.blank.name; parts = a.blank.parts }
