use Rattle.rb_commands.proofs.Loaded.{code_names_fit, is_sound}
use Rattle.rb_commands.proofs.over_schedule.over_turns.Goals as goal

pub run_turns-requires-clause-sound : goal.run_turns-requires-clause-sound
run_turns-requires-clause-sound g c = is_sound c.requires.prepared.0 c.args.prepared.now c.requires.prepared.1

pub run_turns-requires-clause-fit : goal.run_turns-requires-clause-fit
run_turns-requires-clause-fit g c = code_names_fit c.requires.prepared.0 c.args.prepared.now c.requires.prepared.1
