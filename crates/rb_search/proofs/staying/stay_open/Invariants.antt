use Rattle.std.proofs.Common.{option_map}
use Rattle.rb_code.specs.Instructions.Plain.{code as plain}
use Rattle.rb_search.specs.Found.{found}
use Rattle.rb_entries.specs.Parts.{loop_of}
use Rattle.rb_search.specs.Watched.{IsWatching}
use Rattle.rb_search.proofs.staying.stay_open.Given as goal

abbrev pub invariant-loop-at : goal.invariant-loop-at
invariant-loop-at l = IsWatching (plain l.code) (found l.lists l.cells) l.counter l.at (option_map loop_of l.watched)
