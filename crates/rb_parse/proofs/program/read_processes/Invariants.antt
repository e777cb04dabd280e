use Rattle.std.proofs.Common.{length, ◌≡◌, ◌≤◌}
use Rattle.rb_grammar.proofs.Reaching.{Reaches}
use Rattle.rb_grammar.specs.Parts.{Part}
use Rattle.rb_grammar.specs.Plans.{Call}
use Rattle.rb_parse.proofs.Lists.{process_next}
use Rattle.rb_parse.proofs.program.read_processes.Given as goal

-- those so far, and those to come, are those of the part
abbrev pub invariant-processes : goal.invariant-processes
invariant-processes l = record {
  reached : Reaches (Part.Processes l.edition) l.fn.cursor.point (Call (Part.Process l.edition) (process_next l.edition l.processes.items)) l.cursor.point;
  ending : l.cursor.ending ≡ l.fn.cursor.ending;
  shorter : length l.cursor.point.left ≤ length l.fn.cursor.point.left;
}

abbrev pub decreases-processes : goal.decreases-processes
decreases-processes l = length l.cursor.point.left
