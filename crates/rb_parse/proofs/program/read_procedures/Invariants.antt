use Rattle.std.proofs.Common.{length, ◌≡◌, ◌≤◌}
use Rattle.rb_grammar.proofs.Pushing.{after_procedures}
use Rattle.rb_grammar.proofs.Reaching.{Reaches}
use Rattle.rb_grammar.specs.Parts.{Part}
use Rattle.rb_grammar.specs.Plans.{Call}
use Rattle.rb_parse.proofs.program.read_procedures.Given as goal

-- those so far, and those to come, are those of the part
abbrev pub invariant-procedures : goal.invariant-procedures
invariant-procedures l = record {
  reached : Reaches (Part.Procedures l.edition) l.fn.cursor.point
      (Call (Part.Procedures l.edition) (after_procedures l.procedures.items)) l.cursor.point;
  ending : l.cursor.ending ≡ l.fn.cursor.ending;
  shorter : length l.cursor.point.left ≤ length l.fn.cursor.point.left;
}

abbrev pub decreases-procedures : goal.decreases-procedures
decreases-procedures l = length l.cursor.point.left
