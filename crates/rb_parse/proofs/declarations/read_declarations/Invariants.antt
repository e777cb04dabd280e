use Rattle.std.proofs.Common.{◌≡◌, ◌≤◌, length}
use Rattle.rb_grammar.specs.Parts.{Part}
use Rattle.rb_grammar.specs.Plans.{Call}
use Rattle.rb_grammar.proofs.Pushing.{after_vars}
use Rattle.rb_grammar.proofs.Reaching.{Reaches}
use Rattle.rb_parse.proofs.declarations.read_declarations.Given as goal

-- those so far, and those to come, are those of the part
abbrev pub invariant-vars : goal.invariant-vars
invariant-vars l = record {
  reached : Reaches Part.Declarations l.fn.cursor.point (Call Part.Declarations (after_vars l.vars.items)) l.cursor.point;
  ending : l.cursor.ending ≡ l.fn.cursor.ending;
  shorter : length l.cursor.point.left ≤ length l.fn.cursor.point.left;
}

abbrev pub decreases-vars : goal.decreases-vars
decreases-vars l = length l.cursor.point.left
