use Rattle.std.proofs.Common.{length, ◌≡◌, ◌≤◌}
use Rattle.rb_grammar.proofs.Reaching.{Reaches}
use Rattle.rb_grammar.specs.Parts.{Part}
use Rattle.rb_grammar.specs.Plans.{Call}
use Rattle.rb_parse.proofs.Lists.{value_next}
use Rattle.rb_parse.proofs.simple_statements.read_expressions.Given as goal

-- those so far, and those to come, are those of the part
abbrev pub invariant-values : goal.invariant-values
invariant-values l = record {
  reached : Reaches Part.Expressions l.fn.cursor.point (Call Part.Expression (value_next l.values.items)) l.cursor.point;
  ending : l.cursor.ending ≡ l.fn.cursor.ending;
  shorter : length l.cursor.point.left ≤ length l.fn.cursor.point.left;
}

abbrev pub decreases-values : goal.decreases-values
decreases-values l = length l.cursor.point.left
