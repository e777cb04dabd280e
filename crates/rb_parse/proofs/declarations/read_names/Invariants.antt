use Rattle.std.proofs.Common.{length, ◌≡◌, ◌≤◌}
use Rattle.rb_grammar.proofs.Reaching.{Reaches}
use Rattle.rb_grammar.specs.Parts.{Part}
use Rattle.rb_grammar.specs.declared.terminal.Terminal.TheVariants as terminals
use Rattle.rb_grammar.specs.ExpressionTable.{name_of}
use Rattle.rb_grammar.specs.Plans.{Token}
use Rattle.rb_parse.proofs.Lists.{name_next}
use Rattle.rb_parse.proofs.declarations.read_names.Given as goal

-- those so far, and those to come, are those of the part
abbrev pub invariant-names : goal.invariant-names
invariant-names l = record {
  reached : Reaches Part.Names l.fn.cursor.point (Token terminals.Name (λ seen. name_next l.names.items (name_of seen))) l.cursor.point;
  ending : l.cursor.ending ≡ l.fn.cursor.ending;
  shorter : length l.cursor.point.left ≤ length l.fn.cursor.point.left;
}

abbrev pub decreases-names : goal.decreases-names
decreases-names l = length l.cursor.point.left
