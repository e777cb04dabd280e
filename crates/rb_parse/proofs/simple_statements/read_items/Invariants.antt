use Rattle.std.proofs.Common.{length, ◌≡◌, ◌≤◌}
use Rattle.rb_grammar.proofs.Reaching.{Reaches}
use Rattle.rb_grammar.specs.Parts.{Part}
use Rattle.rb_grammar.specs.Plans.{Call}
use Rattle.rb_parse.proofs.Lists.{item_next}
use Rattle.rb_parse.proofs.simple_statements.read_items.Given as goal

-- those so far, and those to come, are those of the part
abbrev pub invariant-items : goal.invariant-items
invariant-items l = record {
  reached : Reaches Part.Items l.fn.cursor.point (Call Part.Item (item_next l.items.items)) l.cursor.point;
  ending : l.cursor.ending ≡ l.fn.cursor.ending;
  shorter : length l.cursor.point.left ≤ length l.fn.cursor.point.left;
}

abbrev pub decreases-items : goal.decreases-items
decreases-items l = length l.cursor.point.left
