use Rattle.std.proofs.Common.{length, ◌≡◌, ◌≤◌}
use Rattle.rb_grammar.proofs.Pushing.{after_connections}
use Rattle.rb_grammar.proofs.Reaching.{Reaches}
use Rattle.rb_grammar.specs.Parts.{Part}
use Rattle.rb_grammar.specs.Plans.{Call}
use Rattle.rb_parse.proofs.connections.read_connections.Given as goal

-- those so far, and those to come, are those of the part
abbrev pub invariant-connections : goal.invariant-connections
invariant-connections l = record {
  reached : Reaches Part.Connections l.fn.cursor.point (Call Part.Connections
      (after_connections l.channels.items l.conversations.items)) l.cursor.point;
  ending : l.cursor.ending ≡ l.fn.cursor.ending;
  shorter : length l.cursor.point.left ≤ length l.fn.cursor.point.left;
}

abbrev pub decreases-connections : goal.decreases-connections
decreases-connections l = length l.cursor.point.left
