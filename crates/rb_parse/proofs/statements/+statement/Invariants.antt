use Rattle.std.proofs.Common.{length, ◌≡◌, ◌≤◌, ◌*◌, ◌+◌}
use Rattle.rb_grammar.proofs.Pushing.{after_statements}
use Rattle.rb_grammar.proofs.Reaching.{Reaches}
use Rattle.rb_grammar.specs.Parts.{Part}
use Rattle.rb_grammar.specs.Plans.{Call}
use Rattle.rb_parse.proofs.Lists.{alternate_next}
use Rattle.rb_parse.proofs.statements.+statement.Given as goal

abbrev pub decreases-read_statements : goal.decreases-read_statements
decreases-read_statements l = 32 * length l.cursor.now.point.left + 20

abbrev pub decreases-read_statement : goal.decreases-read_statement
decreases-read_statement l = 32 * length l.cursor.now.point.left + 10

abbrev pub decreases-read_block : goal.decreases-read_block
decreases-read_block l = 32 * length l.cursor.now.point.left + 15

abbrev pub decreases-read_if : goal.decreases-read_if
decreases-read_if l = 32 * length l.cursor.now.point.left + 8

abbrev pub decreases-read_else : goal.decreases-read_else
decreases-read_else l = 32 * length l.cursor.now.point.left + 16

abbrev pub decreases-read_while : goal.decreases-read_while
decreases-read_while l = 32 * length l.cursor.now.point.left + 8

abbrev pub decreases-read_receive : goal.decreases-read_receive
decreases-read_receive l = 32 * length l.cursor.now.point.left + 8

abbrev pub decreases-read_receipt_end : goal.decreases-read_receipt_end
decreases-read_receipt_end l = 32 * length l.cursor.now.point.left + 16

abbrev pub decreases-read_recover : goal.decreases-read_recover
decreases-read_recover l = 32 * length l.cursor.now.point.left + 8

abbrev pub decreases-read_converse : goal.decreases-read_converse
decreases-read_converse l = 32 * length l.cursor.now.point.left + 8

abbrev pub decreases-read_recovery : goal.decreases-read_recovery
decreases-read_recovery l = 32 * length l.cursor.now.point.left + 7

abbrev pub decreases-read_alternates : goal.decreases-read_alternates
decreases-read_alternates l = 32 * length l.cursor.now.point.left + 18

abbrev pub decreases-read_alternate : goal.decreases-read_alternate
decreases-read_alternate l = 32 * length l.cursor.now.point.left + 17

-- those so far, and those to come, are those of the part
abbrev pub invariant-read_statements-statements : goal.invariant-read_statements-statements
invariant-read_statements-statements l = record {
  reached : Reaches (Part.Statements l.edition) l.fn.cursor.point
      (Call (Part.Statements l.edition) (after_statements l.statements.items)) l.cursor.point;
  ending : l.cursor.ending ≡ l.fn.cursor.ending;
  shorter : length l.cursor.point.left ≤ length l.fn.cursor.point.left;
}

abbrev pub decreases-read_statements-statements : goal.decreases-read_statements-statements
decreases-read_statements-statements l = length l.cursor.point.left

-- those so far, and those to come, are those of the part
abbrev pub invariant-read_alternates-alternates : goal.invariant-read_alternates-alternates
invariant-read_alternates-alternates l = record {
  reached : Reaches (Part.Alternates l.edition) l.fn.cursor.point
      (Call (Part.Alternate l.edition) (alternate_next l.edition l.alternates.items)) l.cursor.point;
  ending : l.cursor.ending ≡ l.fn.cursor.ending;
  shorter : length l.cursor.point.left ≤ length l.fn.cursor.point.left;
}

abbrev pub decreases-read_alternates-alternates : goal.decreases-read_alternates-alternates
decreases-read_alternates-alternates l = length l.cursor.point.left
