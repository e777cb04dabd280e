use Rattle.std.proofs.Common.{length, ◌≡◌, ◌≤◌, ◌*◌, ◌+◌}
use Rattle.rb_parse.proofs.Measures.{chain_rank, operand_rank}
use Rattle.rb_grammar.proofs.Pushing.{after_links}
use Rattle.rb_grammar.proofs.Reaching.{Reaches}
use Rattle.rb_grammar.specs.Parts.{Part}
use Rattle.rb_grammar.specs.Plans.{Call}
use Rattle.rb_parse.proofs.expressions.+expression.Given as goal

abbrev pub decreases-read_expression : goal.decreases-read_expression
decreases-read_expression l = 40 * length l.cursor.now.point.left + 32

abbrev pub decreases-read_quantified : goal.decreases-read_quantified
decreases-read_quantified l = 40 * length l.cursor.now.point.left + 31

abbrev pub decreases-read_boxed : goal.decreases-read_boxed
decreases-read_boxed l = 40 * length l.cursor.now.point.left + 31

abbrev pub decreases-read_chain : goal.decreases-read_chain
decreases-read_chain l = 40 * length l.cursor.now.point.left + chain_rank l.level

abbrev pub decreases-read_links : goal.decreases-read_links
decreases-read_links l = 40 * length l.cursor.now.point.left + 30

abbrev pub decreases-read_operand : goal.decreases-read_operand
decreases-read_operand l = 40 * length l.cursor.now.point.left + operand_rank l.level

abbrev pub decreases-read_negation : goal.decreases-read_negation
decreases-read_negation l = 40 * length l.cursor.now.point.left + 26

abbrev pub decreases-read_comparison : goal.decreases-read_comparison
decreases-read_comparison l = 40 * length l.cursor.now.point.left + 25

abbrev pub decreases-read_compared : goal.decreases-read_compared
decreases-read_compared l = 40 * length l.cursor.now.point.left + 31

abbrev pub decreases-read_right : goal.decreases-read_right
decreases-read_right l = 40 * length l.cursor.now.point.left + 30

abbrev pub decreases-read_factor : goal.decreases-read_factor
decreases-read_factor l = 40 * length l.cursor.now.point.left + 20

abbrev pub decreases-read_atom : goal.decreases-read_atom
decreases-read_atom l = 40 * length l.cursor.now.point.left + 19

abbrev pub decreases-read_prior : goal.decreases-read_prior
decreases-read_prior l = 40 * length l.cursor.now.point.left + 18

abbrev pub decreases-read_brackets : goal.decreases-read_brackets
decreases-read_brackets l = 40 * length l.cursor.now.point.left + 18

abbrev pub decreases-read_place : goal.decreases-read_place
decreases-read_place l = 40 * length l.cursor.now.point.left + 17

abbrev pub decreases-read_subscript : goal.decreases-read_subscript
decreases-read_subscript l = 40 * length l.cursor.now.point.left + 16

-- the links so far, and those to come, are those of the part
abbrev pub invariant-read_links-links : goal.invariant-read_links-links
invariant-read_links-links l = record {
  reached : Reaches (Part.Links l.level) l.fn.cursor.point (Call (Part.Links l.level) (after_links l.links.items)) l.cursor.point;
  ending : l.cursor.ending ≡ l.fn.cursor.ending;
  shorter : length l.cursor.point.left ≤ length l.fn.cursor.point.left;
}

abbrev pub decreases-read_links-links : goal.decreases-read_links-links
decreases-read_links-links l = length l.cursor.point.left
