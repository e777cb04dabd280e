use Rattle.std.proofs.lemmas.Grind.{common_steps}
use Rattle.std.proofs.Common.{◌∙◌, arith, length-take, length-drop}
use Rattle.rb_lex.proofs.Choosing.{text_on}
use Rattle.rb_lex.proofs.texts.text_cut.Goals as goal

pub loop-rest-preserved : goal.loop-rest-preserved
loop-rest-preserved c = (
  text_on c.loop-rest.passed c.loop-rest.rest.now c.in-len1-up.len_at_least c.if-b-eq34.false c.if-b-eq10.false c.if-b-eq13.false
      c.if-passed-ge-LONGEST_TEXT.false c.if-not-is_printable.ensures
      ∙ c.loop-rest.invariant.0,
  simp (length-take, length-drop) (omega (arith, c.loop-rest.invariant.1)),
  omega arith,
)

pub returns-clause-value : goal.returns-clause-value
returns-clause-value c = grind (arith, common_steps)

pub returns-then-passed-ge-LONGEST_TEXT-clause-within : goal.returns-then-passed-ge-LONGEST_TEXT-clause-within
returns-then-passed-ge-LONGEST_TEXT-clause-within c = grind (arith, common_steps)
