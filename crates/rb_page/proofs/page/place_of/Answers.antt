use Rattle.std.proofs.Common.{sym, ◌∙◌, arith, length-take, length-drop}
use Rattle.rb_page.proofs.Places.{counted_past}
use Rattle.rb_page.proofs.page.place_of.Goals as goal

pub loop-rest-preserved : goal.loop-rest-preserved
loop-rest-preserved c = (
  c.loop-rest.invariant.0
      ∙ sym (counted_past c.args.mark.now c.loop-rest.rest.now c.loop-rest.at c.in-len1-up.len_at_least c.if-starts_with.ensures.value),
  simp (length-take, length-drop) (omega (arith, c.loop-rest.invariant.1)),
)
