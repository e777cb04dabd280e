use Rattle.std.proofs.Common.{sym, ◌∙◌}
use Rattle.rb_lex.proofs.Steps.{passed, begins, HasRoom-after}
use Rattle.rb_lex.proofs.gap.pass_gap.Goals as goal

pub loop-left-preserved : goal.loop-left-preserved
loop-left-preserved c =
    rw c.place_after-place.ensures (
      λ edition. sym
          (passed edition c.loop-left.in_comment c.in-Pass.goes_on c.loop-left.place c.loop-left.left.now c.in-len1-up.len_at_least
          (sym c.in-Pass.ensures))
          ∙ c.loop-left.invariant.0 edition,
      HasRoom-after c.loop-left.place c.loop-left.left.now c.in-len1-up.len_at_least c.loop-left.invariant.1,
    )

pub returns-in-Begin-clause-passes : goal.returns-in-Begin-clause-passes
returns-in-Begin-clause-passes c =
    λ edition. sym (c.loop-left.invariant.0 edition)
    ∙ begins edition c.loop-left.in_comment c.loop-left.place c.loop-left.left.now c.in-len1-up.len_at_least (sym c.in-Begin.ensures)
