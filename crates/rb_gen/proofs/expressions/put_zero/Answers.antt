use Rattle.std.proofs.Common.{refl}
use Rattle.rb_draft.specs.Output.{output}
use Rattle.rb_gen.proofs.expressions.put_zero.Goals as goal

pub returns : goal.returns
returns c = (
  c.in_ok-skip.skip,
  c.in_ok-end.end,
  output c.leave.new.draft,
  output c.put.new.draft,
  c.in_ok-skip.ensures,
  c.in_ok-zero.ensures,
  c.in_ok-put.ensures refl,
  c.in_ok-end.ensures,
  c.patch.ensures,
)
