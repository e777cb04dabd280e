use Rattle.std.proofs.Common.{refl}
use Rattle.rb_draft.specs.Output.{output}
use Rattle.rb_gen.proofs.statements.put_entry.Goals as goal

pub returns : goal.returns
returns c = (
  output c.put.new.draft,
  output c.put-2.new.draft,
  output c.put-3.new.draft,
  c.in_ok-put.ensures refl,
  c.in_ok-put-2.ensures refl,
  c.in_ok-restart.ensures,
  c.in_ok-put-3.ensures refl,
  c.in_ok-put-4.ensures refl,
)
