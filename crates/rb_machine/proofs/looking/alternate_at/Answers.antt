use Rattle.std.proofs.Common.{ap, ◌∙◌}
use Rattle.rb_world.specs.World.{Talk}
use Rattle.rb_machine.proofs.Looked.{talk_read}
use Rattle.rb_machine.proofs.looking.alternate_at.Goals as goal

pub returns : goal.returns
returns c t there = c.alternate.ensures ∙ ap (λ (talk : Talk). talk.alternate) (talk_read c.args.table.now c.args.conversation t there)
