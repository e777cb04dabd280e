use Rattle.std.proofs.Common.{map}
use Rattle.rb_nest.specs.Groups.{membership}
use Rattle.rb_code.specs.Instructions.Plain.{block as plain_block, code as plain}
use Rattle.rb_code.specs.SoundCode.WellFormed.{IsBlock}
use Rattle.rb_code.specs.declared.code.BlockCode.{BlockCode}
use Rattle.rb_lists.proofs.Each.{tells_same}
use Rattle.rb_lists.proofs.blocks.are_blocks.Goals as goal

pub returns : goal.returns
returns c =
    tells_same (λ (block : BlockCode). IsBlock (plain c.args.code.now) (map membership c.args.groups.now) (plain_block block)) _ _ _
    c.deref.ensures.value c.all_allowed.ensures
