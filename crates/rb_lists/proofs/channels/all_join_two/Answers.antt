use Rattle.rb_code.specs.Instructions.Plain.{channel as plain_channel, code as plain}
use Rattle.rb_code.specs.SoundCode.WellFormed.{JoinsTwo}
use Rattle.rb_code.specs.declared.code.ChannelCode.{ChannelCode}
use Rattle.rb_lists.proofs.Each.{tells_same}
use Rattle.rb_lists.proofs.channels.all_join_two.Goals as goal

pub returns : goal.returns
returns c =
    tells_same (λ (channel : ChannelCode). JoinsTwo (plain c.args.code.now) (plain_channel channel)) _ _ _ c.deref.ensures.value
    c.all_allowed.ensures
