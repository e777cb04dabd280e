use Rattle.rb_plain.proofs.Unkept.{unnoted_tell_same}
use Rattle.rb_plain.proofs.laws.unnoted_turns_tell_same.Goals as goal

pub returns : goal.returns
returns c = unnoted_tell_same
