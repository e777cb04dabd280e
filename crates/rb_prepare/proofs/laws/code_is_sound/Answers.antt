use Rattle.rb_prepare.proofs.AcceptedSources.{accepted_code_is_sound}
use Rattle.rb_prepare.proofs.laws.code_is_sound.Goals as goal

pub returns : goal.returns
returns c = accepted_code_is_sound
