use Rattle.std.proofs.Common.{subst}
use Rattle.rb_code.specs.Instructions.Plain.{code}
use Rattle.rb_code.specs.SoundCode.WellFormed.{IsSound}
use Rattle.rb_conv.specs.Conversations.{memberships, opening}
use Rattle.rb_recovery.specs.Worlds.{counts_of}
use Rattle.rb_verify.specs.Found.{IfUnsound}
use Rattle.rb_commands.proofs.Images.{fit, sound_opened}
use Rattle.rb_commands.proofs.image.Image.verified.Goals as goal

pub invariant_of-result : goal.invariant_of-result
invariant_of-result c = fit c.args.raw.code c.args.raw.nested c.requires c.in-Ok.ensures.sound

pub returns-in-Ok-clause-fit : goal.returns-in-Ok-clause-fit
returns-in-Ok-clause-fit c = fit c.args.raw.code c.args.raw.nested c.requires c.in-Ok.ensures.sound

pub returns-in-Err-Unsound-clause-unfit : goal.returns-in-Err-Unsound-clause-unfit
returns-in-Err-Unsound-clause-unfit c may =
    let raw = c.args.raw in
    subst (λ r. IfUnsound r (IsSound (code raw.code) (memberships (opening raw.nested)) (counts_of (opening raw.nested)) → ⊥))
    c.in-Err-Unsound.field-0-is c.in-Err-Unsound.ensures.unsound (sound_opened raw.code raw.nested may)
