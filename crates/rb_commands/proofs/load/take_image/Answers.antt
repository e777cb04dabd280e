use Rattle.std.proofs.Common.{refl, subst}
use Rattle.rb_image.specs.Laws.{IsRefused}
use Rattle.rb_verdict.specs.Programs.{program_of}
use Rattle.rb_verdict.specs.Texts.{no_image}
use Rattle.rb_commands.specs.Held.{IsUnfit}
use Rattle.rb_commands.proofs.Images.{image_held, unsound_refused}
use Rattle.rb_commands.proofs.load.take_image.Goals as goal

pub returns-in-Ok-accept-clause-holds : goal.returns-in-Ok-accept-clause-holds
returns-in-Ok-accept-clause-holds c =
    image_held c.args.bytes.now (program_of c.in-Ok.raw.code c.in-Ok.raw.nested) c.in-Ok-accept.image c.in-Ok.ensures.image
    c.in-Ok-accept.ensures.same c.in-Ok-accept.ensures.fit

pub returns-in-Err-Unsound-clause-refused : goal.returns-in-Err-Unsound-clause-refused
returns-in-Err-Unsound-clause-refused c =
    let program = program_of c.in-Ok.raw.code c.in-Ok.raw.nested in (
      unsound_refused c.args.bytes.now program c.in-Ok.ensures.image
          (subst (IsUnfit program) c.in-Err-Unsound.field-0-is c.in-Err-Unsound.ensures.unfit),
      refl,
    )

pub returns-in-Err-Form-clause-refused : goal.returns-in-Err-Form-clause-refused
returns-in-Err-Form-clause-refused c =
    (no_image (subst (IsRefused c.args.bytes.now) c.in-Err-Form.field-0-is c.in-Err-Form.ensures.refused), refl)
