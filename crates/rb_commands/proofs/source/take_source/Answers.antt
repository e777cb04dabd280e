use Rattle.std.proofs.Common.{◌≡◌}
use Rattle.rb_prepare.specs.declared.preparing.Prepared.{Prepared}
use Rattle.rb_verdict.specs.Texts.{SourceRefused}
use Rattle.rb_commands.specs.declared.source.Compiled.{Compiled}
use Rattle.rb_commands.specs.declared.why.Why.TheVariants as knows
use Rattle.rb_commands.proofs.Taken.{refused_as}
use Rattle.rb_commands.proofs.source.take_source.Goals as goal

pub returns-in-Err-clause-refused : goal.returns-in-Err-clause-refused
returns-in-Err-clause-refused c =
    refused_as Prepared Compiled (λ fault known. SourceRefused c.args.text.now fault × (known ≡ knows.Plain))
    (λ fault known. SourceRefused c.args.text.now fault × (known ≡ knows.Plain)) c.in-Err.stop (λ fault known refused. refused) c.in-Err.ensures.refused
