use Rattle.std.proofs.Common.{refl}
use Rattle.rb_syntax.specs.Plain.{tree}
use Rattle.rb_judge.specs.declared.judging.Judged.{Judged}
use Rattle.rb_verdict.specs.Judging.{CheckGoesOn, Judges}
use Rattle.rb_verdict.specs.Words.{Check}
use Rattle.rb_commands.specs.Held.{HoldsChecked}
use Rattle.rb_commands.specs.declared.check.Checked.{Checked}
use Rattle.rb_commands.specs.declared.check.Checked.TheVariants as held
use Rattle.rb_commands.proofs.Sources.{source_refused, taken_alone}
use Rattle.rb_commands.proofs.check.CheckCommand.take.Goals as goal

pub returns-in-Ok-clause-held : goal.returns-in-Ok-clause-held
returns-in-Ok-clause-held c =
    rw c.in-Nothing.is (taken_alone (Judges Check) HoldsChecked held.Nothing (λ texts h. h) c.args.text.now c.args.self.now.source.now held.Accepted
    (c.args.text.now, refl, (tree c.in-Ok.field-0.checked.program, c.in-Ok.ensures.judged.accepted)))

pub returns-in-Nothing-clause-refused : goal.returns-in-Nothing-clause-refused
returns-in-Nothing-clause-refused c =
    rw c.in-Nothing.is (source_refused Judged Checked CheckGoesOn HoldsChecked held.Nothing (λ texts h. h) c.args.text.now c.in-Err.stop c.in-Err.ensures.refused)
