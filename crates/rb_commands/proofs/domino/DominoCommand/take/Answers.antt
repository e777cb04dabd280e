use Rattle.std.proofs.Common.{refl}
use Rattle.rb_hall.specs.declared.fault.Fault.TheVariants as of
use Rattle.rb_verdict.specs.Judging.{JudgesHistory, history_refused}
use Rattle.rb_verdict.specs.Texts.{bad_history}
use Rattle.rb_commands.specs.Held.{HoldsHistory}
use Rattle.rb_commands.specs.declared.domino.Told.TheVariants as told
use Rattle.rb_commands.specs.declared.why.Why.TheVariants as knows
use Rattle.rb_commands.proofs.Sources.{refused_first, taken_alone}
use Rattle.rb_commands.proofs.domino.DominoCommand.take.Goals as goal

pub returns-in-Ok-clause-held : goal.returns-in-Ok-clause-held
returns-in-Ok-clause-held c =
    rw c.in-Nothing.is (taken_alone JudgesHistory HoldsHistory told.Nothing (λ texts h. h) c.args.text.now c.args.self.now.history.now
    (told.Story c.in-Ok.history) (c.args.text.now, refl, c.in-Ok.ensures.told))

pub returns-in-Err-Fault-clause-refused : goal.returns-in-Err-Fault-clause-refused
returns-in-Err-Fault-clause-refused c =
    let text = c.args.text.now in
    let fault = of.Text c.in-Err-Fault.fault in
    rw c.in-Nothing.is (refused_first JudgesHistory HoldsHistory told.Nothing (λ texts h. h) text fault knows.Plain
    (history_refused text fault (bad_history c.in-Err-Fault.fault (rw c.in-Err-Fault.field-0-is at c.in-Err-Fault.ensures.told)), refl))
