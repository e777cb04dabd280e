use Rattle.std.proofs.Common.{◌∙◌, Result, Err, Some, refl, sym, ap, subst}
use Rattle.rb_hall.specs.declared.command.Unwritten.{Unwritten}
use Rattle.rb_hall.specs.Ends.{EndsAfter}
use Rattle.rb_hall.proofs.driver.after_writing.Goals as goal

-- why a text was not written whole, as a result
abbrev to_error : {W : Type 0} → Unwritten W → Result (Unit {0}) (Unwritten W)
to_error why = Err why

pub returns-in-Err-Refused : goal.returns-in-Err-Refused
returns-in-Err-Refused g c =
    let is = c.in-Err-Refused.is ∙ ap to_error c.in-Err-Refused.field-0-is in
    subst (λ (ended : Result (Unit {0}) (Unwritten g.row.W.Denot)). EndsAfter ended c.args.number c.args.text.now
    (g.S.Sink.written c.args.written.sink) (g.S.Sink.written c.refuse.result.sink) (g.S.Sink.faults c.args.written.sink)
    (g.S.Sink.faults c.refuse.result.sink) c.refuse.result.outcome) (sym is) (
      record { fault = c.in-Err-Refused.fault; number = c.args.number; text = c.args.text; why = Some c.in-Err-Refused.why },
      refl,
      refl,
      refl,
      refl,
      c.refuse.ensures,
    )
