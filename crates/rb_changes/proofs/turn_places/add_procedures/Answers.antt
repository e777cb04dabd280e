use Rattle.std.proofs.Common.{List, map, refl, arith}
use Rattle.rb_syntax.specs.declared.program.Procedure.{Procedure}
use Rattle.rb_syntax.specs.Plain.{body, procedure_declaration}
use Rattle.rb_code.specs.Agreement.Places.{body_turns, procedures_turns}
use Rattle.rb_changes.proofs.Walked.{added, ended}
use Rattle.rb_changes.proofs.turn_places.add_procedures.Goals as goal

pub loop-procedure-preserved : goal.loop-procedure-preserved
loop-procedure-preserved c =
    added (λ (procedures : List Procedure). procedures_turns (map procedure_declaration procedures))
    (λ (procedure : Procedure). body_turns (body procedure.block)) (λ x xs. refl)
    c.loop-procedure.procedure-index c.args.procedures.now c.procedure-item.result _ c.loop-procedure.turns.items
    c.add_block.new.turns.items _ (omega (arith, c.loop-procedure-test.true)) c.procedure-item.is c.loop-procedure.invariant
    c.in_ok-add_block.ensures

pub returns : goal.returns
returns c =
    ended (λ (procedures : List Procedure). procedures_turns (map procedure_declaration procedures))
    (λ (procedure : Procedure). body_turns (body procedure.block)) (λ x xs. refl)
    c.loop-procedure.procedure-index c.args.procedures.now c.loop-procedure.turns.items _
    (omega (arith, c.loop-procedure-test.false)) refl c.loop-procedure.invariant
