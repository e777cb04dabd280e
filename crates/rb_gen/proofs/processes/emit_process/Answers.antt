use Rattle.std.proofs.Common.{List, ap, ◌∙◌, map}
use Rattle.std.proofs.lemmas.Result.{IfOk-weaker}
use Rattle.rb_syntax.specs.declared.program.Procedure.{Procedure}
use Rattle.rb_syntax.specs.Plain.{procedure_declaration}
use Rattle.rb_gen.specs.Writes.{room_of}
use Rattle.rb_gen.proofs.processes.emit_process.Goals as goal

pub returns : goal.returns
returns c =
    IfOk-weaker c.emit_linked.result _ _
    (λ entries writes. writes
    (c.deref-2.ensures.value ∙ c.in_ok-words.ensures
    ∙ ap (λ (xs : List Procedure). map room_of (map procedure_declaration xs)) c.deref.ensures.value))
    c.emit_linked.ensures
