use Rattle.std.proofs.Common.{◌↔◌, ◌<◌, IsTrue, length, ℕ, subst, ◌∙◌, arith}
use Rattle.std.specs.List.{All}
use Rattle.std.proofs.lemmas.Grind.{common_steps}
use Rattle.rb_code.specs.declared.code.ProcedureCode.{ProcedureCode}
use Rattle.rb_code.specs.Instructions.Plain.{procedure as plain_procedure, Procedure}
use Rattle.rb_lists.proofs.Mapped.{tells_of_map}
use Rattle.rb_lists.proofs.parts.CodeAllowsProcessCode.allows.Goals as goal

pub returns-then-process-instrs : goal.returns-then-process-instrs
returns-then-process-instrs c =
    let Begin : ℕ → Type 0 = λ n. IsTrue c.all_allowed.result ↔ All (λ (one : ProcedureCode). one.start < n) c.deref.result.now in
    let procedures =
    tells_of_map (λ (one : Procedure). one.start < length c.args.self.now.instrs.items) plain_procedure c.args.process.now.procedures.items
    c.deref.result.now c.all_allowed.result c.deref.ensures.value
    (subst Begin (c.len-instrs.ensures ∙ c.args.self.now.instrs.ok.0) c.all_allowed.ensures) in (
      (λ e. record { words = grind (arith, common_steps); start = grind (arith, common_steps); procedures = procedures.0 e }),
      (λ part. procedures.1 part.procedures),
    )
