use Rattle.std.proofs.Common.{List, [], ◌∷◌, ◌++◌, ap, sym, ◌∙◌, subst, map, refl}
use Rattle.std.proofs.lemmas.List.{map-append}
use Rattle.rb_syntax.specs.Plain.{procedure_declaration}
use Rattle.rb_code.specs.declared.code.ProcedureCode.{ProcedureCode}
use Rattle.rb_code.specs.Instructions.Plain.{Procedure, procedure}
use Rattle.rb_draft.specs.Output.{output}
use Rattle.rb_gen.specs.Writes.{WritesProcedures}
use Rattle.rb_gen.proofs.Slices.{split, none_left}
use Rattle.rb_gen.proofs.ProcessRows.{procedures_end, procedures_step}
use Rattle.rb_gen.proofs.processes.emit_procedures.Goals as goal

pub procedures-init : goal.procedures-init
procedures-init c = λ after more h.
    subst
    (λ (xs : List ProcedureCode). WritesProcedures c.args.slots.now c.args.words.now
    (map procedure_declaration c.args.procedures.now) (map procedure xs ++ more)
    (output c.args.draft.now) after) (sym c.in_ok-entries.ensures.items) h

pub procedures-preserved : goal.procedures-preserved
procedures-preserved c =
    let rest = c.procedures.rest.now in
    let held = c.procedure-item.result in
    let writes = c.in_ok-entry.ensures in
    procedures_step c.args.slots.now c.args.words.now
    (map procedure_declaration c.args.procedures.now) _ held _
    (map procedure c.procedures.entries.items) _
    (ap (map procedure_declaration) (split rest held c.in-len1-up.len_at_least c.procedure-item.is)) refl writes.1 writes.2
    (ap (map procedure) c.in_ok-push.ensures.items ∙ map-append procedure c.procedures.entries.items _ ∙ ap
    (λ (entry : Procedure). map procedure c.procedures.entries.items ++ (entry ∷ [])) writes.3)
    c.procedures.invariant

pub returns : goal.returns
returns c =
    procedures_end c.args.slots.now c.args.words.now (map procedure_declaration c.args.procedures.now) (map procedure c.procedures.entries.items)
    (ap (map procedure_declaration) (none_left c.procedures.rest.now c.in_default.len_below)) c.procedures.invariant
