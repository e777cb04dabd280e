use Rattle.std.proofs.Common.{List, [], ◌∷◌, ◌++◌, ℕ, map, ap, refl, sym, ◌∙◌}
use Rattle.std.proofs.lemmas.List.{length-map, map_push}
use Rattle.rb_syntax.specs.declared.program.Procedure.{Procedure}
use Rattle.rb_syntax.specs.Plain.{identifier, procedure_declaration}
use Rattle.rb_scope.specs.declared.slot.Slot.TheVariants.{Procedure as ProcedureSlot}
use Rattle.rb_scope.specs.Memory.{all_held, held}
use Rattle.rb_scope.specs.Scopes.{Declared, procedures_from}
use Rattle.rb_faults.proofs.Named.{counted_step, fewer_left, named_end}
use Rattle.rb_faults.proofs.rows.add_procedures.Goals as goal

abbrev others : ℕ → List Procedure → List Declared
others k xs = procedures_from k (map procedure_declaration xs)

pub procedures-preserved : goal.procedures-preserved
procedures-preserved c =
    let before = c.procedures.declared.items in
    let procedure = c.procedure-item.result in
    let entry : ℕ → Declared =
    λ n. record { name = identifier procedure.name; slot = ProcedureSlot c.procedures.number; parameters = n } in
    counted_step others c.procedures.rest.now procedure _ _ _ _ _ (all_held before) _ _ (λ xs. refl) c.in-len1-up.len_at_least
    c.procedure-item.is
    (ap all_held c.in_ok-push.ensures.items ∙ map_push held before _ ∙ ap (λ n. all_held before ++ (entry n ∷ []))
    (c.len.ensures ∙ procedure.params.ok.0 ∙ sym (length-map procedure.params.items identifier)))
    c.in_ok-number.ensures c.procedures.invariant

pub procedures-smaller : goal.procedures-smaller
procedures-smaller c = fewer_left c.procedures.rest.now c.in-len1-up.len_at_least

pub returns : goal.returns
returns c =
    named_end (others c.procedures.number) c.procedures.rest.now (all_held c.procedures.declared.items) _ refl c.in_default.len_below c.procedures.invariant
