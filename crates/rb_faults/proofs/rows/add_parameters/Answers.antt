use Rattle.std.proofs.Common.{List, ℕ, map, ap, refl, ◌∙◌}
use Rattle.std.proofs.lemmas.List.{map_push}
use Rattle.rb_syntax.specs.declared.expression.Name.{Name}
use Rattle.rb_syntax.specs.Plain.{identifier}
use Rattle.rb_scope.specs.Memory.{held, all_held}
use Rattle.rb_scope.specs.Scopes.{Declared, parameters_from}
use Rattle.rb_faults.proofs.Named.{counted_step, fewer_left, named_end}
use Rattle.rb_faults.proofs.rows.add_parameters.Goals as goal

abbrev others : ℕ → List Name → List Declared
others k xs = parameters_from k (map identifier xs)

pub parameters-preserved : goal.parameters-preserved
parameters-preserved c =
    let before = c.parameters.declared.items in
    counted_step others c.parameters.rest.now _ _ _ _ _ _ (all_held before) _ _ (λ xs. refl) c.in-len1-up.len_at_least refl
    (ap all_held c.in_ok-push.ensures.items ∙ map_push held before _) c.in_ok-at.ensures c.parameters.invariant

pub parameters-smaller : goal.parameters-smaller
parameters-smaller c = fewer_left c.parameters.rest.now c.in-len1-up.len_at_least

pub returns : goal.returns
returns c =
    named_end (others c.parameters.at) c.parameters.rest.now (all_held c.parameters.declared.items) _ refl c.in_default.len_below c.parameters.invariant
