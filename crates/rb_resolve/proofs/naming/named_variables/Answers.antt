use Rattle.std.proofs.Common.{List, [], ◌∷◌, ◌++◌, ◌+◌, ap, map, refl, ◌∙◌}
use Rattle.std.proofs.lemmas.List.{map_push}
use Rattle.rb_meaning.specs.Meaning.{variables_named}
use Rattle.rb_syntax.specs.declared.statement.Var.{Var}
use Rattle.rb_syntax.specs.Plain.{declaration}
use Rattle.rb_trace.specs.Naming.{variable_naming}
use Rattle.rb_resolve.proofs.Named.{counted_step, fewer_left, named_end, room_after}
use Rattle.rb_resolve.proofs.naming.named_variables.Goals as goal

pub variables-preserved : goal.variables-preserved
variables-preserved c =
    let rest = c.variables.rest.now in
    let named = map variable_naming c.variables.named.items in
    record {
      all = counted_step (λ at (xs : List Var). variables_named at (map declaration xs)) rest _ _ _ _ _ _ named _ _ (λ xs. refl)
          c.in-len1-up.len_at_least refl
          (ap (map variable_naming) c.push_reserved.ensures.items ∙ map_push variable_naming c.variables.named.items _ ∙ ap
          (λ variable. named ++ (variable ∷ [])) c.in_ok-named_variable.ensures)
          (c.in_ok-at.ensures ∙ ap (λ n. c.variables.at + n) c.in_ok-size_of.ensures) c.variables.invariant.all;
      room = room_after rest _ _ _ _ c.in-len1-up.len_at_least c.push_reserved.ensures.len c.push_reserved.ensures.capacity
          c.variables.invariant.room;
    }

pub variables-smaller : goal.variables-smaller
variables-smaller c = fewer_left c.variables.rest.now c.in-len1-up.len_at_least

pub returns : goal.returns
returns c =
    named_end (λ (xs : List Var). variables_named c.variables.at (map declaration xs)) c.variables.rest.now
    (map variable_naming c.variables.named.items) _ refl c.in_default.len_below c.variables.invariant.all
