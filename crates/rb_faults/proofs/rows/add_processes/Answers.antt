use Rattle.std.proofs.Common.{List, ℕ, map, ap, refl, ◌∙◌}
use Rattle.std.proofs.lemmas.List.{map_push}
use Rattle.rb_syntax.specs.declared.program.Process.{Process}
use Rattle.rb_syntax.specs.Plain.{process_declaration}
use Rattle.rb_scope.specs.Memory.{held, all_held}
use Rattle.rb_scope.specs.Scopes.{Declared, processes_from}
use Rattle.rb_faults.proofs.Named.{counted_step, fewer_left, named_end}
use Rattle.rb_faults.proofs.rows.add_processes.Goals as goal

abbrev others : ℕ → List Process → List Declared
others k xs = processes_from k (map process_declaration xs)

pub processes-preserved : goal.processes-preserved
processes-preserved c =
    let before = c.processes.declared.items in
    counted_step others c.processes.rest.now c.process-item.result _ _ _ _ _ (all_held before) _ _ (λ xs. refl) c.in-len1-up.len_at_least c.process-item.is
    (ap all_held c.in_ok-push.ensures.items ∙ map_push held before _) c.in_ok-number.ensures c.processes.invariant

pub processes-smaller : goal.processes-smaller
processes-smaller c = fewer_left c.processes.rest.now c.in-len1-up.len_at_least

pub returns : goal.returns
returns c =
    named_end (others c.processes.number) c.processes.rest.now (all_held c.processes.declared.items) _ refl c.in_default.len_below c.processes.invariant
