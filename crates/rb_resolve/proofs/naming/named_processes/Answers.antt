use Rattle.std.proofs.Common.{List, ◌∷◌, [], ◌++◌, map, ap, refl, ◌∙◌}
use Rattle.std.proofs.lemmas.List.{map_push}
use Rattle.rb_meaning.specs.Meaning.{process_named}
use Rattle.rb_syntax.specs.declared.program.Process.{Process}
use Rattle.rb_syntax.specs.Plain.{process_declaration}
use Rattle.rb_trace.specs.Naming.{process_naming}
use Rattle.rb_resolve.proofs.Named.{fewer_left, named_end, named_step, room_after}
use Rattle.rb_resolve.proofs.naming.named_processes.Goals as goal

pub processes-preserved : goal.processes-preserved
processes-preserved c =
    let others = λ (xs : List Process). map process_named (map process_declaration xs) in
    let rest = c.processes.rest.now in
    let named = map process_naming c.processes.named.items in
    record {
      all = named_step others others rest c.process-item.result _ _ named _ _ (λ xs. refl) c.in-len1-up.len_at_least c.process-item.is
          (ap (map process_naming) c.push_reserved.ensures.items ∙ map_push process_naming c.processes.named.items _ ∙ ap
          (λ process. named ++ (process ∷ [])) c.in_ok-named_process.ensures) c.processes.invariant.all;
      room = room_after rest _ _ _ _ c.in-len1-up.len_at_least c.push_reserved.ensures.len c.push_reserved.ensures.capacity
          c.processes.invariant.room;
    }

pub processes-smaller : goal.processes-smaller
processes-smaller c = fewer_left c.processes.rest.now c.in-len1-up.len_at_least

pub returns : goal.returns
returns c =
    named_end (λ (xs : List Process). map process_named (map process_declaration xs)) c.processes.rest.now (map process_naming c.processes.named.items) _ refl c.in_default.len_below
    c.processes.invariant.all
