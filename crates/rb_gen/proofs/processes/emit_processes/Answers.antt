use Rattle.std.proofs.Common.{◌≡◌, ◌+◌, List, ◌++◌, ap, sym, ◌∙◌, subst, map, arith}
use Rattle.std.proofs.lemmas.Grind.{common_steps}
use Rattle.std.proofs.lemmas.List.{map-append}
use Rattle.rb_syntax.specs.declared.statement.Var.{Var}
use Rattle.rb_syntax.specs.Plain.{declaration, process_declaration}
use Rattle.rb_meaning.specs.Environment.{frame_of, frame_words}
use Rattle.rb_code.specs.declared.code.ProcessCode.{ProcessCode}
use Rattle.rb_code.specs.Instructions.Plain.{Part, channel, part, procedure}
use Rattle.rb_draft.specs.Output.{output}
use Rattle.rb_gen.specs.Writes.{WritesProcesses}
use Rattle.rb_gen.proofs.Slices.{split, none_left}
use Rattle.rb_gen.proofs.ProcessRows.{processes_end, processes_step}
use Rattle.rb_gen.proofs.processes.emit_processes.Goals as goal

pub processes-init : goal.processes-init
processes-init c = λ after more h.
    subst
    (λ (xs : List ProcessCode). WritesProcesses c.args.slots.now (map channel c.args.channels.now) 0
    (map process_declaration c.args.processes.now) (map part xs ++ more)
    (output c.args.draft.now) after) (sym c.in_ok-parts.ensures.items) h

pub processes-preserved : goal.processes-preserved
processes-preserved c =
    let rest = c.processes.rest.now in
    let process = c.process-item.result in
    let one : Part =
    record {
      start = c.in_ok-start.start;
      words = c.in_ok-words.words;
      channels =
          c.in_ok-channels.channels.items;
      procedures = map procedure c.in_ok-procedures.procedures.items;
    } in
    let next : c.in_ok-number.number ≡ c.processes.number + 1 = grind (arith, common_steps) in
    processes_step c.args.slots.now (map channel c.args.channels.now) (map process_declaration c.args.processes.now) _
    (process_declaration process) c.processes.number
    c.in_ok-number.number one (map part c.processes.parts.items) _
    (ap (map process_declaration) (split rest process c.in-len1-up.len_at_least c.process-item.is)) next c.in_ok-start.ensures
    (c.in_ok-words.ensures
    ∙ ap (λ (xs : List Var). frame_words
    (frame_of (map declaration xs))) c.deref.ensures.value) c.in_ok-channels.ensures c.in_ok-procedures.ensures
    (ap (map part) c.in_ok-push.ensures.items ∙ map-append part c.processes.parts.items _) c.processes.invariant

pub returns : goal.returns
returns c =
    processes_end c.args.slots.now (map channel c.args.channels.now)
    (map process_declaration c.args.processes.now) c.processes.number (map part c.processes.parts.items)
    (ap (map process_declaration) (none_left c.processes.rest.now c.in_default.len_below)) c.processes.invariant
