use Rattle.std.proofs.Common.{◌≡◌, ◌+◌, ◌<◌, List, drop, map, length, get_or, ap, ◌∙◌, arith, drop_of_length-le}
use Rattle.rb_base.specs.declared.names.ProcessNames.{ProcessNames}
use Rattle.rb_base.specs.Lines.{belonging}
use Rattle.rb_trace.specs.Naming.{process_naming}
use Rattle.rb_trace.specs.Ended.{process_text, processes_text, words_printed}
use Rattle.rb_trace.proofs.Written.{written_nothing, written_more, written_part, written_all}
use Rattle.rb_trace.proofs.Ended.{process_next, fits_at, fits_length}
use Rattle.rb_trace.proofs.Counted.{counted_more, counted_part, counted_all}
use Rattle.rb_trace.proofs.final_state.write_processes.Goals as goal

pub loop-p-init : goal.loop-p-init
loop-p-init g c = (written_nothing _ _ _, omega arith)

pub write_process-requires : goal.write_process-requires
write_process-requires g c =
    let processes = c.args.names.now.processes.items in
    let i = c.loop-p.p in
    let same = c.deref-process-items.ensures.value in
    let is : c.process-item.result ≡ get_or processes i c.process-item.result =
    c.process-item.is ∙ ap (λ (xs : List ProcessNames). get_or xs i c.process-item.result) same in
    fits_at processes (g.M.Final.words c.args.end.now) i c.process-item.result c.requires.fit.processes
    (omega (arith, c.loop-p-test.true, ap length same)) is

pub loop-p-preserved : goal.loop-p-preserved
loop-p-preserved g c =
    let processes = c.args.names.now.processes.items in
    let states = g.M.Final.states c.args.end.now in
    let words = g.M.Final.words c.args.end.now in
    let i = c.loop-p.p in
    let process = c.process-item.result in
    let same = c.deref-process-items.ensures.value in
    let is : process ≡ get_or processes i process = c.process-item.is ∙ ap (λ (xs : List ProcessNames). get_or xs i process) same in
    let within : i < length processes = omega (arith, c.loop-p-test.true, ap length same) in
    let next = process_next processes states words i process c.state-state.result within is c.state-state.ensures
    (omega (arith, within, fits_length processes words c.requires.fit.processes)) in (
      written_more _ _ (process_text (process_naming process) c.state-state.result (belonging words i))
          (processes_text (map process_naming (drop (i + 1) processes)) (drop (i + 1) states)
          (drop (i + 1) words)) _ _ _ _ _ _ c.loop-p.invariant.0 next c.in_ok-write_process.ensures.text,
      omega (
        arith,
        c.loop-p.invariant.1,
        c.in_ok-write_process.ensures.work,
        counted_more words_printed process_naming processes i process within is,
      ),
    )

pub returns-in_err-write_process-clause-text : goal.returns-in_err-write_process-clause-text
returns-in_err-write_process-clause-text g c =
    let processes = c.args.names.now.processes.items in
    let states = g.M.Final.states c.args.end.now in
    let words = g.M.Final.words c.args.end.now in
    let i = c.loop-p.p in
    let process = c.process-item.result in
    let same = c.deref-process-items.ensures.value in
    let is : process ≡ get_or processes i process = c.process-item.is ∙ ap (λ (xs : List ProcessNames). get_or xs i process) same in
    let within : i < length processes = omega (arith, c.loop-p-test.true, ap length same) in
    let next = process_next processes states words i process c.state-state.result within is c.state-state.ensures
    (omega (arith, within, fits_length processes words c.requires.fit.processes)) in
    written_part _ _ (process_text (process_naming process) c.state-state.result (belonging words i))
    (processes_text (map process_naming (drop (i + 1) processes)) (drop (i + 1) states)
    (drop (i + 1) words)) _ _ _ _ _ _ _ c.from_residual.result c.loop-p.invariant.0 next c.in_err-write_process.ensures.text c.from_residual.ensures.0

pub returns-clause-text : goal.returns-clause-text
returns-clause-text g c =
    let processes = c.args.names.now.processes.items in
    written_all _ _ _ _ _ _ c.loop-p.invariant.0
    (ap (λ (xs : List ProcessNames). processes_text (map process_naming xs)
    (drop c.loop-p.p (g.M.Final.states c.args.end.now)) (drop c.loop-p.p (g.M.Final.words c.args.end.now)))
    (drop_of_length-le processes (omega (arith, c.loop-p-test.false, ap length c.deref-process-items.ensures.value))))

pub returns-in_err-write_process-clause-work : goal.returns-in_err-write_process-clause-work
returns-in_err-write_process-clause-work g c =
    let processes = c.args.names.now.processes.items in
    let i = c.loop-p.p in
    let process = c.process-item.result in
    let same = c.deref-process-items.ensures.value in
    let is : process ≡ get_or processes i process = c.process-item.is ∙ ap (λ (xs : List ProcessNames). get_or xs i process) same in
    let within : i < length processes = omega (arith, c.loop-p-test.true, ap length same) in
    omega (arith, c.loop-p.invariant.1, c.in_err-write_process.ensures.work, counted_part words_printed process_naming processes i process within is)

pub returns-clause-work : goal.returns-clause-work
returns-clause-work g c = omega (arith, c.loop-p.invariant.1, counted_all words_printed process_naming c.args.names.now.processes.items c.loop-p.p)
