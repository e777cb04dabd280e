-- As in the list of processes at the end of a run: a line for one that runs, and nothing for one that has ended.
use Rattle.std.proofs.Common.{◌≡◌, ℕ, ◌+◌, ◌<◌, List, ◌∷◌, codes, drop, get_or, length, sym, ap, ◌∙◌, subst, arith}
use Rattle.rb_base.specs.declared.names.ProcessNames.{ProcessNames}
use Rattle.rb_world.specs.Text.{line_of}
use Rattle.rb_code.specs.WordMachine.WordKind.{word_kind}
use Rattle.rb_trace.specs.Naming.{naming}
use Rattle.rb_trace.proofs.Written.{Written, written_more, written_nothing, written_part}
use Rattle.rb_stuck.specs.Stuck.{waiting_text}
use Rattle.rb_stuck.specs.Wanted.{wanted_words}
use Rattle.rb_stuck.proofs.Surveyed.{ended_unless}
use Rattle.rb_stuck.proofs.Waiting.{line_then, none_then}
use Rattle.rb_stuck.proofs.text.write_waits.Goals as goal
use Rattle.rb_stuck.proofs.text.write_waits.Goals.{in-Running+in_ok-write_wait, in_default}

pub loop-p-init : goal.loop-p-init
loop-p-init g c = written_nothing _ _ _

pub returns-in_err-write_wait : goal.returns-in_err-write_wait
returns-in_err-write_wait g c =
    let m = c.args.machine.now in
    let names = c.args.names.now in
    let i = c.loop-p.p in
    let process = c.process-item.result in
    let same = c.deref-process-items.ensures.value in
    let is : process ≡ get_or names.processes.items i process =
    c.process-item.is ∙ ap (λ (xs : List ProcessNames). get_or xs i process) same in
    let within : i < length names.processes.items = omega (arith, c.loop-p-test.true, ap length same) in
    written_part _ _ (line_of (process.name ∷ codes "waits" ∷ wanted_words (naming names) c.want-wanted.result c.line-line.result))
    (waiting_text (word_kind m.code m.groups) (naming names) (i + 1) (drop (i + 1) m.world.processes)) _ _ _ _ _ _ _ c.from_residual.result
    c.loop-p.invariant
    (line_then m.code m.groups names m.world.processes i c.state.result c.state.ensures process c.in-Running.field-0 c.want-wanted.result
    c.line-line.result c.in-Running.is within is c.want-wanted.ensures c.line-line.ensures)
    (rw c.as_bytes.ensures at c.in_err-write_wait.ensures) c.from_residual.ensures.0

pub loop-p-preserved : goal.loop-p-preserved
loop-p-preserved g c =
    let m = c.args.machine.now in
    let names = c.args.names.now in
    let i = c.loop-p.p in
    let process = c.process-item.result in
    let same = c.deref-process-items.ensures.value in
    let kind = word_kind m.code m.groups in
    let is : process ≡ get_or names.processes.items i process =
    c.process-item.is ∙ ap (λ (xs : List ProcessNames). get_or xs i process) same in
    let within : i < length names.processes.items = omega (arith, c.loop-p-test.true, ap length same) in
    let whole = waiting_text kind (naming names) 0 m.world.processes in
    let after = waiting_text kind (naming names) (i + 1) (drop (i + 1) m.world.processes) in
    elim c.match-state.branch [
      | in-Running+in_ok-write_wait w ↦
          subst (λ out. Written whole after (g.S.Sink.written c.args.out.now) (g.S.Sink.written out) (g.S.Sink.faults c.args.out.now) (g.S.Sink.faults out))
          (sym w.out-is)
          (written_more _ _ (line_of (process.name ∷ codes "waits" ∷ wanted_words (naming names) w.want-wanted.result w.line-line.result)) after
          _ _ _ _ _ _ c.loop-p.invariant
          (line_then m.code m.groups names m.world.processes i c.state.result c.state.ensures process w.in-Running.field-0 w.want-wanted.result
          w.line-line.result w.in-Running.is within is w.want-wanted.ensures w.line-line.ensures)
          (rw w.as_bytes.ensures at w.in_ok-write_wait.ensures))
      | in_default w ↦
          subst (λ out. Written whole after (g.S.Sink.written c.args.out.now) (g.S.Sink.written out) (g.S.Sink.faults c.args.out.now) (g.S.Sink.faults out))
          (sym w.out-is)
          (subst (λ (left : List ℕ). Written whole left (g.S.Sink.written c.args.out.now) (g.S.Sink.written c.loop-p.out)
          (g.S.Sink.faults c.args.out.now) (g.S.Sink.faults c.loop-p.out))
          (none_then m.code m.groups names m.world.processes i c.state.result c.state.ensures
          (ended_unless c.state.result w.in_default.not-Running))
          c.loop-p.invariant)
    ]
