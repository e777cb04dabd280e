-- The lines of a summary, one after another.
use Rattle.std.proofs.Common.{ℕ, List, [], ◌∷◌, ◌++◌, codes, decimal}
use Rattle.rb_make.specs.Trial.{processes_of}
use Rattle.rb_outside.proofs.Puts.{puts_both, puts_stopped_at}
use Rattle.rb_run.specs.Counting.{Counted, counts}
use Rattle.rb_world.specs.Text.{line_of}
use Rattle.rb_verdict.specs.Summary.{counts_line}
use Rattle.rb_commands.proofs.summary.put_summary.Goals as goal

-- a line of a word and a number
abbrev numbered : List ℕ → ℕ → List ℕ
numbered word n = line_of (word ∷ decimal n ∷ [])

-- the lines from that of the turns on, and those from that of the processes on
abbrev from_turns : ℕ → Counted → List ℕ
from_turns turns counted = numbered (codes "turns") turns ++ counts_line counted

abbrev from_processes : ℕ → ℕ → Counted → List ℕ
from_processes n turns counted = numbered (codes "processes") (processes_of n) ++ from_turns turns counted

pub returns-in_err-put_number : goal.returns-in_err-put_number
returns-in_err-put_number g c =
    puts_stopped_at (numbered (codes "trial") c.args.number) (from_processes c.args.number c.args.turns (counts c.args.counted))
    (g.S.Sink.written c.args.out.now) (g.S.Sink.written c.put_number.new.out) (g.S.Sink.faults c.args.out.now) (g.S.Sink.faults c.put_number.new.out)
    c.in_err-put_number.field-0.0 c.from_residual.result c.from_residual.ensures.0 c.in_err-put_number.ensures

pub returns-in_err-put_processes : goal.returns-in_err-put_processes
returns-in_err-put_processes g c =
    let n = c.args.number in
    let counted = counts c.args.counted in
    let r = c.from_residual-in_err-put_processes in
    puts_both (numbered (codes "trial") n)
    (from_processes n c.args.turns counted) _ _ _ _ _ _ c.in_ok-put_number.field-0 r.result c.in_ok-put_number.ensures
    (puts_stopped_at (numbered (codes "processes") (processes_of n)) (from_turns c.args.turns counted)
    (g.S.Sink.written c.put_number.new.out) (g.S.Sink.written c.put_processes.new.out)
    (g.S.Sink.faults c.put_number.new.out) (g.S.Sink.faults c.put_processes.new.out)
    c.in_err-put_processes.field-0.0 r.result r.ensures.0 c.in_err-put_processes.ensures)

pub returns-in_err-put_turns : goal.returns-in_err-put_turns
returns-in_err-put_turns g c =
    let n = c.args.number in
    let counted = counts c.args.counted in
    let r = c.from_residual-in_err-put_turns in
    puts_both (numbered (codes "trial") n)
    (from_processes n c.args.turns counted) _ _ _ _ _ _ c.in_ok-put_number.field-0 r.result c.in_ok-put_number.ensures
    (puts_both (numbered (codes "processes") (processes_of n))
    (from_turns c.args.turns counted) _ _ _ _ _ _ c.in_ok-put_processes.field-0 r.result c.in_ok-put_processes.ensures
    (puts_stopped_at (numbered (codes "turns") c.args.turns) (counts_line counted)
    (g.S.Sink.written c.put_processes.new.out) (g.S.Sink.written c.put_turns.new.out)
    (g.S.Sink.faults c.put_processes.new.out) (g.S.Sink.faults c.put_turns.new.out)
    c.in_err-put_turns.field-0.0 r.result r.ensures.0 c.in_err-put_turns.ensures))

pub returns : goal.returns
returns g c =
    let n = c.args.number in
    let counted = counts c.args.counted in
    puts_both (numbered (codes "trial") n)
    (from_processes n c.args.turns counted) _ _ _ _ _ _ c.in_ok-put_number.field-0 c.put_counts.result c.in_ok-put_number.ensures
    (puts_both (numbered (codes "processes") (processes_of n))
    (from_turns c.args.turns counted) _ _ _ _ _ _ c.in_ok-put_processes.field-0 c.put_counts.result c.in_ok-put_processes.ensures
    (puts_both (numbered (codes "turns") c.args.turns)
    (counts_line counted) _ _ _ _ _ _ c.in_ok-put_turns.field-0 c.put_counts.result c.in_ok-put_turns.ensures c.put_counts.ensures))
