use Rattle.std.proofs.Common.{take, Ok}
use Rattle.rb_outside.specs.declared.Failed.{Failed}
use Rattle.rb_outside.specs.Puts.{Puts}
use Rattle.rb_domino.specs.Written.{line_text}
use Rattle.rb_domino.proofs.text.write_line.Given as goal

-- the lines so far were put
abbrev pub invariant-loop-p : goal.invariant-loop-p
invariant-loop-p g l =
    Puts {T = Unit {0}} {E = Failed} (line_text (take l.p l.names) (take l.p l.states)) (g.S.Sink.written l.initial.out)
    (g.S.Sink.written l.out) (g.S.Sink.faults l.initial.out) (g.S.Sink.faults l.out) (Ok tt)
