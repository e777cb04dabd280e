use Rattle.std.proofs.Common.{ℕ, Vec, take, Ok}
use Rattle.std.specs.List.{flat_map}
use Rattle.std.specs.declared.alloc.Global.{Global}
use Rattle.rb_outside.specs.declared.Failed.{Failed}
use Rattle.rb_outside.specs.Puts.{Puts}
use Rattle.rb_trace.specs.Naming.{naming}
use Rattle.rb_trace.specs.Report.{out_line}
use Rattle.rb_plain.proofs.playing.write_lines.Given as goal

-- the lines so far were written
abbrev pub invariant-loop-line : goal.invariant-loop-line
invariant-loop-line g l =
    let text = flat_map (λ (line : Vec ℕ Global). out_line (naming l.names) l.turn l.process line.items) (take l.line-index l.lines) in
    Puts {T = Unit {0}} {E = Failed} text (g.S.Sink.written l.initial.out) (g.S.Sink.written l.out)
    (g.S.Sink.faults l.initial.out) (g.S.Sink.faults l.out) (Ok tt)
