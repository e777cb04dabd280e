use Rattle.std.proofs.Common.{ℕ, List, decimal, take, Ok}
use Rattle.std.specs.List.{flat_map}
use Rattle.rb_outside.specs.declared.Failed.{Failed}
use Rattle.rb_outside.specs.Puts.{Puts}
use Rattle.rb_trace.specs.Lines.{spaced_word}
use Rattle.rb_code.proofs.line.put_alternates.Given as goal

-- the addresses so far were written
abbrev pub invariant-loop-address : goal.invariant-loop-address
invariant-loop-address g l =
    let each : ℕ → List ℕ = λ value. spaced_word (decimal value) in
    Puts {T = Unit {0}} {E = Failed} (flat_map each (take l.address-index l.alternates)) (g.S.Sink.written l.initial.out)
    (g.S.Sink.written l.out) (g.S.Sink.faults l.initial.out) (g.S.Sink.faults l.out) (Ok tt)
