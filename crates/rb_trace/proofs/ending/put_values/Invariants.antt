use Rattle.std.proofs.Common.{ℕ, ℤ, List, take, Ok}
use Rattle.std.specs.List.{flat_map}
use Rattle.std.specs.Fmt.{signed_decimal}
use Rattle.rb_outside.specs.declared.Failed.{Failed}
use Rattle.rb_outside.specs.Puts.{Puts}
use Rattle.rb_trace.specs.Lines.{spaced_word}
use Rattle.rb_trace.proofs.ending.put_values.Given as goal

-- the values so far were written
abbrev pub invariant-loop-value : goal.invariant-loop-value
invariant-loop-value g l =
    let each : ℤ → List ℕ = λ value. spaced_word (signed_decimal value) in
    Puts {T = Unit {0}} {E = Failed} (flat_map each (take l.value-index l.values)) (g.S.Sink.written l.initial.out)
    (g.S.Sink.written l.out) (g.S.Sink.faults l.initial.out) (g.S.Sink.faults l.out) (Ok tt)
