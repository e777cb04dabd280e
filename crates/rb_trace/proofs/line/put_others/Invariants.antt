use Rattle.std.proofs.Common.{ℕ, List, take, Bor, Ok}
use Rattle.std.specs.List.{flat_map}
use Rattle.rb_outside.specs.declared.Failed.{Failed}
use Rattle.rb_outside.specs.Puts.{Puts}
use Rattle.rb_trace.specs.Lines.{spaced_word}
use Rattle.rb_trace.proofs.line.put_others.Given as goal

-- the words so far were written
abbrev pub invariant-loop-word : goal.invariant-loop-word
invariant-loop-word g l =
    let each : Bor (List ℕ) → List ℕ = λ word. spaced_word word.now in
    Puts {T = Unit {0}} {E = Failed} (flat_map each (take l.word-index l.words)) (g.S.Sink.written l.initial.out)
    (g.S.Sink.written l.out) (g.S.Sink.faults l.initial.out) (g.S.Sink.faults l.out) (Ok tt)
