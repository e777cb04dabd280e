use Rattle.std.proofs.Common.{take, Ok}
use Rattle.rb_outside.specs.declared.Failed.{Failed}
use Rattle.rb_outside.specs.Puts.{Puts}
use Rattle.rb_page.specs.Escape.{escaped}
use Rattle.rb_page.proofs.escape.put_escaped.Given as goal

-- the bytes so far were put
abbrev pub invariant-loop-byte : goal.invariant-loop-byte
invariant-loop-byte g l =
    Puts {T = Unit {0}} {E = Failed} (escaped (take l.byte-index l.text)) (g.S.Sink.written l.initial.out)
    (g.S.Sink.written l.out) (g.S.Sink.faults l.initial.out) (g.S.Sink.faults l.out) (Ok tt)
