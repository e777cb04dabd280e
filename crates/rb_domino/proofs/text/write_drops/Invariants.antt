use Rattle.std.proofs.Common.{take, Ok}
use Rattle.std.specs.List.{flat_map}
use Rattle.rb_outside.specs.declared.Failed.{Failed}
use Rattle.rb_outside.specs.Puts.{Puts}
use Rattle.rb_domino.specs.Written.{drop_text}
use Rattle.rb_domino.proofs.text.write_drops.Given as goal

-- the drops so far were put
abbrev pub invariant-loop-drop : goal.invariant-loop-drop
invariant-loop-drop g l =
    Puts {T = Unit {0}} {E = Failed} (flat_map (drop_text l.history) (take l.drop-index l.drops)) (g.S.Sink.written l.initial.out)
    (g.S.Sink.written l.out) (g.S.Sink.faults l.initial.out) (g.S.Sink.faults l.out) (Ok tt)
