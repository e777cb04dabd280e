use Rattle.std.proofs.Common.{◌≡◌, length}
use Rattle.rb_outside.specs.Outside.{then_written}
use Rattle.rb_page.proofs.escaped.Escaped.settle.Given as goal

abbrev pub invariant-loop-self : goal.invariant-loop-self
invariant-loop-self g l = record {
  start : l.self.start.value ≡ l.initial.self.start.value;
  same : then_written (g.S.Sink.written l.self.sink) l.self.rest.items ≡ then_written (g.S.Sink.written l.initial.self.sink) l.initial.self.rest.items;
  quiet : (g.S.Sink.faults l.self.sink).count ≡ (g.S.Sink.faults l.initial.self.sink).count;
}

abbrev pub decreases-loop-self : goal.decreases-loop-self
decreases-loop-self g l = length l.self.rest.items
