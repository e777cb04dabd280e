use Rattle.std.proofs.Common.{arith}
use Rattle.rb_page.proofs.Passing.{passed_or_not}
use Rattle.rb_page.proofs.escaped.Escaped.pass.Goals as goal

pub invariant_of-self : goal.invariant_of-self
invariant_of-self g c =
    let old = c.args.self.now in
    record {
      passes = passed_or_not c.put.result (g.S.Sink.written old.start.value) (g.S.Sink.written old.sink) (g.S.Sink.written c.put.new.self) old.rest.items
          c.args.byte c.requires.settled c.requires.plain (omega arith) c.put.ensures.some c.put.ensures.fits c.put.ensures.ok c.put.ensures.err old.passes;
    }
