use Rattle.std.proofs.Common.{take, ap, ◌∙◌, arith, length, length-drop}
use Rattle.rb_page.proofs.Passing.{passed_on, took}
use Rattle.rb_page.proofs.escaped.Escaped.settle.Goals as goal

pub invariant_of-self-in-loop-self : goal.invariant_of-self-in-loop-self
invariant_of-self-in-loop-self g c =
    let at = c.loop-self.self in
    let now = g.S.Sink.written at.sink in
    let after = g.S.Sink.written c.put.new.self in
    let shown = c.as_slice.result.now in
    let left = c.left_of-self.result.items in
    let wrote = c.in_ok-n.ensures.ok in
    let same = took now after at.rest.items shown left c.in_ok-n.n c.as_slice.ensures.value wrote c.left_of-self.ensures in
    record { passes = passed_on (g.S.Sink.written at.start.value) now after at.rest.items left (take c.in_ok-n.n shown) wrote same at.passes }

pub loop-self-preserved : goal.loop-self-preserved
loop-self-preserved g c =
    let at = c.loop-self.self in
    let now = g.S.Sink.written at.sink in
    let after = g.S.Sink.written c.put.new.self in
    let same = took now after at.rest.items c.as_slice.result.now c.left_of-self.result.items c.in_ok-n.n c.as_slice.ensures.value
    c.in_ok-n.ensures.ok c.left_of-self.ensures in
    record {
      start = c.loop-self.invariant.start;
      same = same ∙ c.loop-self.invariant.same;
      quiet = ap (λ faults. faults.count) c.in_ok-n.ensures.quiet ∙ c.loop-self.invariant.quiet;
    }

pub loop-self-smaller : goal.loop-self-smaller
loop-self-smaller g c =
    let rest = c.loop-self.self.rest.items in
    let left = ap length c.left_of-self.ensures ∙ length-drop c.in_ok-n.n rest in
    omega (arith, left, ap length c.as_slice.ensures.value, c.in_ok-n.ensures.some, c.in_ok-n.ensures.fits)
