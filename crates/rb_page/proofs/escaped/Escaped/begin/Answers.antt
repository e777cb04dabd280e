use Rattle.std.proofs.Common.{[], ◌∷◌, take, arith}
use Rattle.rb_page.proofs.Passing.{begun, one_byte, put_on}
use Rattle.rb_page.proofs.escaped.Escaped.begin.Goals as goal

pub invariant_of-self-2 : goal.invariant_of-self-2
invariant_of-self-2 g c =
    let old = c.args.self.now in
    let left = c.behind_sign-self.result.items in
    record {
      passes = put_on (g.S.Sink.written old.start.value) (g.S.Sink.written old.sink) (g.S.Sink.written c.put.new.self) old.rest.items left (c.args.byte ∷ [])
          (take c.in_ok-_n._n (38 ∷ [])) c.in_ok-_n.ensures.ok (one_byte c.args.byte (omega arith))
          (begun _ _ old.rest.items left c.args.byte c.in_ok-_n._n c.requires.settled c.requires.other c.behind_sign-self.ensures c.in_ok-_n.ensures.some
          c.in_ok-_n.ensures.fits c.in_ok-_n.ensures.ok) old.passes;
    }

pub returns-clause-ok : goal.returns-clause-ok
returns-clause-ok g c =
    begun _ _ c.args.self.now.rest.items c.behind_sign-self.result.items c.args.byte c.in_ok-_n._n c.requires.settled c.requires.other
    c.behind_sign-self.ensures c.in_ok-_n.ensures.some c.in_ok-_n.ensures.fits c.in_ok-_n.ensures.ok
