use Rattle.std.proofs.Common.{[], ◌∷◌, get_or, ap, ◌∙◌, arith}
use Rattle.rb_outside.specs.Outside.{then_written}
use Rattle.rb_page.specs.Escape.{escaped}
use Rattle.rb_page.specs.Told.{put_since, told}
use Rattle.rb_page.proofs.Passing.{first_byte, one_byte, told_more}
use Rattle.rb_page.proofs.escaped.EscapedSink.put.Goals as goal

pub returns-clause-ok : goal.returns-clause-ok
returns-clause-ok g c =
    let old = c.args.self.now in
    let new = c.take_byte.new.self in
    let first = get_or c.args.bytes.now 0 0 in
    let start = g.S.Sink.written old.start.value in
    let before = told start (put_since start (then_written (g.S.Sink.written old.sink) old.rest.items)) in
    told_more start (g.S.Sink.written new.start.value) (g.S.Sink.written old.sink) (then_written (g.S.Sink.written new.sink) new.rest.items) old.rest.items
    (first ∷ []) (ap g.S.Sink.written (c.take_byte.ensures.start ∙ c.settle.ensures.start)) old.passes
    (one_byte first (omega (arith, c.type_inv.bytes 0)))
    (c.in_ok-take_byte.ensures.ok ∙ ap (λ v. then_written v (escaped (first ∷ []))) c.settle.ensures.same)
    ∙ ap (then_written before) (first_byte c.args.bytes.now 0 c.requires)
