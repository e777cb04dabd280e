use Rattle.rb_why.proofs.Telling.{bytes_of, tells_cut, tells_last}
use Rattle.rb_why.proofs.expected.told_among.Goals as goal

pub loop-rest-preserved : goal.loop-rest-preserved
loop-rest-preserved c =
    λ words h. c.loop-rest.invariant words
    (tells_cut c.args.before.now c.args.line c.loop-rest.rest.now _ (bytes_of c.loop-rest.told.items) (bytes_of c.in_ok-told.told.items) words
    c.in-len1-up.len_at_least
    c.in_ok-told.ensures h)

pub returns : goal.returns
returns c =
    c.loop-rest.invariant (bytes_of c.loop-rest.told.items)
    (tells_last c.args.before.now c.args.line c.loop-rest.rest.now (bytes_of c.loop-rest.told.items) c.in_default.len_below)
