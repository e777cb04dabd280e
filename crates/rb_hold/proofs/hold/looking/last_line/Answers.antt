use Rattle.std.proofs.Common.{rules}
use Rattle.rb_hold.proofs.Last.{last_is}
use Rattle.rb_hold.proofs.hold.looking.last_line.Goals as goal

pub returns : goal.returns
returns c =
    let start = c.start_of_last-start in
    last_is c.args.bytes.now start.result c.requires (search rules) (search rules) start.ensures.line start.ensures.behind
