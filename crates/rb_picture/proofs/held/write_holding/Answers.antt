use Rattle.std.proofs.Common.{arith}
use Rattle.std.specs.Prelude.{option_copied}
use Rattle.rb_outside.proofs.Puts.{puts_both, puts_same}
use Rattle.rb_changes.specs.Changes.{held_line, last_line}
use Rattle.rb_picture.proofs.Holding.{one_more}
use Rattle.rb_picture.proofs.held.write_holding.Goals as goal

pub returns-then-now-was : goal.returns-then-now-was
returns-then-now-was g c held long last =
    puts_same _ _ _ _ _ _ _
    (one_more c.args.turn c.args.was c.args.now c.args.process.now held long (omega (arith, c.if-was-now.false)) (omega (arith, c.if-now-was.true))
    (option_copied c.args.last) last)
    (puts_both (held_line c.args.turn c.args.process.now c.args.now)
    (last_line c.args.turn c.args.process.now c.args.now (option_copied c.args.last)) _ _ _ _ _ _ _ _ c.in_ok-write_held.ensures
    c.write_last.ensures)
