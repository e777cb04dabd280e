use Rattle.rb_walk.specs.States.{state_of}
use Rattle.rb_walk.proofs.Lines.{line_held}
use Rattle.rb_walk.proofs.state.State.print.Goals as goal

pub returns : goal.returns
returns c =
    rw c.in_ok-line.ensures (line_held (state_of c.args.self.now) c.in_ok-line.line.items c.add.new.self c.add.result c.add.ensures)
