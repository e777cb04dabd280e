use Rattle.std.proofs.Common.{subst}
use Rattle.rb_commands.specs.Held.{HoldsLoaded}
use Rattle.rb_commands.proofs.Images.{both_end}
use Rattle.rb_commands.proofs.load.Load.put.Goals as goal

pub run-requires : goal.run-requires
run-requires g c =
    let held = subst (HoldsLoaded c.requires.0) c.in-Both.is c.requires.2 in held.3

pub returns : goal.returns
returns g c =
    rw c.in-Both.is
    (λ texts many holds. both_end c.in-Both.image c.in-Both.text (g.S.Sink.written c.args.out.now)
    (g.S.Sink.written c.run.new.out) (g.S.Sink.faults c.args.out.now) (g.S.Sink.faults c.run.new.out) c.run.result
    c.run.ensures texts holds)
