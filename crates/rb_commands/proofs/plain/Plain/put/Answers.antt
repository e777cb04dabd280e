use Rattle.std.proofs.Common.{subst}
use Rattle.rb_commands.specs.Held.{HoldsRecord}
use Rattle.rb_commands.proofs.Recorded.{both_end}
use Rattle.rb_commands.proofs.plain.Plain.put.Goals as goal

pub play-requires-clause-judged : goal.play-requires-clause-judged
play-requires-clause-judged g c =
    let held = subst (HoldsRecord c.requires.0) c.in-Both.is c.requires.2 in (held.0, held.3)

pub play-requires-clause-known : goal.play-requires-clause-known
play-requires-clause-known g c =
    let held = subst (HoldsRecord c.requires.0) c.in-Both.is c.requires.2 in held.5

pub returns : goal.returns
returns g c =
    rw c.in-Both.is
    (λ texts many holds. both_end c.in-Both.judged c.in-Both.turns (g.S.Sink.written c.args.out.now)
    (g.S.Sink.written c.play.new.out) (g.S.Sink.faults c.args.out.now) (g.S.Sink.faults c.play.new.out) c.play.result
    c.play.ensures texts holds)
