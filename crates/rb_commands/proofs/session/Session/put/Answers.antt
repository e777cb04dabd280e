use Rattle.std.proofs.Common.{subst}
use Rattle.rb_commands.specs.Held.{HoldsSession}
use Rattle.rb_commands.proofs.Sessions.{all_end}
use Rattle.rb_commands.proofs.session.Session.put.Goals as goal

pub show-requires-clause-prepared : goal.show-requires-clause-prepared
show-requires-clause-prepared g c =
    let held = subst (HoldsSession c.requires.0) c.in-All.is c.requires.2 in (held.0, held.2)

pub show-requires-clause-read : goal.show-requires-clause-read
show-requires-clause-read g c =
    let held = subst (HoldsSession c.requires.0) c.in-All.is c.requires.2 in held.3

pub show-requires-clause-short : goal.show-requires-clause-short
show-requires-clause-short g c =
    let held = subst (HoldsSession c.requires.0) c.in-All.is c.requires.2 in held.4

pub returns : goal.returns
returns g c =
    rw c.in-All.is
    (λ texts many holds. all_end c.in-All.prepared c.in-All.schedule c.in-All.turns c.in-All.session (g.S.Sink.written c.args.out.now)
    (g.S.Sink.written c.show.new.out) (g.S.Sink.faults c.args.out.now) (g.S.Sink.faults c.show.new.out) c.show.result
    c.show.ensures texts holds)
