use Rattle.std.proofs.Common.{subst}
use Rattle.std.specs.Prelude.{nat_lt}
use Rattle.rb_recoverable.specs.Contents.{Contents, TellsHeld}
use Rattle.rb_recoverable.proofs.Leaving.{holds_is}
use Rattle.rb_recoverable.proofs.recoverable.Recoverable.holds.Goals as goal

pub returns : goal.returns
returns g c =
    subst (λ (r : Contents). TellsHeld (nat_lt 0 c.length.result) r.held r.words) c.self.view_is
    (holds_is c.length.result c.self.inside.hold.held c.self.inside.cells.words c.length.ensures c.self.invariant.held c.self.invariant.some)
