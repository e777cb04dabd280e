use Rattle.std.proofs.Common.{refl}
use Rattle.rb_recovery.proofs.Releasing.LinesLent.{has_lent, line_lent}
use Rattle.rb_recovery.proofs.parts.Parts.released.Goals as goal

pub returns : goal.returns
returns g c =
    let one = c.index_mut.result.now in
    let after = c.released.follows.lender-at-none in
    let read = c.index_mut.ensures.value in
    let is = c.released.follows.holds-at-none in (
      (refl, λ _. tt, has_lent c.args.self.now c.args.p one after c.requires read is),
      record { lent = line_lent c.args.self.now.procs.items c.args.p one after c.requires read is _ c.released.ensures.lent; after = tt },
    )
