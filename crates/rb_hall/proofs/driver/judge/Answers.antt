use Rattle.std.proofs.Common.{arith, refl}
use Rattle.rb_hall.proofs.Driving.{may_take}
use Rattle.rb_hall.proofs.driver.judge.Goals as goal

pub take-requires : goal.take-requires
take-requires g c κs =
    let files = g.C.Command.wanted c.args.command.now in
    let most = c.requires.3 in
    let short = c.if-text-most.false in (
      (refl, tt),
      may_take files (g.C.Command.holds c.args.command.now) c.args.held c.args.text.now c.requires.0 c.requires.1 c.requires.2 (omega (arith, most, short))
          c.requires.4,
    )
