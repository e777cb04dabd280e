use Rattle.rb_view.proofs.Kept.{level_is}
use Rattle.rb_view.proofs.noting.level_at.Goals as goal

pub returns : goal.returns
returns g c q level there is =
    level_is c.args.machine.now _ level c.level-view.result c.entered.result is (c.level-view.ensures q there) (c.entered.ensures q there)
