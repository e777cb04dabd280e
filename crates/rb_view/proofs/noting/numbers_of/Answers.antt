use Rattle.rb_view.proofs.Kept.{numbers_seen}
use Rattle.rb_view.proofs.noting.numbers_of.Goals as goal

pub returns : goal.returns
returns g c ends there =
    numbers_seen c.args.machine.now c.requires.steady c.args.channel ends c.channel_view-view.result there c.channel_view-view.ensures.view
