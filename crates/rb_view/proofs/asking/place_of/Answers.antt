use Rattle.std.proofs.Common.{ap, ◌∙◌}
use Rattle.rb_picture.specs.Trace.{place_at}
use Rattle.rb_view.proofs.asking.place_of.Goals as goal

pub returns : goal.returns
returns g c q there = c.place_at.ensures ∙ ap (place_at c.args.places.now) (c.address_of.ensures q there)
