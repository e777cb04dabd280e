use Rattle.std.proofs.Common.{ap, ◌∙◌}
use Rattle.rb_world.specs.World.{last_of}
use Rattle.rb_recoverable.specs.Contents.{Contents}
use Rattle.rb_recoverable.proofs.Looked.{last_there}
use Rattle.rb_recoverable.proofs.recoverable.Recoverable.last_held.Goals as goal

pub returns : goal.returns
returns g c =
    c.last_held.ensures ∙ last_there c.self.inside.hold.held ∙ ap (λ (r : Contents). last_of r.held) c.self.view_is
