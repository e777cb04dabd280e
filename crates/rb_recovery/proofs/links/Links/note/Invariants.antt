-- The link of the turn comes last, whether it is held or not.
use Rattle.std.proofs.Common.{[], ◌∷◌, ◌++◌}
use Rattle.rb_recovery.proofs.links.Links.note.Given as goal

abbrev pub ghost-after : goal.ghost-after
ghost-after g a = a._before.now.items ++ g.link ∷ []
