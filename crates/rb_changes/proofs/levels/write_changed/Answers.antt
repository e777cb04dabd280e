use Rattle.rb_changes.proofs.levels.write_changed.Goals as goal

pub returns : goal.returns
returns g c = rw (← c.level_at.ensures) c.write_if_other.ensures
