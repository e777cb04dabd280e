-- What a survey leaves of a machine.
use Rattle.std.specs.Prelude.{◌≡◌}
use Rattle.rb_machine.specs.Machine.{Seen}
use Rattle.rb_stuck.specs.Alike.{IsAlike}
use Rattle.rb_stuck.specs.declared.standing.Standing.{Standing}
use Rattle.rb_stuck.specs.declared.standing.Standing.TheVariants.{Ended, Stuck, Open}

-- its program is as before, and its world but for turns used
pub record HasStood (old new : Seen) : Type 0 where
  pub code : new.code ≡ old.code
  pub groups : new.groups ≡ old.groups
  pub world : IsAlike new.world old.world

abbrev pub StandsAfter : Standing → Seen → Seen → Type 0
StandsAfter Ended old new = HasStood old new
StandsAfter Stuck old new = HasStood old new
StandsAfter Open old new = Unit {0}
