-- Where an instruction leads, as it is kept: the steps of a way, with the lists that were made for it.
use Rattle.std.specs.Prelude.{◌≡◌, Bool, true, false, [], slice_get, Some, None}
use Rattle.rb_code.specs.SoundCode.Sound.{alternates_at}
use Rattle.rb_code.specs.Instructions.Plain.{Code}
use Rattle.rb_flow.specs.Flow.{Steps, goes, goes_both, goes_to_each}
use Rattle.rb_flow.specs.Held.{HasGrown, IsHeld, entry_of}
use Rattle.rb_flow.specs.declared.lists.Lists.{Lists}
use Rattle.rb_flow.specs.declared.way.Way.{Way}
use Rattle.rb_flow.specs.declared.way.Way.TheVariants.{Broken, Ends, One, Two, Each}

-- where an instruction leads
abbrev pub steps_of : Code → Lists → Way → Steps
steps_of c lists Broken = None
steps_of c lists Ends = Some []
steps_of c lists (One b x) = goes b (entry_of lists x)
steps_of c lists (Two b x d y) = goes_both b (entry_of lists x) d (entry_of lists y)
steps_of c lists (Each x b) = goes_to_each (entry_of lists x) (alternates_at (slice_get c.blocks b))

-- the lists of where it leads are there
abbrev pub AreHeld : Lists → Way → Type 0
AreHeld lists (One b x) = IsHeld lists x
AreHeld lists (Two b x d y) = IsHeld lists x × IsHeld lists y
AreHeld lists (Each x b) = IsHeld lists x
AreHeld lists _ = Unit {0}

-- where an instruction leads, with the lists that were made for it
pub record IsFlow (c : Code) (before after : Lists) (way : Way) (steps : Steps) : Type 0 where
  pub leads : steps_of c after way ≡ steps
  pub held : AreHeld after way
  pub grown : HasGrown before after

-- where an instruction leads if a test holds
abbrev pub chosen : Bool → Way → Way
chosen true way = way
chosen false way = Broken
