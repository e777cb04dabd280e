-- The variables before this one have another name.
use Rattle.std.proofs.Common.{◌≡◌, drop}
use Rattle.std.specs.List.{position_from}
use Rattle.rb_walk.proofs.Places.{is_named}
use Rattle.rb_walk.proofs.environment.place_of.Given as goal

abbrev pub invariant-loop-place : goal.invariant-loop-place
invariant-loop-place l = position_from (is_named l.name) l.place (drop l.place l.slots) ≡ position_from (is_named l.name) 0 l.slots
