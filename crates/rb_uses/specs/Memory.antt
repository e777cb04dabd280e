-- What uses and spots in memory stand for.
use Rattle.std.specs.Prelude.{◌≡◌, List, ◌++◌, map}
use Rattle.rb_syntax.specs.Tree.{Tree}
use Rattle.rb_syntax.specs.Plain.{identifier, tree}
use Rattle.rb_meaning.specs.Nesting.{Deed as PlainDeed, Joins, Sends, Receives, Spot as PlainSpot, Use as PlainUse}
use Rattle.rb_uses.specs.declared.usage.Deed.{Deed}
use Rattle.rb_uses.specs.declared.usage.Deed.TheVariants.{Joins as joins_so_many, Sends as sends_it, Receives as receives_it}
use Rattle.rb_uses.specs.declared.usage.Use.{Use}
use Rattle.rb_uses.specs.declared.spot.Spot.{Spot}
use Rattle.rb_nest.specs.Blocks.{blocks_of}
use Rattle.rb_uses.specs.Summary.{Summary, summary}

-- the deed that one in memory stands for
abbrev pub deed_of : Deed → PlainDeed
deed_of (joins_so_many alternates) = Joins alternates
deed_of sends_it = Sends
deed_of receives_it = Receives

-- what a use in memory tells
abbrev pub held : Use → Summary
held one = record {
  name = identifier one.name;
  number = one.number;
  deed = deed_of one.deed;
  process = one.process;
  in_procedure = one.in_procedure;
  within = one.within;
  all_converse = one.all_converse;
  has_room = one.has_room;
}

abbrev pub all_held : List Use → List Summary
all_held uses = map held uses

-- the spot that one in memory stands for
abbrev pub spot_of : Spot → PlainSpot
spot_of spot = record { process = spot.process; in_procedure = spot.in_procedure; around = blocks_of spot.around.now }

-- those so far, and behind them these uses of a tree
abbrev pub with_uses : Tree → List Use → List PlainUse → List Summary
with_uses tree old uses = all_held old ++ map (summary tree) uses

-- behind those so far stand these uses of a tree
abbrev pub AddsTo : Tree → List Use → List Use → List PlainUse → Type 0
AddsTo tree old new uses = all_held new ≡ with_uses tree old uses

-- the same for the program of a spot
abbrev pub Adds : Spot → List Use → List Use → List PlainUse → Type 0
Adds spot old new uses = AddsTo (tree spot.program.now) old new uses
