-- What is left of a process's text, as memory keeps it: statements that stand one after another are one slice of the tree.
use Rattle.std.specs.Prelude.{◌≡◌, List, [], ◌∷◌}
use Rattle.rb_syntax.specs.Plain.{command, commands_of, recovery_block}
use Rattle.rb_meaning.specs.Environment.{rest_of}
use Rattle.rb_meaning.specs.State.{Item as Left, Perform, StartOf, TestOf, EndBlock as BlockEnds, EndCall as CallEnds, performed}
use Rattle.rb_walk.specs.declared.items.Item.{Item}
use Rattle.rb_walk.specs.declared.items.Item.TheVariants.{Statements, Start, Test, EndBlock, EndCall}
use Rattle.rb_walk.specs.declared.items.First.{First}
use Rattle.rb_walk.specs.declared.items.First.TheVariants as first

-- what entries in memory stand for, the next one first
abbrev pub items_of : List Item → List Left
items_of [] = []
items_of (Statements statements ∷ rest) = performed (commands_of statements.now) (items_of rest)
items_of (Start block ∷ rest) = StartOf (recovery_block block.now) ∷ items_of rest
items_of (Test block ∷ rest) = TestOf (recovery_block block.now) ∷ items_of rest
items_of (EndBlock ∷ rest) = BlockEnds ∷ items_of rest
items_of (EndCall ∷ rest) = CallEnds ∷ items_of rest

-- this item stands first
abbrev pub StandsFirst : Left → List Left → Type 0
StandsFirst item items = items ≡ item ∷ rest_of items

-- what stands first in what is left
abbrev pub IsFirst : List Left → First → Type 0
IsFirst items first.Nothing = items ≡ []
IsFirst items (first.Statement statement) = StandsFirst (Perform (command statement.now)) items
IsFirst items (first.Start block) = StandsFirst (StartOf (recovery_block block.now)) items
IsFirst items (first.Test block) = StandsFirst (TestOf (recovery_block block.now)) items
IsFirst items first.BlockEnd = StandsFirst BlockEnds items
IsFirst items first.CallEnd = StandsFirst CallEnds items
