-- The recovery blocks around a statement, as they lie in memory.
use Rattle.std.specs.Prelude.{ℕ, List, [], ◌∷◌, Option, option_map}
use Rattle.rb_syntax.specs.Tree.{Identifier}
use Rattle.rb_syntax.specs.Plain.{identifier}
use Rattle.rb_nest.specs.declared.blocks.Blocks.{Blocks, None as no_block, Within'}

-- the conversation of each, if it has one, the innermost first
abbrev pub blocks_of : Blocks → List (Option Identifier)
blocks_of no_block = []
blocks_of (Within' joined pointer around) = option_map (λ one. identifier one.name) joined ∷ blocks_of around

-- the number that is kept of each conversation
abbrev pub numbers_of : Blocks → List (Option ℕ)
numbers_of no_block = []
numbers_of (Within' joined pointer around) = option_map (λ one. one.number) joined ∷ numbers_of around
