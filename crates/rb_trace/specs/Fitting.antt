-- When names fit what is written with them.
use Rattle.std.specs.Prelude.{◌≡◌, ℕ, ℤ, ◌+◌, ◌^◌, ◌<◌, ◌≤◌, List, length}
use Rattle.std.specs.List.{AllByRecursion, AllZip}
use Rattle.rb_base.specs.declared.names.Names.{Names}
use Rattle.rb_base.specs.declared.names.ProcessNames.{ProcessNames}
use Rattle.rb_base.specs.declared.names.Variable.{Variable}
use Rattle.rb_world.specs.Text.{size_of}

-- a variable lies within so many words
abbrev pub LiesWithin : ℕ → Variable → Type 0
LiesWithin words variable = variable.at + size_of variable.size ≤ words

-- the variables of a process lie within its words, which are numbered by 32 bits
abbrev pub ProcessFits : ProcessNames → List ℤ → Type 0
ProcessFits process words = AllByRecursion (LiesWithin (length words)) process.variables.items × (length words < 2 ^ 32)

-- Each process has words that its variables lie in, each channel has its two counts, and 32 bits number both.
pub record Fits (names : Names) (words : List (List ℤ)) (sent_counts taken_counts : List ℕ) : Type 0 where
  pub processes : AllZip ProcessFits names.processes.items words
  pub sent : length sent_counts ≡ length names.channels.items
  pub taken : length taken_counts ≡ length names.channels.items
