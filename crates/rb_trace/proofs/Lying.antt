-- Variables lie where their names say.
use Rattle.std.proofs.Common.{ℕ, ◌+◌, ◌≤◌, List, [], ◌∷◌, map}
use Rattle.std.specs.List.{AllByRecursion}
use Rattle.rb_base.specs.declared.names.Variable.{Variable}
use Rattle.rb_world.specs.Text.{VariableNaming, size_of}
use Rattle.rb_trace.specs.Fitting.{LiesWithin}
use Rattle.rb_trace.specs.Naming.{variable_naming}

-- where what lines name lies within so many words, so do the variables
pub variables_within : (words : ℕ) (items : List Variable)
    → AllByRecursion (λ (named : VariableNaming). named.at + size_of named.size ≤ words) (map variable_naming items)
    → AllByRecursion (LiesWithin words) items
variables_within words [] lie = tt
variables_within words (one ∷ items) (here, others) = (here, variables_within words items others)
