-- Where the printed variables of a code lie.
use Rattle.std.specs.List.{AllByRecursion}
use Rattle.rb_base.specs.declared.names.ProcessNames.{ProcessNames}
use Rattle.rb_trace.specs.Fitting.{LiesWithin}
use Rattle.rb_code.specs.Instructions.Plain.{Part}

-- the variables that are printed of a process lie within its words
abbrev pub VariablesLie : ProcessNames → Part → Type 0
VariablesLie names part = AllByRecursion (LiesWithin part.words) names.variables.items
