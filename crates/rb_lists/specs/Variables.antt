-- Where the printed variables of a code lie.
use Rattle.std.specs.Prelude.{List}
use Rattle.std.specs.List.{AllZip}
use Rattle.rb_base.specs.declared.names.ProcessNames.{ProcessNames}
use Rattle.rb_code.specs.Instructions.Plain.{Part}
use Rattle.rb_code.specs.Instructions.Variables.{VariablesLie}

-- the printed variables of each process lie within its words, and there are as many names as processes
abbrev pub LieInParts : List ProcessNames → List Part → Type 0
LieInParts names parts = AllZip VariablesLie names parts
