-- The names that lines speak of, from the names in memory, and how a process's state is told. What this crate defines is this
-- project's own.
use Rattle.std.specs.Prelude.{map}
use Rattle.rb_base.specs.declared.names.Names.{Names}
use Rattle.rb_base.specs.declared.names.ProcessNames.{ProcessNames}
use Rattle.rb_base.specs.declared.names.Variable.{Variable}
use Rattle.rb_world.specs.Text.{Naming, ProcessNaming, VariableNaming}

-- a variable: its name, its first word and its size
abbrev pub variable_naming : Variable → VariableNaming
variable_naming variable = record { name = variable.name; at = variable.at; size = variable.size }

-- a process: its name, and the names of its variables
abbrev pub process_naming : ProcessNames → ProcessNaming
process_naming process = record { name = process.name; variables = map variable_naming process.variables.items }

-- all names that lines speak of
abbrev pub naming : Names → Naming
naming names = record {
  processes = map process_naming names.processes.items;
  channels = names.channels.items;
  conversations = names.conversations.items;
}
