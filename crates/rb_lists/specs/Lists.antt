-- What is decided of the lists of a code and its conversations.
use Rattle.rb_base.specs.declared.names.Nested.{Nested}
use Rattle.rb_conv.specs.Conversations.{memberships, opening}
use Rattle.rb_code.specs.Instructions.Plain.{code as plain}
use Rattle.rb_code.specs.SoundCode.WellFormed.{IsWellFormed}
use Rattle.rb_code.specs.declared.code.Code.{Code}
use Rattle.rb_lists.specs.Variables.{LieInParts}

-- the lists are well formed, and each variable that is printed lies within the words of its process
pub record HasLists (code : Code) (nested : Nested) : Type 0 where
  pub well : IsWellFormed (plain code) (memberships (opening nested))
  pub lie : LieInParts code.names.processes.items (plain code).processes
