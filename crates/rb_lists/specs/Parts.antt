-- What is decided of the lists of a code part by part, as they lie in memory.
use Rattle.std.specs.Prelude.{◌≡◌, ◌≤◌, ◌-◌, ℕ, List, length, map}
use Rattle.std.specs.List.{All}
use Rattle.rb_base.specs.Limits.{most_processes}
use Rattle.rb_base.specs.declared.limits.TheConstants.{MOST_CONNECTIONS, MOST_NESTED}
use Rattle.rb_base.specs.declared.edition.Edition.{Edition}
use Rattle.rb_base.specs.declared.names.Group.{Group}
use Rattle.rb_base.specs.declared.names.Nested.{Nested}
use Rattle.rb_base.specs.declared.names.Names.{Names}
use Rattle.rb_base.specs.declared.names.ProcessNames.{ProcessNames}
use Rattle.rb_trace.specs.Naming.{process_naming}
use Rattle.rb_nest.specs.Groups.{membership, memberships}
use Rattle.rb_code.specs.Instructions.Plain.{block as plain_block, channel as plain_channel, code as plain, part as plain_part}
use Rattle.rb_code.specs.SoundCode.WellFormed.{IsBlock, IsChain, IsPart, JoinsTwo, ListsChannels, Names as NamesThere, NamesProcess}
use Rattle.rb_code.specs.declared.code.BlockCode.{BlockCode}
use Rattle.rb_code.specs.declared.code.ChannelCode.{ChannelCode}
use Rattle.rb_code.specs.declared.code.Code.{Code}
use Rattle.rb_code.specs.declared.code.ProcessCode.{ProcessCode}
use Rattle.rb_lists.specs.Groups.{HasMembers, HasParent}
use Rattle.rb_lists.specs.Naming.{AreNamings, AreQuotable, NamesProcedures}
use Rattle.rb_lists.specs.Variables.{LieInParts}

-- processes, channels and conversations are few
pub record AreFew (code : Code) (nested : Nested) : Type 0 where
  pub processes : length code.processes.items ≤ most_processes code.edition
  pub channels : length code.channels.items ≤ MOST_CONNECTIONS
  pub conversations : length nested.conversations.items ≤ MOST_CONNECTIONS

-- there is one name for each of them
pub record HaveNames (code : Code) (nested : Nested) : Type 0 where
  pub processes : length code.names.processes.items ≡ length code.processes.items
  pub channels : length code.names.channels.items ≡ length code.channels.items
  pub conversations : length code.names.conversations.items ≡ length nested.conversations.items

-- the names that are printed are spelled as a source may spell them
pub record NamesSpelled (edition : Edition) (names : Names) : Type 0 where
  pub processes : All (λ (process : ProcessNames). NamesProcess edition (process_naming process)) names.processes.items
  pub channels : AreNamings edition names.channels.items
  pub conversations : AreNamings edition names.conversations.items

-- and so are all names and texts
pub record AreSpelled (code : Code) : Type 0 where
  pub names : NamesSpelled code.edition code.names
  pub procedures : All (λ (process : ProcessCode). NamesProcedures code.edition process) code.processes.items
  pub texts : AreQuotable code.texts.items

-- sizes and bounds lie within their limits, and numbers name what is there
pub record StandThere (code : Code) (nested : Nested) : Type 0 where
  pub processes : All (λ (process : ProcessCode). IsPart (plain code) (plain_part process)) code.processes.items
  pub channels : All (λ (channel : ChannelCode). JoinsTwo (plain code) (plain_channel channel)) code.channels.items
  pub listed : ListsChannels (plain code)
  pub blocks : All (λ (block : BlockCode). IsBlock (plain code) (memberships nested) (plain_block block)) code.blocks.items
  pub instrs : All (NamesThere (plain code)) code.instrs.items
  pub variables : LieInParts code.names.processes.items (map plain_part code.processes.items)

-- conversations have members, parents that have these too, and few others around them
pub record AreNested (processes : ℕ) (groups : List Group) : Type 0 where
  pub members : All (λ (group : Group). HasMembers processes (membership group)) groups
  pub parents : All (λ (group : Group). HasParent (map membership groups) (membership group)) groups
  pub chains : All (λ (group : Group). IsChain (map membership groups) (MOST_NESTED - 1) group.parent) groups

-- all of these
pub record AreLawful (code : Code) (nested : Nested) : Type 0 where
  pub few : AreFew code nested
  pub named : HaveNames code nested
  pub spelled : AreSpelled code
  pub there : StandThere code nested
  pub nest : AreNested (length code.processes.items) nested.conversations.items
