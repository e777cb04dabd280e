-- What the entry of a recovery block asks for, and the alternate at which it is entered.
use Rattle.std.specs.Prelude.{◌≡◌, ◌<◌, ℕ, cond, List, length, slice_get, Option, Some, None}
use Rattle.rb_world.specs.World.{Talk}
use Rattle.rb_code.specs.Instructions.Plain.{Block, Code}
use Rattle.rb_conv.specs.Conversations.{Conversation, conversation_at}

-- the block is there, and so is its conversation, if it has one
pub record IsListedBlock (c : Code) (table : List Conversation) (b : ℕ) : Type 0 where
  pub block : Block
  pub there : slice_get c.blocks b ≡ Some block
  pub listed : (d : ℕ) → block.conversation ≡ Some d → d < length table

-- the alternate at which a member joins a conversation: the present one, unless that is broken for good
abbrev pub joined_at : Talk → Option ℕ
joined_at talk = cond talk.is_broken None (Some talk.alternate)

-- the alternate at which a block of this conversation is entered, and the first where it is of none
abbrev pub entry_at : List Conversation → Option ℕ → Option ℕ
entry_at table None = Some 1
entry_at table (Some d) = joined_at (conversation_at table d).talk
