-- What is looked up by its number.
use Rattle.std.proofs.Common.{◌≡◌, ℕ, zero, suc, List, [], ◌∷◌, slice_get, Some}
use Rattle.rb_world.specs.World.{Talk}
use Rattle.rb_world.proofs.ListFacts.{none_some, some_same}
use Rattle.rb_conv.specs.Conversations.{Conversation, conversation_at, talks}

-- a conversation by its number
pub talk_read : (table : List Conversation) (d : ℕ) (t : Talk) → slice_get (talks table) d ≡ Some t → (conversation_at table d).talk ≡ t
talk_read [] d t e = absurd (none_some e)
talk_read (one ∷ table) zero t e = some_same e
talk_read (one ∷ table) (suc d) t e = talk_read table d t e
