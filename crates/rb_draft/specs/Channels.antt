-- The ends and the size of a channel, by the slots of the names of its ends.
use Rattle.std.specs.Prelude.{List}
use Rattle.rb_syntax.specs.Tree.{ChannelDeclaration}
use Rattle.rb_meaning.specs.Environment.{natural}
use Rattle.rb_world.specs.Kind.{Ends}
use Rattle.rb_scope.specs.declared.slot.Slot.{Slot}
use Rattle.rb_draft.specs.Lookups.{process_of}

abbrev pub ends_by : List Slot → ChannelDeclaration → Ends
ends_by slots channel = record {
  sender = process_of slots channel.sender.id;
  receiver = process_of slots channel.receiver.id;
  size = natural channel.size.value;
}
