use Rattle.rb_prepare.proofs.Operands.RoomFound.{accepted_find_room}
use Rattle.rb_prepare.proofs.laws.accepted_find_room.Goals as goal

pub returns : goal.returns
returns c = accepted_find_room
