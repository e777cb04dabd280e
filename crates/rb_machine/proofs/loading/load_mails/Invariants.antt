-- So far each channel has 0 in its slots.
use Rattle.std.proofs.Common.{◌≡◌, map, take}
use Rattle.rb_world.specs.Slots.{zero_slots}
use Rattle.rb_code.specs.Instructions.Plain.{channel}
use Rattle.rb_machine.proofs.loading.load_mails.Given as goal

abbrev pub invariant-loop-channel : goal.invariant-loop-channel
invariant-loop-channel l = l.mails ≡ zero_slots (map channel (take l.channel-index l.channels))
