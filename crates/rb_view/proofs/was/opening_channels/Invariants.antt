-- So far nothing was sent on each channel.
use Rattle.std.proofs.Common.{◌≡◌, map, take}
use Rattle.rb_code.specs.Instructions.Plain.{channel}
use Rattle.rb_view.specs.Noting.{first_numbers}
use Rattle.rb_view.proofs.was.opening_channels.Given as goal

abbrev pub invariant-loop-channel : goal.invariant-loop-channel
invariant-loop-channel l = l.numbers.items ≡ map first_numbers (map channel (take l.channel-index l.channels))
