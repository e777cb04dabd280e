-- The channels so far are kept.
use Rattle.std.proofs.Common.{◌≡◌, length, take}
use Rattle.rb_view.specs.Steady.{noted_now}
use Rattle.rb_view.proofs.noting.note_channels.Given as goal

abbrev pub invariant-loop-channel : goal.invariant-loop-channel
invariant-loop-channel g l = record {
  long : length l.kept.items ≡ length l.fn.kept.items;
  noted : take l.channel l.kept.items ≡ take l.channel (noted_now l.machine).channels;
}
