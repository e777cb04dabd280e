use Rattle.std.proofs.Common.{◌≡◌, ◌+◌, ◌<◌}
use Rattle.rb_nest.specs.Rules.{conversations_around}
use Rattle.rb_nest.specs.Blocks.{blocks_of}
use Rattle.rb_nest.proofs.blocks.Blocks.has_room.Given as goal

-- those so far and the others are all, and there is room behind those so far
abbrev pub invariant-around : goal.invariant-around
invariant-around l = record {
  counted : conversations_around (blocks_of l.rest) + l.conversations ≡ conversations_around (blocks_of l.initial.rest);
  room : l.conversations < 8;
}
