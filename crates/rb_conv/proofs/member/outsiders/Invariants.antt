use Rattle.std.proofs.Common.{◌≡◌, ◌≤◌, map, take, length, vec_capacity, vec_len}
use Rattle.rb_conv.specs.Conversations.{outsider}
use Rattle.rb_conv.proofs.member.outsiders.Given as goal

-- the members of those before this one, and there is room for all
abbrev pub invariant-loop-process : goal.invariant-loop-process
invariant-loop-process l =
    record {
      same : l.members.items ≡ map outsider (take l.process-index l.processes);
      many : vec_len l.members ≡ l.process-index;
      room : length l.processes ≤ vec_capacity l.members;
    }
