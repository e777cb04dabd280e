use Rattle.std.proofs.Common.{◌≡◌, ◌≤◌, map, take, length, vec_capacity, vec_len}
use Rattle.rb_conv.specs.Conversations.{opened}
use Rattle.rb_conv.proofs.table.Table.new.Given as goal

-- the conversations of the groups before this one, and there is room for all
abbrev pub invariant-loop-group : goal.invariant-loop-group
invariant-loop-group l =
    record {
      same : l.conversations.items ≡ map opened (take l.group-index l.group-items);
      many : vec_len l.conversations ≡ l.group-index;
      room : length l.group-items ≤ vec_capacity l.conversations;
    }
