use Rattle.std.proofs.Common.{◌+◌, ◌≤◌, length}
use Rattle.rb_base.specs.Naming.{process_names}
use Rattle.rb_record.proofs.Records.{ReadUpTo}
use Rattle.rb_record.proofs.record.kept_turns.Given as goal

abbrev pub invariant-loop-rest : goal.invariant-loop-rest
invariant-loop-rest l = record {
  lines : l.at + length l.rest ≤ 1048577;
  read : ReadUpTo (process_names l.names) l.text l.turns.items l.last l.at l.rest;
}

abbrev pub decreases-loop-rest : goal.decreases-loop-rest
decreases-loop-rest l = length l.rest
