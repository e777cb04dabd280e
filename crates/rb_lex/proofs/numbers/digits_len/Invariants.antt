use Rattle.std.proofs.Common.{◌≡◌, ◌+◌, drop}
use Rattle.std.specs.List.{prefix_len}
use Rattle.rb_base.specs.Bytes.{is_digit}
use Rattle.rb_lex.proofs.numbers.digits_len.Given as goal

abbrev pub invariant-loop-at : goal.invariant-loop-at
invariant-loop-at l = l.at + prefix_len is_digit (drop l.at l.bytes) ≡ prefix_len is_digit l.bytes
