use Rattle.std.proofs.Common.{◌≡◌, ◌≤◌, ◌+◌, length}
use Rattle.rb_lex.specs.Tokens.{text_front}
use Rattle.rb_lex.proofs.texts.text_cut.Given as goal

abbrev pub invariant-loop-rest : goal.invariant-loop-rest
invariant-loop-rest l =
    (text_front l.passed l.rest ≡ text_front 0 l.bytes) × (l.passed + length l.rest ≡ length l.bytes) × (l.passed ≤ 256)

abbrev pub decreases-loop-rest : goal.decreases-loop-rest
decreases-loop-rest l = length l.rest
