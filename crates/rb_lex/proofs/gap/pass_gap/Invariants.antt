use Rattle.std.proofs.Common.{◌≡◌, length, false}
use Rattle.rb_base.specs.declared.edition.Edition.{Edition}
use Rattle.rb_lex.specs.Tokens.{next_from}
use Rattle.rb_lex.specs.Gaps.{HasRoom}
use Rattle.rb_lex.proofs.gap.pass_gap.Given as goal

abbrev pub invariant-loop-left : goal.invariant-loop-left
invariant-loop-left l =
    ((edition : Edition) → next_from edition l.in_comment l.place l.left ≡ next_from edition false l.fn.place l.fn.bytes) × HasRoom l.place l.left

abbrev pub decreases-loop-left : goal.decreases-loop-left
decreases-loop-left l = length l.left
