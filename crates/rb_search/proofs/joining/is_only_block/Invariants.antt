use Rattle.std.proofs.Common.{◌≡◌, drop}
use Rattle.rb_search.specs.Joinings.{only_block}
use Rattle.rb_search.proofs.joining.is_only_block.Given as goal

abbrev pub invariant-loop-one : goal.invariant-loop-one
invariant-loop-one l = only_block l.conversation l.member l.block (drop l.one-index l.all) ≡ only_block l.conversation l.member l.block l.all
