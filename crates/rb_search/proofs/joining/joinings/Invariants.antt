use Rattle.rb_code.specs.Instructions.Plain.{code as plain}
use Rattle.rb_search.specs.Found.{found}
use Rattle.rb_search.specs.Joinings.{AreJoinings}
use Rattle.rb_search.proofs.joining.joinings.Given as goal

abbrev pub invariant-loop-at : goal.invariant-loop-at
invariant-loop-at l = AreJoinings (plain l.code) (found l.lists l.cells) l.at l.all.items
