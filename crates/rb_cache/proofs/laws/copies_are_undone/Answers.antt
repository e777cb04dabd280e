use Rattle.rb_cache.proofs.LawsHold.{copies_undone}
use Rattle.rb_cache.proofs.laws.copies_are_undone.Goals as goal

pub returns : goal.returns
returns c = copies_undone
