use Rattle.std.proofs.Common.{Bor, List, ℕ}
use Rattle.rb_meaning.specs.Environment.{same_name}
use Rattle.rb_lists.proofs.Each.{any_unless}
use Rattle.rb_lists.proofs.distinct.is_among.Goals as goal

pub returns : goal.returns
returns c =
    any_unless (λ (other : Bor (List ℕ)). same_name c.args.name.now other.now) c.all_allowed.result c.args.others.now c.all_allowed.ensures
