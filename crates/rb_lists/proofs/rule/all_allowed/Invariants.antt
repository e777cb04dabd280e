use Rattle.std.proofs.Common.{◌↔◌, length}
use Rattle.std.specs.List.{All}
use Rattle.rb_lists.proofs.rule.all_allowed.Given as goal

-- those so far are lawful: the others tell
abbrev pub invariant-items : goal.invariant-items
invariant-items g l = All (g.R.Allows.Law l.rule) l.fn.items ↔ All (g.R.Allows.Law l.rule) l.rest

abbrev pub decreases-items : goal.decreases-items
decreases-items g l = length l.rest
