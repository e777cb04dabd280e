use Rattle.std.proofs.lemmas.List.Elements.{All-from_recursion, recursion_from_All}
use Rattle.rb_trace.specs.Fitting.{LiesWithin}
use Rattle.rb_lists.proofs.parts.lie_within.Goals as goal

pub returns : goal.returns
returns c = (
  (λ e. recursion_from_All (LiesWithin c.args.words) c.args.variables.now (c.all_allowed.ensures.0 e)),
  (λ lie. c.all_allowed.ensures.1 (All-from_recursion (LiesWithin c.args.words) c.args.variables.now lie)),
)
