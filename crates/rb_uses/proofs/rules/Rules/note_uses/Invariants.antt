use Rattle.std.proofs.Common.{◌≡◌, [], drop}
use Rattle.rb_syntax.specs.Plain.{tree}
use Rattle.rb_scope.specs.Finding.{first_after}
use Rattle.rb_uses.specs.Memory.{all_held}
use Rattle.rb_uses.specs.Summary.{summaries, summaries_faults}
use Rattle.rb_uses.proofs.rules.Rules.note_uses.Given as goal

-- what is found, and then behind the other uses
abbrev pub invariant-loop-one : goal.invariant-loop-one
invariant-loop-one l =
    let whole = tree l.self.uses.now.program.now in
    let others = summaries_faults whole (all_held l.joins.items) (all_held (drop l.one-index l.one-items)) in
    first_after l.first others ≡ first_after l.fn.first (summaries_faults whole [] (summaries whole))
