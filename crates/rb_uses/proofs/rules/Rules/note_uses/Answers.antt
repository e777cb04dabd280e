use Rattle.std.proofs.Common.{◌≡◌, [], drop, ap, sym, ◌∙◌}
use Rattle.std.proofs.Math.ListN.{drop_of_length-le}
use Rattle.rb_syntax.specs.Plain.{tree}
use Rattle.rb_meaning.specs.Nesting.{uses_of}
use Rattle.rb_scope.specs.Finding.{first_after}
use Rattle.rb_uses.specs.Memory.{all_held}
use Rattle.rb_uses.specs.Summary.{summaries_faults}
use Rattle.rb_uses.proofs.After.{uses_more}
use Rattle.rb_uses.proofs.Faults.{all_faults}
use Rattle.rb_uses.proofs.rules.Rules.note_uses.Goals as goal

pub loop-one-preserved : goal.loop-one-preserved
loop-one-preserved c =
    uses_more (tree c.args.self.now.uses.now.program.now) c.all-one-items.result.now c.loop-one.one-index _ c.loop-one-test.true
    _ _ c.loop-one.first c.note_use.new.first _ c.loop-one.invariant c.in_ok-note_use.ensures.found c.in_ok-note_use.ensures.joins

pub returns : goal.returns
returns c =
    let whole = tree c.args.self.now.uses.now.program.now in
    let items = c.all-one-items.result.now in
    let none : drop c.loop-one.one-index items ≡ [] = drop_of_length-le items c.loop-one-test.false in
    sym (ap (λ us. first_after c.loop-one.first (summaries_faults whole (all_held c.loop-one.joins.items) (all_held us))) none)
    ∙ c.loop-one.invariant
    ∙ ap (first_after c.args.first.now) (all_faults whole [] (uses_of whole))
