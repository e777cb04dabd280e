use Rattle.std.proofs.Common.{ap, subst, sym, ◌∙◌}
use Rattle.rb_syntax.specs.Plain.{tree}
use Rattle.rb_meaning.specs.Groups.{groups_of}
use Rattle.rb_meaning.specs.Nesting.{alternates_of}
use Rattle.rb_scope.specs.FirstFault.{IsFirstOf}
use Rattle.rb_scope.proofs.Order.{first_kept, nothing_kept}
use Rattle.rb_nest.specs.Rules.{nesting_faults}
use Rattle.rb_nesting.proofs.nesting.judge.Goals as goal

pub returns-in-Some : goal.returns-in-Some
returns-in-Some c =
    subst (λ p. IsFirstOf (nesting_faults (tree p)) c.in-Some.fault) c.in_ok-uses.ensures
    (first_kept c.in-Some.fault (nesting_faults (tree c.in_ok-uses.uses.program.now)) (sym c.in_ok-fault.ensures ∙ c.in-Some.is))

pub returns : goal.returns
returns c =
    let same = ap tree c.in_ok-uses.ensures in
    record {
      no_fault = ap nesting_faults (sym same)
          ∙ nothing_kept (nesting_faults (tree c.in_ok-uses.uses.program.now)) (sym c.in_ok-fault.ensures ∙ c.in-None.is);
      groups = c.in_ok-nested-in-None.ensures.groups ∙ ap groups_of same;
      counts = λ n m e. ap (λ t. alternates_of t n) (sym same) ∙ c.in_ok-nested-in-None.ensures.counts n m e;
    }

pub nested-requires-clause-no_fault : goal.nested-requires-clause-no_fault
nested-requires-clause-no_fault c =
    nothing_kept (nesting_faults (tree c.in_ok-uses.uses.program.now)) (sym c.in_ok-fault.ensures ∙ c.in-None.is)
