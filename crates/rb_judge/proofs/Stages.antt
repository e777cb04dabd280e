-- What `judge` answers, from what its three stages answer.
use Rattle.std.proofs.Common.{◌≡◌, ℕ, List, [], subst}
use Rattle.rb_base.specs.declared.fault.Refusal.{Refusal}
use Rattle.rb_base.specs.declared.fault.Refusal.TheVariants.{Fault, Memory}
use Rattle.rb_syntax.specs.Tree.{Tree}
use Rattle.rb_grammar.specs.Verdict.{HasTree}
use Rattle.rb_scope.specs.Resolved as scopes
use Rattle.rb_scope.specs.Rules.{faults_of}
use Rattle.rb_nest.specs.Nest as nesting
use Rattle.rb_judge.specs.Judged.{IsRefusal}
use Rattle.rb_judge.specs.Verdict.{in_nesting, in_scopes}

-- a refusal by each stage
pub refused_in_scopes : (source : List ℕ) (t : Tree) (refusal : Refusal) → HasTree source t → scopes.IsRefused t refusal
    → IsRefusal source refusal
refused_in_scopes source t (Fault fault) h r = in_scopes t h r
refused_in_scopes source t Memory h r = tt

pub refused_in_nesting : (source : List ℕ) (t u : Tree) (refusal : Refusal) → HasTree source t → faults_of t ≡ [] → u ≡ t
    → nesting.IsRefused u refusal
    → IsRefusal source refusal
refused_in_nesting source t u (Fault fault) h scoped same r = in_nesting t h scoped (subst (λ v. nesting.IsRefused v (Fault fault)) same r)
refused_in_nesting source t u Memory h scoped same r = tt
