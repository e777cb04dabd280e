-- What is told where a stage refuses a source, by the fault of the refusal alone.
use Rattle.std.proofs.Common.{◌≡◌, ℕ, List, [], ◌∷◌, sym, ap, subst, ◌∙◌}
use Rattle.rb_base.specs.declared.fault.Refusal.{Refusal}
use Rattle.rb_base.specs.declared.fault.Refusal.TheVariants.{Fault, Memory}
use Rattle.rb_base.specs.declared.fault.SourceFault.{SourceFault}
use Rattle.rb_syntax.specs.Tree.{Tree}
use Rattle.rb_grammar.specs.Verdict as grammar
use Rattle.rb_scope.specs.Rules.{faults_of}
use Rattle.rb_nest.specs.Nest as nesting
use Rattle.rb_nest.specs.Rules.{nesting_faults}
use Rattle.rb_faults.specs.InOrder.{in_order}
use Rattle.rb_faults.specs.Told.{AreTold, AreToldOf, StandsAlone, in_nesting, in_nothing, in_scopes, in_text}

pub told_of_text : (source : List ℕ) (refusal : Refusal) (told : List SourceFault) → grammar.IsRefusal source refusal
    → StandsAlone refusal told → AreTold source told
told_of_text source (Fault fault) told r s = subst (AreTold source) (sym s) (in_text fault r)
told_of_text source Memory told r s = absurd s

pub told_of_nesting : (tree other : Tree) (refusal : Refusal) (told : List SourceFault) → faults_of tree ≡ [] → other ≡ tree
    → nesting.IsRefused other refusal → StandsAlone refusal told → AreToldOf tree told
told_of_nesting tree other (Fault fault) told e same r s =
    subst (AreToldOf tree) (sym s) (in_nesting fault e (subst (λ t. nesting.IsRefused t (Fault fault)) same r))
told_of_nesting tree other Memory told e same r s = absurd s

-- some are told of a tree that has some
pub told_of_names : (tree : Tree) (told : List SourceFault) → told ≡ in_order (faults_of tree) → (told ≡ [] → ⊥) → AreToldOf tree told
told_of_names tree told e some = subst (AreToldOf tree) (sym e) (in_scopes (λ none. some (e ∙ ap in_order none)))

-- none is told of a tree that has none
pub told_none : (tree other : Tree) (told : List SourceFault) → faults_of tree ≡ [] → other ≡ tree → nesting_faults other ≡ [] → told ≡ []
    → AreToldOf tree told
told_none tree other told e same n t = subst (AreToldOf tree) (sym t) (in_nothing e (ap nesting_faults (sym same) ∙ n))
