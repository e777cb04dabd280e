-- The faults that are told of a source. A fault of its tokens or its grammar stands alone, since behind it there is no tree. Faults
-- of names and limits are told all. The rules of nesting speak of processes, channels and conversations by what their names mean,
-- so they are asked only where no name and no limit is at fault, as when a source is judged; of those the first is told.
use Rattle.std.specs.Prelude.{◌≡◌, ℕ, List, [], ◌∷◌}
use Rattle.rb_base.specs.declared.fault.Refusal.{Refusal}
use Rattle.rb_base.specs.declared.fault.Refusal.TheVariants.{Fault, Memory}
use Rattle.rb_base.specs.declared.fault.SourceFault.{SourceFault}
use Rattle.rb_syntax.specs.Tree.{Tree}
use Rattle.rb_grammar.specs.Verdict.{HasTree, RefusedFor}
use Rattle.rb_scope.specs.FirstFault.{IsFirstOf}
use Rattle.rb_scope.specs.Rules.{faults_of}
use Rattle.rb_nest.specs.Rules.{nesting_faults}
use Rattle.rb_faults.specs.InOrder.{in_order}

-- these are told of a tree
pub data AreToldOf (tree : Tree) : List SourceFault → Type 0 where
  in_scopes : (faults_of tree ≡ [] → ⊥) → AreToldOf tree (in_order (faults_of tree))
  in_nesting : (fault : SourceFault) → faults_of tree ≡ [] → IsFirstOf (nesting_faults tree) fault → AreToldOf tree (fault ∷ [])
  in_nothing : faults_of tree ≡ [] → nesting_faults tree ≡ [] → AreToldOf tree []

-- these are told of a source
pub data AreTold (source : List ℕ) : List SourceFault → Type 0 where
  in_text : (fault : SourceFault) → RefusedFor source fault → AreTold source (fault ∷ [])
  in_tree : (tree : Tree) (told : List SourceFault) → HasTree source tree → AreToldOf tree told → AreTold source told

-- what is told is the fault of a refusal, and memory was not short
abbrev pub StandsAlone : Refusal → List SourceFault → Type 0
StandsAlone (Fault fault) told = told ≡ fault ∷ []
StandsAlone Memory told = ⊥
