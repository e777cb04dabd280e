-- What holds of every tree that keeps the rules of nesting.
use Rattle.std.specs.Prelude.{◌≡◌, ◌⊎◌, []}
use Rattle.rb_base.specs.declared.fault.SourceFault.{SourceFault}
use Rattle.rb_syntax.specs.Tree.{Tree}
use Rattle.rb_meaning.specs.Nesting.{IsNested}
use Rattle.rb_scope.specs.FirstFault.{IsFirstOf}
use Rattle.rb_nest.specs.Rules.{nesting_faults}

-- The bridge to the laws of the meaning: a tree without a fault of nesting is nested as they ask.
abbrev pub AcceptedAreNested : Type 0
AcceptedAreNested = (tree : Tree) → nesting_faults tree ≡ [] → IsNested tree

-- a tree has no fault of nesting, or one that is the first
abbrev pub AreJudged : Type 0
AreJudged = (tree : Tree) → (nesting_faults tree ≡ []) ⊎ ((fault : SourceFault) × IsFirstOf (nesting_faults tree) fault)

-- no two faults of a tree are both the first
abbrev pub HaveOneFirst : Type 0
HaveOneFirst =
    (tree : Tree) (fault other : SourceFault) → IsFirstOf (nesting_faults tree) fault → IsFirstOf (nesting_faults tree) other → fault ≡ other
