-- Laws of verdicts.
use Rattle.std.specs.Prelude.{◌≡◌, ◌⊎◌, ℕ, ◌≤◌, List}
use Rattle.rb_base.specs.declared.fault.SourceFault.{SourceFault}
use Rattle.rb_grammar.specs.Depth.{depth}
use Rattle.rb_grammar.specs.Verdict.{HasTree, RefusedFor}
use Rattle.rb_syntax.specs.Tree.{Tree}

-- each text has a tree, or a first fault
abbrev pub HasVerdict : Type 0
HasVerdict = (bytes : List ℕ) → ((tree : Tree) × HasTree bytes tree) ⊎ ((fault : SourceFault) × RefusedFor bytes fault)

-- a text has one tree at most, one first fault at most, and never both
abbrev pub HasOneVerdict : Type 0
HasOneVerdict = (bytes : List ℕ) → ((t u : Tree) → HasTree bytes t → HasTree bytes u → t ≡ u) ×
    ((f g : SourceFault) → RefusedFor bytes f → RefusedFor bytes g → f ≡ g) ×
    ((tree : Tree) (fault : SourceFault) → HasTree bytes tree → RefusedFor bytes fault → ⊥)

-- the tree of a text that is accepted is no deeper than 901
abbrev pub TreesAreShallow : Type 0
TreesAreShallow = (bytes : List ℕ) (tree : Tree) → HasTree bytes tree → depth tree ≤ 901
