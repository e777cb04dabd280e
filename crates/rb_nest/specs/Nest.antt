-- What it means that a tree is nested, or refused.
use Rattle.std.specs.Prelude.{◌≡◌, ℕ, [], slice_get, Option, Some}
use Rattle.rb_base.specs.declared.fault.Refusal.{Refusal}
use Rattle.rb_base.specs.declared.fault.Refusal.TheVariants.{Fault, Memory}
use Rattle.rb_base.specs.declared.names.Nested.{Nested}
use Rattle.rb_syntax.specs.Tree.{Tree}
use Rattle.rb_meaning.specs.Groups.{groups_of}
use Rattle.rb_meaning.specs.Nesting.{alternates_of}
use Rattle.rb_scope.specs.FirstFault.{IsFirstOf}
use Rattle.rb_nest.specs.Groups.{alternates, memberships}
use Rattle.rb_nest.specs.Rules.{nesting_faults}

-- there is a number
abbrev pub IsNumber : Option ℕ → Type 0
IsNumber o = (n : ℕ) × (o ≡ Some n)

-- A tree keeps every rule of nesting, and these are its conversations, with members, parents and numbers of alternates.
pub record IsNest (tree : Tree) (nested : Nested) : Type 0 where
  pub no_fault : nesting_faults tree ≡ []
  pub groups : memberships nested ≡ groups_of tree
  pub counts : (c n : ℕ) → slice_get (alternates nested) c ≡ Some n → alternates_of tree c ≡ Some n

-- A tree breaks a rule of nesting, and this fault is the first; or memory was short, whatever the tree.
abbrev pub IsRefused : Tree → Refusal → Type 0
IsRefused tree (Fault fault) = IsFirstOf (nesting_faults tree) fault
IsRefused tree Memory = Unit {0}
