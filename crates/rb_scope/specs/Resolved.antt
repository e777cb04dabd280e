-- What it means that a tree is resolved, or refused.
use Rattle.std.specs.Prelude.{◌≡◌, List, []}
use Rattle.rb_base.specs.declared.fault.Refusal.{Refusal}
use Rattle.rb_base.specs.declared.fault.Refusal.TheVariants.{Fault, Memory}
use Rattle.rb_syntax.specs.Tree.{Tree}
use Rattle.rb_scope.specs.FirstFault.{IsFirstOf}
use Rattle.rb_scope.specs.Rules.{faults_of}
use Rattle.rb_scope.specs.Slots.{AreSlots}
use Rattle.rb_scope.specs.declared.slot.Slot.{Slot}

-- A tree keeps every rule of scopes and limits, and these are its slots.
pub record IsResolved (tree : Tree) (slots : List Slot) : Type 0 where
  pub no_fault : faults_of tree ≡ []
  pub slots_of : AreSlots tree slots

-- A tree breaks a rule of scopes or limits, and this fault is the first; or memory was short, whatever the tree.
abbrev pub IsRefused : Tree → Refusal → Type 0
IsRefused tree (Fault fault) = IsFirstOf (faults_of tree) fault
IsRefused tree Memory = Unit {0}
