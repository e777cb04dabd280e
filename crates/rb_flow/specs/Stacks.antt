-- Lists that share their ends, made of nodes in one list.
use Rattle.std.specs.Prelude.{◌≡◌, ℕ, ◌+◌, ◌≤◌, List, [], ◌∷◌, ◌++◌, length, get_or, slice_get, Option, Some}
use Rattle.rb_flow.specs.declared.stacks.Node.{Node}

-- the lists of nodes behind others: each lies on one before it
abbrev pub stacks_from : List (List (Option ℕ)) → List Node → List (List (Option ℕ))
stacks_from before [] = before
stacks_from before (node ∷ nodes) = stacks_from (before ++ (node.top ∷ get_or before node.below []) ∷ []) nodes

abbrev pub stacks_of : List Node → List (List (Option ℕ))
stacks_of nodes = stacks_from ([] ∷ []) nodes

-- each node lies on an earlier one, and knows its length
pub record IsStacked (nodes : List Node) (i : ℕ) (node : Node) : Type 0 where
  pub earlier : node.below ≤ i
  pub long : node.length ≡ length (get_or (stacks_of nodes) node.below []) + 1

pub record AreStacked (nodes : List Node) : Type 0 where
  pub each : (i : ℕ) (node : Node) → slice_get nodes i ≡ Some node → IsStacked nodes i node
