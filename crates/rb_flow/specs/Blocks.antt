-- Lists that share their ends, made of nodes in one list.
use Rattle.std.specs.Prelude.{◌≡◌, ℕ, ◌+◌, ◌≤◌, List, [], ◌∷◌, ◌++◌, length, get_or, slice_get, Some}
use Rattle.rb_flow.specs.declared.blocks.BlockNode.{BlockNode}
use Rattle.rb_code.specs.SoundCode.Sound.{OpenBlock}
use Rattle.rb_entries.specs.Parts.{block_of}

-- the lists of nodes behind others: each lies on one before it
abbrev pub blocks_from : List (List OpenBlock) → List BlockNode → List (List OpenBlock)
blocks_from before [] = before
blocks_from before (node ∷ nodes) = blocks_from (before ++ (block_of node.top ∷ get_or before node.below []) ∷ []) nodes

abbrev pub blocks_of : List BlockNode → List (List OpenBlock)
blocks_of nodes = blocks_from ([] ∷ []) nodes

-- each node lies on an earlier one, and knows its length
pub record IsBlocked (nodes : List BlockNode) (i : ℕ) (node : BlockNode) : Type 0 where
  pub earlier : node.below ≤ i
  pub long : node.length ≡ length (get_or (blocks_of nodes) node.below []) + 1

pub record AreBlocked (nodes : List BlockNode) : Type 0 where
  pub each : (i : ℕ) (node : BlockNode) → slice_get nodes i ≡ Some node → IsBlocked nodes i node
