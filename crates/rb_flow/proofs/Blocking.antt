-- Lists by number, where one more is put on them.
use Rattle.std.proofs.Common.{◌≡◌, ◌⊎◌, inl, inr, ℕ, zero, suc, ◌+◌, ◌-◌, ◌<◌, ◌≤◌, List, [], ◌∷◌, ◌++◌, length, get_or, slice_get, Some, refl, sym, ap, ◌∙◌, subst, arith}
use Rattle.std.proofs.lemmas.List.{get_or_append_left, length_push}
use Rattle.std.proofs.Math.Seq.{get_or-append_seam}
use Rattle.std.proofs.lemmas.Option.{slice_get-get_or, slice_get_within}
use Rattle.rb_flow.specs.declared.blocks.BlockNode.{BlockNode}
use Rattle.rb_code.specs.SoundCode.Sound.{OpenBlock}
use Rattle.rb_entries.specs.Parts.{block_of}
use Rattle.rb_flow.specs.Blocks.{AreBlocked, IsBlocked, blocks_from, blocks_of}
use Rattle.rb_flow.proofs.Places.{get_more}

abbrev Lists : Type 0
Lists = List (List OpenBlock)

abbrev one_of : Lists → BlockNode → List OpenBlock
one_of before node = block_of node.top ∷ get_or before node.below []

from_more : (before : Lists) (nodes : List BlockNode) (n : BlockNode)
    → blocks_from before (nodes ++ n ∷ []) ≡ blocks_from before nodes ++ one_of (blocks_from before nodes) n ∷ []
from_more before [] n = refl
from_more before (m ∷ nodes) n = from_more (before ++ one_of before m ∷ []) nodes n

from_keeps : (before : Lists) (nodes : List BlockNode) (k : ℕ) → k < length before → get_or (blocks_from before nodes) k [] ≡ get_or before k []
from_keeps before [] k h = refl
from_keeps before (m ∷ nodes) k h =
    let l = length_push before (one_of before m)
    in from_keeps (before ++ one_of before m ∷ []) nodes k (omega arith) ∙ get_or_append_left before (one_of before m ∷ []) [] k h

from_long : (before : Lists) (nodes : List BlockNode) → length (blocks_from before nodes) ≡ length before + length nodes
from_long before [] = omega arith
from_long before (m ∷ nodes) =
    let l = length_push before (one_of before m) in let r = from_long (before ++ one_of before m ∷ []) nodes in omega arith

from_at : (before : Lists) (nodes : List BlockNode) (i : ℕ) (n : BlockNode) → slice_get nodes i ≡ Some n → n.below < length before + i
    → get_or (blocks_from before nodes) (length before + i) [] ≡ block_of n.top ∷ get_or (blocks_from before nodes) n.below []
from_at before [] i n h b = let wrong : ⊥ = cc in absurd wrong
from_at before (m ∷ nodes) zero n h b =
    let l = length_push before (one_of before m)
    in let same : m ≡ n = cc
    in let below : n.below < length before = omega arith
    in let here : get_or (blocks_from (before ++ one_of before m ∷ []) nodes) (length before) [] ≡ one_of before m
    = from_keeps (before ++ one_of before m ∷ []) nodes (length before) (omega arith) ∙ get_or-append_seam before (one_of before m) [] []
    in let under : get_or (blocks_from (before ++ one_of before m ∷ []) nodes) n.below [] ≡ get_or before n.below []
    = from_keeps (before ++ one_of before m ∷ []) nodes n.below (omega arith) ∙ get_or_append_left before (one_of before m ∷ []) [] n.below below
    in let zeros : length before + 0 ≡ length before = omega arith
    in ap (λ k. get_or (blocks_from (before ++ one_of before m ∷ []) nodes) k []) zeros ∙ here
    ∙ ap (one_of before) same ∙ ap (λ xs. block_of n.top ∷ xs) (sym under)
from_at before (m ∷ nodes) (suc i) n h b =
    let l = length_push before (one_of before m)
    in let r = from_at (before ++ one_of before m ∷ []) nodes i n h (omega arith)
    in let k : length before + suc i ≡ length (before ++ one_of before m ∷ []) + i = omega arith
    in ap (λ j. get_or (blocks_from (before ++ one_of before m ∷ []) nodes) j []) k ∙ r

pub blocks_long : (nodes : List BlockNode) → length (blocks_of nodes) ≡ length nodes + 1
blocks_long nodes = let r = from_long ([] ∷ []) nodes in omega arith

pub blocks_more : (nodes : List BlockNode) (n : BlockNode) → blocks_of (nodes ++ n ∷ []) ≡ blocks_of nodes ++ (block_of n.top ∷ get_or
    (blocks_of nodes) n.below []) ∷ []
blocks_more nodes n = from_more ([] ∷ []) nodes n

pub stack_zero : (nodes : List BlockNode) → get_or (blocks_of nodes) 0 [] ≡ []
stack_zero nodes = from_keeps ([] ∷ []) nodes 0 (omega arith)

pub stack_at : (nodes : List BlockNode) (i : ℕ) (n : BlockNode) → slice_get nodes i ≡ Some n → n.below ≤ i
    → get_or (blocks_of nodes) (i + 1) [] ≡ block_of n.top ∷ get_or (blocks_of nodes) n.below []
stack_at nodes i n h b =
    let e : i + 1 ≡ 1 + i = omega arith
    in ap (λ k. get_or (blocks_of nodes) k []) e ∙ from_at ([] ∷ []) nodes i n h (omega arith)

pub stacked_more : (nodes : List BlockNode) (n : BlockNode) → AreBlocked nodes → n.below ≤ length nodes
    → n.length ≡ length (get_or (blocks_of nodes) n.below []) + 1 → AreBlocked (nodes ++ n ∷ [])
stacked_more nodes n are below long = record { each = λ i m h. by i m (get_more nodes n i m h) }
  where
    same : (k : ℕ) → k ≤ length nodes → get_or (blocks_of (nodes ++ n ∷ [])) k [] ≡ get_or (blocks_of nodes) k []
    same k h =
        let l = blocks_long nodes
        in ap (λ xs. get_or xs k []) (blocks_more nodes n) ∙ get_or_append_left (blocks_of nodes) ((block_of n.top ∷ get_or
        (blocks_of nodes) n.below []) ∷ []) [] k (omega arith)

    within : (k : ℕ) (m : BlockNode) → slice_get nodes k ≡ Some m → k < length nodes
    within k m h = slice_get_within nodes k m h

    by : (i : ℕ) (m : BlockNode) → (slice_get nodes i ≡ Some m) ⊎ ((i ≡ length nodes) × (m ≡ n)) → IsBlocked (nodes ++ n ∷ []) i m
    by i m (inl at) =
        let s = are.each i m at
        in let w = within i m at
        in record { earlier = s.earlier; long = s.long ∙ ap (λ xs. length xs + 1) (sym (same m.below (let e = s.earlier in omega arith))) }
    by i m (inr (e, is)) = record {
      earlier = subst (λ x. x.below ≤ i) (sym is) (subst (λ k. n.below ≤ k) (sym e) below);
      long = subst (λ x. x.length ≡ length (get_or (blocks_of (nodes ++ n ∷ [])) x.below []) + 1) (sym is)
          (long ∙ ap (λ xs. length xs + 1) (sym (same n.below below)));
    }

-- the node of a number that is not 0
pub length_at : (nodes : List BlockNode) (at : ℕ) (d : BlockNode) → AreBlocked nodes → at < length (blocks_of nodes) → (at ≡ 0 → ⊥)
    → (get_or nodes (at - 1) d).length ≡ length (get_or (blocks_of nodes) at [])
length_at nodes at d are h some =
    let l = blocks_long nodes
    in let i : ℕ = at - 1
    in let below : i < length nodes = omega arith
    in let e : i + 1 ≡ at = omega arith
    in let s = slice_get-get_or nodes i d below
    in let k = are.each i (get_or nodes i d) s
    in let t = ap length (stack_at nodes i (get_or nodes i d) s k.earlier)
    in let long = k.long
    in let at_is = ap (λ j. length (get_or (blocks_of nodes) j [])) e
    in omega arith

pub top_at : (nodes : List BlockNode) (at : ℕ) (d : BlockNode) → AreBlocked nodes → at < length (blocks_of nodes) → (at ≡ 0 → ⊥)
    → (get_or (blocks_of nodes) at [] ≡ block_of (get_or nodes (at - 1) d).top ∷ get_or (blocks_of nodes) (get_or nodes (at - 1) d).below [])
    × ((get_or nodes (at - 1) d).below < at)
top_at nodes at d are h some =
    let l = blocks_long nodes
    in let i : ℕ = at - 1
    in let below : i < length nodes = omega arith
    in let e : at ≡ i + 1 = omega arith
    in let s = slice_get-get_or nodes i d below
    in let k = are.each i (get_or nodes i d) s
    in (ap (λ j. get_or (blocks_of nodes) j []) e ∙ stack_at nodes i (get_or nodes i d) s k.earlier, (let m = k.earlier in omega arith))

pub empty_at : (nodes : List BlockNode) (at : ℕ) → at ≡ 0 → get_or (blocks_of nodes) at [] ≡ []
empty_at nodes at e = ap (λ j. get_or (blocks_of nodes) j []) e ∙ stack_zero nodes
