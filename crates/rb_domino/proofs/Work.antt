-- How the work of an analysis falls.
use Rattle.std.proofs.Common.{◌≡◌, ℕ, ◌+◌, ◌<◌, Vec, vec_len, List, [], length, slice_index_or, slice_set, ap, arith}
use Rattle.std.proofs.lemmas.List.{length-map, length-reverse}
use Rattle.std.proofs.lemmas.List.Sums.{sum_by-set}
use Rattle.rb_domino.specs.Board.{in_all, list_at, stack, stacks}
use Rattle.rb_domino.proofs.Stacks.{stack_read, stacks_set}

-- one of many vectors is written
pub in_all_set : {X A : Type 0} (vectors : List (Vec X A)) (q : ℕ) (old new : Vec X A) → q < length vectors → old ≡ slice_index_or vectors q old
    → in_all (stacks (slice_set vectors q new)) + vec_len old ≡ in_all (stacks vectors) + vec_len new
in_all_set vectors q old new within is =
    let here : in_all (stacks (slice_set vectors q new)) ≡ in_all (slice_set (stacks vectors) q (stack new.items)) =
    ap in_all (stacks_set vectors q new) in
    let read : length (list_at (stacks vectors) q) ≡ length (stack old.items) = ap length (stack_read vectors q old within is) in
    let inside : q < length (stacks vectors) = omega (arith, length-map vectors (λ v. stack v.items)) in
    omega (
      arith,
      here,
      read,
      sum_by-set length (stacks vectors) q (stack new.items) [] inside,
      length-reverse old.items,
      length-reverse new.items,
      old.ok.0,
      new.ok.0,
    )
