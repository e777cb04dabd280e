-- The released lines of one process after another.
use Rattle.std.proofs.Common.{◌≡◌, ℕ, ◌+◌, ◌<◌, List, [], ◌++◌, length, drop, slice_set, sym, ap, ◌∙◌, add-one}
use Rattle.std.specs.List.{flat_map}
use Rattle.rb_base.specs.Lines.{belonging}
use Rattle.rb_world.specs.Text.{Naming, out_lines}
use Rattle.rb_trace.specs.Report.{out_line}
use Rattle.rb_trace.proofs.Waiting.{cleared, cleared_own, cleared_next, from_own}

-- the lines of process i, and those of the others after it
pub own_lines : (names : Naming) (t i : ℕ) (first now : List (List (List ℕ))) → i < length first → now ≡ cleared i first →
    out_lines names t i (drop i first) ≡ flat_map (out_line names t i) (belonging now i) ++ out_lines names t (i + 1) (drop (i + 1) first)
own_lines names t i first now within is =
    let own : belonging first i ≡ belonging now i = sym (cleared_own i first) ∙ ap (λ (lists : List (List (List ℕ))). belonging lists i) (sym is) in
    ap (out_lines names t i) (from_own i first within)
    ∙ ap (λ (lines : List (List ℕ)). flat_map (out_line names t i) lines ++ out_lines names t (i + 1) (drop (i + 1) first)) own

-- one process more has none left
pub one_cleared : (i : ℕ) (first before now : List (List (List ℕ))) → before ≡ cleared i first → now ≡ slice_set before i []
    → now ≡ cleared (i + 1) first
one_cleared i first before now is next =
    next ∙ ap (λ (lists : List (List (List ℕ))). slice_set lists i []) is ∙ cleared_next i first ∙ ap (λ (n : ℕ). cleared n first) (sym (add-one i))
