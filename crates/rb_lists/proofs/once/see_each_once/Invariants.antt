use Rattle.std.proofs.Common.{◌≡◌, ◌<◌, ℕ, cond, false, get_or, length, take}
use Rattle.std.specs.List.{count_by}
use Rattle.rb_lists.specs.Marks.{is_marked}
use Rattle.rb_lists.proofs.once.see_each_once.Given as goal

-- a block was seen as often as it is marked so far, which is once at most
abbrev pub invariant-loop-instr : goal.invariant-loop-instr
invariant-loop-instr l =
    (b : ℕ) → b < length l.seen → count_by (is_marked l.mark b) (take l.instr-index l.instrs) ≡ cond (get_or l.seen b false) 1 0
