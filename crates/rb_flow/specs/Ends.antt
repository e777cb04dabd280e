-- The end of a loop as it is kept: one more, or 0 where there is none.
use Rattle.std.specs.Prelude.{◌≡◌, ℕ, zero, suc, ◌<◌, ◌≤◌, Bool, false, List, [], length, get_or, slice_get, Option, Some, None}
use Rattle.rb_code.specs.Instructions.Plain.{Code, Part, Procedure}
use Rattle.std.specs.BTreeSet.{BTreeSet, contains}
use Rattle.std.specs.Ordering.{nat_cmp}
use Rattle.rb_code.specs.SoundCode.Sound.{end_of_loop}
use Rattle.rb_flow.specs.Flow.{is_start_among}
use Rattle.rb_flow.specs.declared.ends.Ends.{Ends}
use Rattle.rb_flow.specs.declared.ends.TheConstants.{MOST_INSTRUCTIONS}

abbrev pub end_in : ℕ → Option ℕ
end_in zero = None
end_in (suc n) = Some n

-- the first addresses of one process's procedures, if it is there
abbrev pub has_start : Option (BTreeSet ℕ) → ℕ → Bool
has_start None a = false
has_start (Some starts) a = contains nat_cmp starts a

abbrev pub procedures_in : Option Part → List Procedure
procedures_in None = []
procedures_in (Some part) = part.procedures

-- the first addresses of all processes' procedures are kept
abbrev pub AreStartsOf : List Part → List (BTreeSet ℕ) → Type 0
AreStartsOf parts starts = (p a : ℕ) → has_start (slice_get starts p) a ≡ is_start_among (procedures_in (slice_get parts p)) a

-- the ends of all loops are kept, and the first addresses of procedures, of code whose addresses are numbers of 32 bits
pub record AreEnds (c : Code) (ends : Ends) : Type 0 where
  pub few : length c.instrs ≤ MOST_INSTRUCTIONS
  pub first : (b : ℕ) → b < length c.instrs → end_in (get_or ends.zero.items b 0) ≡ end_of_loop c 0 b
  pub starts : AreStartsOf c.processes ends.starts.items
  pub second : (b : ℕ) → b < length c.instrs → end_in (get_or ends.one.items b 0) ≡ end_of_loop c 1 b
