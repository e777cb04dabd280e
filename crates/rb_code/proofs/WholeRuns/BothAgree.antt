-- The relation of whole runs: a meeting of the states with their copies, the same held lines, those of copies coming first in those
-- further in, and links that lead from the last kept turns to all of them. The slots are shared by all processes.
use Rattle.std.proofs.Common.{◌≡◌, ◌≤◌, ℕ, zero, suc, Bool, List, [], ◌∷◌, slice_get, Some, refl, subst}
use Rattle.rb_world.specs.World.{Level, Process}
use Rattle.rb_world.specs.Slots.{Slots}
use Rattle.rb_world.proofs.ListFacts.{none_some, some_same}
use Rattle.rb_world.proofs.Relating.Simulation.{Shared, Related, copies_of}
use Rattle.rb_meaning.specs.State.{State}
use Rattle.rb_meaning.specs.Step.{Nothing}
use Rattle.rb_code.specs.WordMachine.Turn.{Common, Copy, Link, Standing}
use Rattle.rb_code.proofs.WholeRuns.KeptTurns.{AreBefore, LeadTo, others_kept}
use Rattle.rb_code.proofs.WholeRuns.HeldLines.{Grow}
use Rattle.rb_code.proofs.WholeRuns.Pairs.{Pairs, pairs_become}
use Rattle.rb_code.proofs.WholeRuns.TurnsInTime.{IsInTime, PointsBefore}
use Rattle.rb_code.proofs.WholeRuns.Agreeing.{Meeting}

-- the same slots
abbrev pub SameSlots : Shared (Nothing × Slots) Common
SameSlots m n = m.1 ≡ n.slots

-- the links lead from the last kept turn of a copy to its kept turns
abbrev pub CopyKept : List Link → State → Copy → Type 0
CopyKept links x y = LeadTo links y.last_kept x.kept

pub record BothAgree (meets : Meeting) (line : Bool) (links : List Link) (cs : List State) (s : State) (ds : List Copy) (u : Standing) : Type 0 where
  pub they_meet : meets line cs s ds u
  pub lines : u.held ≡ s.held
  pub grow : Grow cs s.held
  pub kept : LeadTo links u.last_kept s.kept
  pub kept_then : Pairs (CopyKept links) cs ds

abbrev pub Agreed : Meeting → Related State State (Nothing × Slots) Standing Copy Common
Agreed meets line m n cs s ds u = BothAgree meets line n.links cs s ds u

-- the kept turns of the copies of levels
pub copy_before : (t : ℕ) (levels : List (Level State)) (i : ℕ) (x : State) → PointsBefore t levels
    → slice_get (copies_of levels) i ≡ Some x → AreBefore t x.kept
copy_before t [] i x before e = absurd (none_some e)
copy_before t (level ∷ levels) zero x before e = subst (λ (y : State). AreBefore t y.kept) (some_same e) (before 0 level refl)
copy_before t (level ∷ levels) (suc i) x before e = copy_before t levels i x (λ n. before (suc n)) e

-- a link of a later turn leaves the copies of levels as they are
pub copies_kept : (link : Link) (links : List Link) (levels : List (Level State)) (ds : List Copy) → 1 ≤ link.turn → PointsBefore link.turn levels
    → Pairs (CopyKept links) (copies_of levels) ds → Pairs (CopyKept (link ∷ links)) (copies_of levels) ds
copies_kept link links levels ds some before both =
    pairs_become (CopyKept links) (CopyKept (link ∷ links)) (copies_of levels) ds
    (λ i x y there lead. others_kept link links y.last_kept x.kept some (copy_before link.turn levels i x before there) lead) both

-- and so it does with any other process
pub others_agree : (meets : Meeting) (line : Bool) (link : Link) (links : List Link) (q : Process State State) (ds : List Copy) (u : Standing)
    → 1 ≤ link.turn
    → IsInTime link.turn q → BothAgree meets line links (copies_of q.levels) q.state ds u
    → BothAgree meets line (link ∷ links) (copies_of q.levels) q.state ds u
others_agree meets line link links q ds u some time both = record {
  they_meet = both.they_meet;
  lines = both.lines;
  grow = both.grow;
  kept = others_kept link links u.last_kept q.state.kept some time.now both.kept;
  kept_then = copies_kept link links q.levels ds some time.then both.kept_then;
}
