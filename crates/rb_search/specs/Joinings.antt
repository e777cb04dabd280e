-- Which blocks of conversations are entered, by which process.
use Rattle.std.specs.Prelude.{◌≡◌, ℕ, ◌+◌, ◌<◌, ◌&&◌, nat_eq, not, Bool, true, false, cond, List, [], ◌∷◌, ◌++◌, length, slice_get, Option, Some, None, Contains}
use Rattle.rb_base.specs.declared.names.Group.{Group}
use Rattle.rb_code.specs.Instructions.Plain.{Block, Code}
use Rattle.rb_code.specs.SoundCode.Sound.{Entry, Table}
use Rattle.rb_code.specs.SoundCode.WellFormed.{Joins}
use Rattle.rb_code.specs.declared.instr.Instr.{Instr}
use Rattle.rb_code.specs.declared.instr.Instr.TheVariants.{Enter}
use Rattle.rb_search.specs.declared.joining.Joining.{Joining}

-- block number b, which has this conversation, is entered by a process
abbrev pub conversed : ℕ → ℕ → Block → Option ℕ → Option Joining
conversed process b one None = None
conversed process b one (Some d) = Some (record { conversation = d; process = process; block = b; alternates = length one.alternates })

abbrev pub entered : ℕ → ℕ → Option Block → Option Joining
entered process b None = None
entered process b (Some one) = conversed process b one one.conversation

abbrev pub enters : Code → Option ℕ → Option Instr → Option Joining
enters c (Some process) (Some (Enter b)) = entered process b (slice_get c.blocks b)
enters c _ _ = None

abbrev pub process_at : Option Entry → Option ℕ
process_at None = None
process_at (Some e) = Some e.within.process

-- the block that is entered at an address, if it is one of a conversation and the address has an entry
abbrev pub joining_at : Code → Table → ℕ → Option Joining
joining_at c t a = enters c (process_at (t a)) (slice_get c.instrs a)

-- one more is noted
abbrev pub noted : List Joining → Option Joining → List Joining
noted all None = all
noted all (Some one) = all ++ one ∷ []

-- these are all that stand at the first n addresses
pub record AreJoinings (c : Code) (t : Table) (n : ℕ) (all : List Joining) : Type 0 where
  pub each : (a : ℕ) (one : Joining) → a < n → joining_at c t a ≡ Some one → Contains all one
  pub only : (one : Joining) → Contains all one → (a : ℕ) × (joining_at c t a ≡ Some one)

-- one process enters two blocks of one conversation
pub record EntersTwo (c : Code) (t : Table) : Type 0 where
  pub conversation : ℕ
  pub process : ℕ
  pub block : ℕ
  pub other : ℕ
  pub joins : Joins c t conversation process block
  pub joins_other : Joins c t conversation process other
  pub differ : block ≡ other → ⊥

-- a block of conversation d that process m enters
abbrev pub is_of : ℕ → ℕ → Joining → Bool
is_of d m one = nat_eq one.conversation d && nat_eq one.process m

-- the first such one
abbrev pub first_of : ℕ → ℕ → List Joining → Option Joining
first_of d m [] = None
first_of d m (one ∷ others) = cond (is_of d m one) (Some one) (first_of d m others)

-- all such ones are this block
abbrev pub only_block : ℕ → ℕ → ℕ → List Joining → Bool
only_block d m b [] = true
only_block d m b (one ∷ others) = cond (is_of d m one && not (nat_eq one.block b)) false (only_block d m b others)

abbrev pub once_by : ℕ → ℕ → ℕ → List Joining → Option Joining → Bool
once_by d m n all None = false
once_by d m n all (Some one) = nat_eq one.alternates n && only_block d m one.block all

-- member m has exactly one block of conversation d, with n alternates
abbrev pub joins_once : ℕ → ℕ → ℕ → List Joining → Bool
joins_once d m n all = once_by d m n all (first_of d m all)

-- each of these members has
abbrev pub members_join : ℕ → ℕ → List Joining → List ℕ → Bool
members_join d n all [] = true
members_join d n all (m ∷ members) = joins_once d m n all && members_join d n all members

-- each member of these conversations, which are numbered from d on
abbrev pub groups_join : ℕ → List Joining → List Group → Bool
groups_join d all [] = true
groups_join d all (group ∷ groups) = members_join d group.alternates all group.members.items && groups_join (d + 1) all groups
