-- What is kept in memory in place of a host's files and of its output.
use Rattle.std.specs.Prelude.{◌≡◌, ◌⊎◌, ℕ, ◌≤◌, Bool, List, length}
use Rattle.rb_outside.specs.Outside.{Faults, File, Start}

-- Files of which none fails to be read: every start so far, the newest first, and whether the last call failed, since no file has the name.
pub record KeptTexts : Type 0 where
  pub files : List File
  pub starts : List Start
  pub failed_last : Bool

-- their faults: there was none, whether or not the last call failed
abbrev pub no_fault : KeptTexts → Faults
no_fault texts = record { count = 0; failed_last = texts.failed_last }

-- Bytes in a place for so many.
pub record KeptBytes : Type 0 where
  pub room : ℕ
  pub bytes : List ℕ
  pub faults : Faults

-- the bytes fit into a place for so many, and no call failed, unless the place is full
abbrev pub FailsWhenFull : ℕ → List ℕ → Faults → Type 0
FailsWhenFull room bytes faults = (length bytes ≤ room) × ((faults.count ≡ 0) ⊎ (length bytes ≡ room))
