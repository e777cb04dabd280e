-- What was read of a record, as its definition speaks of it, and what holds of each record.
use Rattle.std.specs.Prelude.{◌≡◌, ℕ, ◌<◌, ◌≤◌, cond, List, [], ◌∷◌, length, Option, Some, None, Result, Ok, Err}
use Rattle.rb_base.specs.declared.fault.TextFault.{TextFault}
use Rattle.rb_base.specs.declared.limits.TheConstants.{MOST_TURNS}
use Rattle.rb_base.specs.Bytes.{digits_value}
use Rattle.rb_base.specs.declared.kept.Kept.{Kept}
use Rattle.rb_record.specs.declared.record.RecordRefusal.{RecordRefusal}
use Rattle.rb_record.specs.declared.record.RecordRefusal.TheVariants.{Fault, Memory}
use Rattle.rb_record.specs.Record.{is_counted, record_of}

-- the number of a word that counts
abbrev pub counted : List ℕ → Option ℕ
counted word = cond (is_counted word) (Some (digits_value 0 word)) None

-- the alternate that the words behind a turn and its process give, 0 where there are none
abbrev pub alternate_in : List (List ℕ) → Option ℕ
alternate_in [] = Some 0
alternate_in (word ∷ []) = counted word
alternate_in (word ∷ more ∷ words) = None

-- a text is refused for its first fault; want of memory says nothing of it
abbrev pub IsRefusedFor : Result (List Kept) TextFault → RecordRefusal → Type 0
IsRefusedFor turns (Fault fault) = turns ≡ Err fault
IsRefusedFor turns Memory = Unit {0}

-- a kept turn of one of so many processes, above the turn before it
pub record IsKept (processes before : ℕ) (kept : Kept) : Type 0 where
  pub rises : before < kept.turn
  pub few_turns : kept.turn ≤ MOST_TURNS
  pub known : kept.process < processes
  pub few_alternates : kept.alternate ≤ MOST_TURNS

-- kept turns that rise from above this number
abbrev pub AreKept : ℕ → ℕ → List Kept → Type 0
AreKept processes before [] = Unit {0}
AreKept processes before (kept ∷ others) = IsKept processes before kept × AreKept processes kept.turn others

-- the turns of each record are those of its processes, and rise within the limits
abbrev pub RecordsRise : Type 0
RecordsRise =
    (names : List (List ℕ)) (text : List ℕ) (turns : List Kept) →
    record_of names text ≡ Ok turns → AreKept (length names) 0 turns × (length turns ≤ MOST_TURNS)
