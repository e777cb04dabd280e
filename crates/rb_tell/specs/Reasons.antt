-- Why a text was refused, in words.
use Rattle.std.specs.Prelude.{◌≡◌, ◌++◌, ℕ, ◌≤◌, List, [], length, codes, Option, Some, None}
use Rattle.rb_base.specs.Words.{fault_word}
use Rattle.rb_base.specs.declared.fault.FaultName.TheVariants.{I1, I2, V4}
use Rattle.rb_base.specs.declared.limits.TheConstants.{MOST_BYTES}
use Rattle.rb_base.specs.declared.names.Names.{Names}
use Rattle.rb_frame.specs.Frame.{framed_alone}
use Rattle.rb_why.specs.Phrases.{long_words, sentence}
use Rattle.rb_why.specs.Source.{IsReason}
use Rattle.rb_why.specs.Stuck.{stuck_told}
use Rattle.rb_why.specs.Text.{text_told}
use Rattle.rb_hall.specs.declared.fault.Fault.{Fault}
use Rattle.rb_hall.specs.declared.fault.Fault.TheVariants as of
use Rattle.rb_hall.specs.declared.outcome.Refusal.{Refusal}
use Rattle.rb_commands.specs.declared.why.Why.{Why}
use Rattle.rb_commands.specs.declared.why.Why.TheVariants as why

-- what was read is no longer than a text may be; or nothing of it is looked at for the reason, as of an image, of what is too long, and of a number
abbrev pub IsShort : Fault → List ℕ → Type 0
IsShort of.Long text = Unit {0}
IsShort of.NoImage text = Unit {0}
IsShort of.Unsound text = Unit {0}
IsShort (of.NoOutcome number) text = Unit {0}
IsShort fault text = length text ≤ MOST_BYTES

-- the names of the program, where they are known
abbrev pub names_of : Option Why → Option Names
names_of (Some (why.Names names)) = Some names
names_of known = None

-- why a plain run is stuck at a turn, where that is known
abbrev pub IsStuckReason : List ℕ → List ℕ → Option Why → List ℕ → Type 0
IsStuckReason file text (Some (why.Stuck found names)) told = told ≡ stuck_told file text names found.kept found.cause
IsStuckReason file text known told = told ≡ framed_alone file (fault_word V4) (sentence V4 [])

-- that the program in a file has no outcome of the number that was asked for, and which command lists those that it has
abbrev pub missing_told : List ℕ → List ℕ
missing_told file = file ++ (codes ": it has no outcome of this number\nnext: rblview explore " ++ (file ++ codes "\n"))

-- why a text of a file of this name was refused for a fault
abbrev pub IsReasonOf : List ℕ → Fault → List ℕ → Option Why → List ℕ → Type 0
IsReasonOf file (of.Source fault) text known told = IsReason file text fault told
IsReasonOf file (of.Text fault) text known told = told ≡ text_told file text (names_of known) fault
IsReasonOf file (of.Stuck turn) text known told = IsStuckReason file text known told
IsReasonOf file of.NoImage text known told = told ≡ framed_alone file (fault_word I1) (sentence I1 [])
IsReasonOf file of.Unsound text known told = told ≡ framed_alone file (fault_word I2) (sentence I2 [])
IsReasonOf file of.Long text known told = told ≡ framed_alone file (codes "L0") long_words
IsReasonOf file (of.NoOutcome number) text known told = told ≡ missing_told file

-- the same of a refusal, with the bytes that it keeps and what it knows
abbrev pub IsReasonFor : List ℕ → Refusal Why → List ℕ → Type 0
IsReasonFor file refusal told = IsReasonOf file refusal.fault refusal.text.now refusal.why told
