-- Reading an instruction: by its number that of the samples, and then its operands in the place of the sample's.
use Rattle.std.specs.Prelude.{ℕ, [], ◌∷◌, slice_get, Option, Some, None}
use Rattle.rb_code.specs.declared.instr.Spot.{Spot}
use Rattle.rb_code.specs.declared.instr.Instr.{Instr}
use Rattle.rb_code.specs.declared.instr.Instr.TheVariants.{Push, Load, Prior, Bound, LoadAt, PriorAt, Store, StoreAt, Jump, JumpZero, Frame, Drop, Text, Room, Put, There, Take, Call, Enter, Start, Test, Range, Again, Counter, Absent}
use Rattle.rb_image.specs.declared.read.sample.Operands.{Operands}
use Rattle.rb_image.specs.declared.read.sample.Operands.TheVariants.{Nothing, Integer, Word, One, Two, Three}
use Rattle.rb_image.specs.declared.read.sample.TheConstants.{SAMPLES}
use Rattle.rb_image.specs.Reading.{◌>>=◌, Reading, both, made, integer_at, natural_at, spot_at}

-- what operands an instruction takes
abbrev pub taken_by : Instr → Operands
taken_by (Push n) = Integer
taken_by (Load v) = Word
taken_by (Prior v) = Word
taken_by (Bound m) = One
taken_by (LoadAt v) = Word
taken_by (PriorAt v) = Word
taken_by (Store v) = Word
taken_by (StoreAt v) = Word
taken_by (Jump m) = One
taken_by (JumpZero m) = One
taken_by (Frame m) = One
taken_by (Drop m) = One
taken_by (Text m) = One
taken_by (Room m) = One
taken_by (Put m) = One
taken_by (There m) = One
taken_by (Take m) = One
taken_by (Call a p n) = Three
taken_by (Enter m) = One
taken_by (Start m) = One
taken_by (Test m) = One
taken_by (Range m n) = Two
taken_by (Again m n) = Two
taken_by (Counter m) = One
taken_by (Absent m n) = Two
taken_by other = Nothing

-- a sample with an operand in place
abbrev pub with_word : Instr → Spot → Instr
with_word (Load v) word = Load word
with_word (Prior v) word = Prior word
with_word (LoadAt v) word = LoadAt word
with_word (PriorAt v) word = PriorAt word
with_word (Store v) word = Store word
with_word (StoreAt v) word = StoreAt word
with_word other word = other

abbrev pub with_one : Instr → ℕ → Instr
with_one (Bound m) k = Bound k
with_one (Jump m) k = Jump k
with_one (JumpZero m) k = JumpZero k
with_one (Frame m) k = Frame k
with_one (Drop m) k = Drop k
with_one (Text m) k = Text k
with_one (Room m) k = Room k
with_one (Put m) k = Put k
with_one (There m) k = There k
with_one (Take m) k = Take k
with_one (Enter m) k = Enter k
with_one (Start m) k = Start k
with_one (Test m) k = Test k
with_one (Counter m) k = Counter k
with_one other k = other

abbrev pub with_two : Instr → ℕ → ℕ → Instr
with_two (Range m n) k l = Range k l
with_two (Again m n) k l = Again k l
with_two (Absent m n) k l = Absent k l
with_two other k l = other

-- an instruction like a sample, with the operands that are read
abbrev pub like_at : Operands → Instr → Reading Instr
like_at Nothing sample bytes = Some (sample, bytes)
like_at Integer sample bytes = made Push integer_at bytes
like_at Word sample bytes = made (with_word sample) spot_at bytes
like_at One sample bytes = made (with_one sample) natural_at bytes
like_at Two sample bytes = made (λ x. with_two sample x.0 x.1) (both natural_at natural_at) bytes
like_at Three sample bytes = made (λ x. Call x.0 x.1.0 x.1.1) (both natural_at (both natural_at natural_at)) bytes

-- the sample of a number
unfoldable pub sample_at : ℕ → Option Instr
sample_at code = slice_get SAMPLES code

unfoldable pub instr_at : Reading Instr
instr_at [] = None
instr_at (code ∷ bytes) = sample_at code >>= λ sample. like_at (taken_by sample) sample bytes
