-- The bytes of an instruction are its number and those of its operands, by their kind.
use Rattle.std.proofs.Common.{◌≡◌, ℕ, ℤ, List, ◌∷◌, refl, sym, ap, ap₂, ◌∙◌, subst}
use Rattle.std.specs.Prelude.{FitsSigned, OnOk, Result, Ok, Err}
use Rattle.std.specs.Int.{w64}
use Rattle.rb_code.specs.declared.instr.Instr.{Instr}
use Rattle.rb_code.specs.declared.instr.Instr.TheVariants.{Push, Load, Prior, Bound, LoadAt, PriorAt, Store, StoreAt, Jump, JumpZero, Frame, Drop, Text, Room, Put, There, Take, Call, Enter, Start, Test, Range, Again, Counter, Absent}
use Rattle.rb_image.specs.declared.write.instr.Operands.{Operands}
use Rattle.rb_image.specs.declared.write.instr.Operands.TheVariants.{Nothing, Integer, Word, One, Two, Three}
use Rattle.rb_image.specs.Instrs.{code, instr, operands}
use Rattle.rb_image.specs.Ranges.{IsInstr, IsNatural, IsSpot}
use Rattle.rb_image.specs.WriteInstrs.{bytes_in, operands_in}

bytes_are : (one : Instr) → bytes_in (operands_in one) ≡ operands one
bytes_are (Push n) = refl
bytes_are (Load v) = refl
bytes_are (Prior v) = refl
bytes_are (Bound m) = refl
bytes_are (LoadAt v) = refl
bytes_are (PriorAt v) = refl
bytes_are (Store v) = refl
bytes_are (StoreAt v) = refl
bytes_are (Jump m) = refl
bytes_are (JumpZero m) = refl
bytes_are (Frame m) = refl
bytes_are (Drop m) = refl
bytes_are (Text m) = refl
bytes_are (Room m) = refl
bytes_are (Put m) = refl
bytes_are (There m) = refl
bytes_are (Take m) = refl
bytes_are (Call a p n) = refl
bytes_are (Enter m) = refl
bytes_are (Start m) = refl
bytes_are (Test m) = refl
bytes_are (Range m n) = refl
bytes_are (Again m n) = refl
bytes_are (Counter m) = refl
bytes_are (Absent m n) = refl
bytes_are other = refl

pub spelled : (one : Instr) (n : ℕ) (o : Operands) → n ≡ code one → operands_in one ≡ o → n ∷ bytes_in o ≡ instr one
spelled one n o e f = ap₂ (λ (m : ℕ) (bytes : List ℕ). m ∷ bytes) e (ap bytes_in (sym f) ∙ bytes_are one)

pub integer_code : (one : Instr) (n : ℤ) → operands_in one ≡ Integer n → 1 ≡ code one
integer_code (Push m) n e = refl
integer_code other n e = absurd cc

pub three_code : (one : Instr) (a p n : ℕ) → operands_in one ≡ Three a p n → 34 ≡ code one
three_code (Call b q m) a p n e = refl
three_code other a p n e = absurd cc

-- operands lie in their ranges, and so do those of an instruction that has these
abbrev pub Fit : Operands → Type 0
Fit Nothing = Unit {0}
Fit (Integer n) = FitsSigned w64 n
Fit (Word v) = IsSpot v
Fit (One n) = IsNatural n
Fit (Two m n) = IsNatural m × IsNatural n
Fit (Three a p n) = IsNatural a × (IsNatural p × IsNatural n)

fit : (one : Instr) → Fit (operands_in one) → IsInstr one
fit (Push n) h = h
fit (Load v) h = h
fit (Prior v) h = h
fit (Bound m) h = h
fit (LoadAt v) h = h
fit (PriorAt v) h = h
fit (Store v) h = h
fit (StoreAt v) h = h
fit (Jump m) h = h
fit (JumpZero m) h = h
fit (Frame m) h = h
fit (Drop m) h = h
fit (Text m) h = h
fit (Room m) h = h
fit (Put m) h = h
fit (There m) h = h
fit (Take m) h = h
fit (Call a p n) h = h
fit (Enter m) h = h
fit (Start m) h = h
fit (Test m) h = h
fit (Range m n) h = h
fit (Again m n) h = h
fit (Counter m) h = h
fit (Absent m n) h = h
fit other h = tt

pub fits : {T E : Type 0} (one : Instr) (o : Operands) (r : Result T E) → operands_in one ≡ o → Fit o → OnOk r (IsInstr one)
fits one o (Ok v) e h = fit one (subst Fit (sym e) h)
fits one o (Err d) e h = tt
