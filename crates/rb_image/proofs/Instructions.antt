-- The format of instructions.
use Rattle.std.proofs.Common.{◌≡◌, ℕ, zero, suc, ◌+◌, ◌≤◌, Bool, true, false, eqb, ◌&&◌, List, [], ◌∷◌, ◌++◌, length, slice_get, Option, Some, refl, sym, ap, ◌∙◌, subst, arith}
use Rattle.std.proofs.lemmas.Bool.{eqb-true}
use Rattle.rb_code.specs.declared.instr.Instr.{Instr}
use Rattle.rb_code.specs.declared.instr.Instr.TheVariants.{Push, Load, Prior, Bound, LoadAt, PriorAt, Store, StoreAt, Jump, JumpZero, Frame, Drop, Text, Room, Put, There, Take, Call, Enter, Start, Test, Range, Again, Counter, Absent}
use Rattle.rb_image.specs.declared.read.sample.TheConstants.{SAMPLES}
use Rattle.rb_image.specs.Instrs.{code, instr, operands}
use Rattle.rb_image.specs.Ranges.{IsInstr}
use Rattle.rb_image.specs.Reading.{◌>>=◌, Reading, made}
use Rattle.rb_image.specs.ReadInstrs.{instr_at, like_at, sample_at, taken_by}
use Rattle.rb_image.proofs.Formats.{IsBytes, IsFormat, Takes, bind_some, both_is, some_is}
use Rattle.rb_image.proofs.Numbers.{integer_is, natural_is}
use Rattle.rb_image.proofs.Flags.{spot_is}

-- the samples stand at their numbers
numbered : ℕ → List Instr → Bool
numbered n [] = true
numbered n (one ∷ others) = eqb (code one) n && numbered (suc n) others

both_true : (a b : Bool) → (a && b) ≡ true → (a ≡ true) × (b ≡ true)
both_true true b h = (refl, h)
both_true false b h = absurd cc

found : (n : ℕ) (samples : List Instr) (k : ℕ) (sample : Instr) → numbered n samples ≡ true → slice_get samples k ≡ Some sample
    → code sample ≡ n + k
unfolding numbered
found n [] k sample h e = absurd cc
found n (one ∷ others) zero sample h e =
    let same : one ≡ sample = some_is one sample e in
    let first : code one ≡ n = eqb-true _ _ (both_true (eqb (code one) n) (numbered (suc n) others) h).0 in
    ap code (sym same) ∙ first ∙ omega arith
found n (one ∷ others) (suc k) sample h e =
    omega (arith, found (suc n) others k sample (both_true (eqb (code one) n) (numbered (suc n) others) h).1 e)

all_numbered : numbered 0 SAMPLES ≡ true
unfolding numbered
all_numbered = refl

at_its_number : (n : ℕ) (sample : Instr) → sample_at n ≡ Some sample → code sample ≡ n
unfolding sample_at
at_its_number n sample e = found 0 SAMPLES n sample all_numbered e ∙ omega arith

-- what was taken of the operands of an instruction with this number
record Likely (n : ℕ) (bytes : List ℕ) (one : Instr) (rest : List ℕ) : Type 0 where
  operands_taken : Takes bytes (operands one) rest
  same : code one ≡ n
  ranges : IsInstr one

module _ {X : Type 0} {spell : X → List ℕ} {reading : Reading X} {Fits : X → Type 0} (format : IsFormat spell reading Fits) (f : X → Instr) where
  shape_takes : (n : ℕ) → ((x : X) → operands (f x) ≡ spell x) → ((x : X) → code (f x) ≡ n) → ((x : X) → Fits x → IsInstr (f x))
      → (bytes rest : List ℕ) (one : Instr) → IsBytes bytes → made f reading bytes ≡ Some (one, rest) → Likely n bytes one rest
  shape_takes n same coded to bytes rest one fits e =
      let p = bind_some (reading bytes) (λ v. Some (f v.0, v.1)) (one, rest) e in
      let t = format.takes bytes p.0.1 p.0.0 fits p.1 in
      subst (λ (z : Instr × List ℕ). Likely n bytes z.0 z.1) (some_is (f p.0.0, p.0.1) (one, rest) p.2)
      (record {
        operands_taken = subst (λ (s : List ℕ). Takes bytes s p.0.1) (sym (same p.0.0)) t.0;
        same = coded p.0.0;
        ranges = to p.0.0 t.1;
      })

  shape_again : (x : X) (rest : List ℕ) → Fits x → made f reading (spell x ++ rest) ≡ Some (f x, rest)
  shape_again x rest fits = ap (λ (r : Option (X × List ℕ)). r >>= λ v. Some (f v.0, v.1)) (format.again x rest fits)

like_takes : (sample : Instr) (bytes rest : List ℕ) (one : Instr) → IsBytes bytes
    → like_at (taken_by sample) sample bytes ≡ Some (one, rest) → Likely (code sample) bytes one rest
like_takes (Push n) = shape_takes integer_is Push 1 (λ _. refl) (λ _. refl) (λ _ h. h)
like_takes (Load v) = shape_takes spot_is Load 2 (λ _. refl) (λ _. refl) (λ _ h. h)
like_takes (Prior v) = shape_takes spot_is Prior 3 (λ _. refl) (λ _. refl) (λ _ h. h)
like_takes (Bound n) = shape_takes natural_is Bound 4 (λ _. refl) (λ _. refl) (λ _ h. h)
like_takes (LoadAt v) = shape_takes spot_is LoadAt 5 (λ _. refl) (λ _. refl) (λ _ h. h)
like_takes (PriorAt v) = shape_takes spot_is PriorAt 6 (λ _. refl) (λ _. refl) (λ _ h. h)
like_takes (Store v) = shape_takes spot_is Store 7 (λ _. refl) (λ _. refl) (λ _ h. h)
like_takes (StoreAt v) = shape_takes spot_is StoreAt 8 (λ _. refl) (λ _. refl) (λ _ h. h)
like_takes (Jump n) = shape_takes natural_is Jump 23 (λ _. refl) (λ _. refl) (λ _ h. h)
like_takes (JumpZero n) = shape_takes natural_is JumpZero 24 (λ _. refl) (λ _. refl) (λ _ h. h)
like_takes (Frame n) = shape_takes natural_is Frame 25 (λ _. refl) (λ _. refl) (λ _ h. h)
like_takes (Drop n) = shape_takes natural_is Drop 26 (λ _. refl) (λ _. refl) (λ _ h. h)
like_takes (Text n) = shape_takes natural_is Text 27 (λ _. refl) (λ _. refl) (λ _ h. h)
like_takes (Room n) = shape_takes natural_is Room 30 (λ _. refl) (λ _. refl) (λ _ h. h)
like_takes (Put n) = shape_takes natural_is Put 31 (λ _. refl) (λ _. refl) (λ _ h. h)
like_takes (There n) = shape_takes natural_is There 32 (λ _. refl) (λ _. refl) (λ _ h. h)
like_takes (Take n) = shape_takes natural_is Take 33 (λ _. refl) (λ _. refl) (λ _ h. h)
like_takes (Call a p n) =
    shape_takes (both_is natural_is (both_is natural_is natural_is)) (λ (x : ℕ × (ℕ × ℕ)). Call x.0 x.1.0 x.1.1) 34 (λ _. refl) (λ _. refl) (λ _ h. h)
like_takes (Enter n) = shape_takes natural_is Enter 37 (λ _. refl) (λ _. refl) (λ _ h. h)
like_takes (Start n) = shape_takes natural_is Start 38 (λ _. refl) (λ _. refl) (λ _ h. h)
like_takes (Test n) = shape_takes natural_is Test 39 (λ _. refl) (λ _. refl) (λ _ h. h)
like_takes (Range m n) =
    shape_takes (both_is natural_is natural_is) (λ (x : ℕ × ℕ). Range x.0 x.1) 41 (λ _. refl) (λ _. refl) (λ _ h. h)
like_takes (Again m n) =
    shape_takes (both_is natural_is natural_is) (λ (x : ℕ × ℕ). Again x.0 x.1) 42 (λ _. refl) (λ _. refl) (λ _ h. h)
like_takes (Counter n) = shape_takes natural_is Counter 43 (λ _. refl) (λ _. refl) (λ _ h. h)
like_takes (Absent m n) =
    shape_takes (both_is natural_is natural_is) (λ (x : ℕ × ℕ). Absent x.0 x.1) 44 (λ _. refl) (λ _. refl) (λ _ h. h)
like_takes other = λ bytes rest one fits e.
    subst (λ (z : Instr × List ℕ). Likely (code other) bytes z.0 z.1) (some_is (other, bytes) (one, rest) e)
    (record { operands_taken = record { parts = refl; rest_fits = fits }; same = refl; ranges = tt })

instr_takes : (bytes rest : List ℕ) (one : Instr) → IsBytes bytes → instr_at bytes ≡ Some (one, rest)
    → Takes bytes (instr one) rest × IsInstr one
unfolding instr_at
instr_takes [] rest one fits e = absurd cc
instr_takes (n ∷ bytes) rest one fits e =
    let p = bind_some (sample_at n) (λ sample. like_at (taken_by sample) sample bytes) (one, rest) e in
    let t = like_takes p.0 bytes rest one (λ i. fits (suc i)) p.2 in
    let same : n ≡ code one = sym (at_its_number n p.0 p.1) ∙ sym t.same in
    let whole : n ∷ bytes ≡ instr one ++ rest =
    ap (λ (m : ℕ). m ∷ bytes) same ∙ ap (λ (more : List ℕ). code one ∷ more) t.operands_taken.parts in
    (record { parts = whole; rest_fits = t.operands_taken.rest_fits }, t.ranges)

instr_again : (one : Instr) (rest : List ℕ) → IsInstr one → instr_at (instr one ++ rest) ≡ Some (one, rest)
unfolding instr_at sample_at
instr_again (Push n) rest fits = shape_again integer_is Push n rest fits
instr_again (Load v) rest fits = shape_again spot_is Load v rest fits
instr_again (Prior v) rest fits = shape_again spot_is Prior v rest fits
instr_again (Bound n) rest fits = shape_again natural_is Bound n rest fits
instr_again (LoadAt v) rest fits = shape_again spot_is LoadAt v rest fits
instr_again (PriorAt v) rest fits = shape_again spot_is PriorAt v rest fits
instr_again (Store v) rest fits = shape_again spot_is Store v rest fits
instr_again (StoreAt v) rest fits = shape_again spot_is StoreAt v rest fits
instr_again (Jump n) rest fits = shape_again natural_is Jump n rest fits
instr_again (JumpZero n) rest fits = shape_again natural_is JumpZero n rest fits
instr_again (Frame n) rest fits = shape_again natural_is Frame n rest fits
instr_again (Drop n) rest fits = shape_again natural_is Drop n rest fits
instr_again (Text n) rest fits = shape_again natural_is Text n rest fits
instr_again (Room n) rest fits = shape_again natural_is Room n rest fits
instr_again (Put n) rest fits = shape_again natural_is Put n rest fits
instr_again (There n) rest fits = shape_again natural_is There n rest fits
instr_again (Take n) rest fits = shape_again natural_is Take n rest fits
instr_again (Call a p n) rest fits =
    shape_again (both_is natural_is (both_is natural_is natural_is)) (λ (x : ℕ × (ℕ × ℕ)). Call x.0 x.1.0 x.1.1) (a, (p, n)) rest fits
instr_again (Enter n) rest fits = shape_again natural_is Enter n rest fits
instr_again (Start n) rest fits = shape_again natural_is Start n rest fits
instr_again (Test n) rest fits = shape_again natural_is Test n rest fits
instr_again (Range m n) rest fits = shape_again (both_is natural_is natural_is) (λ (x : ℕ × ℕ). Range x.0 x.1) (m, n) rest fits
instr_again (Again m n) rest fits = shape_again (both_is natural_is natural_is) (λ (x : ℕ × ℕ). Again x.0 x.1) (m, n) rest fits
instr_again (Counter n) rest fits = shape_again natural_is Counter n rest fits
instr_again (Absent m n) rest fits = shape_again (both_is natural_is natural_is) (λ (x : ℕ × ℕ). Absent x.0 x.1) (m, n) rest fits
instr_again other rest fits = refl

pub instr_is : IsFormat instr instr_at IsInstr
instr_is = record { takes = instr_takes; again = instr_again }

-- each has one byte at least
pub instr_long : (one : Instr) → 1 ≤ length (instr one)
instr_long one = omega arith
