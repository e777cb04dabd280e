-- What plain code lists stands in the lists of the code in memory that it is of.
use Rattle.std.proofs.Common.{◌≡◌, ℕ, ◌<◌, List, length, slice_get, Option, Some, None, refl, ap, sym, ◌∙◌, subst}
use Rattle.std.proofs.lemmas.List.{length-map}
use Rattle.std.specs.Prelude.{get_or}
use Rattle.std.proofs.lemmas.Option.{slice_get_read, slice_get_within}
use Rattle.rb_code.specs.Instructions.Plain.{block, code as plain, part}
use Rattle.rb_code.specs.SoundCode.Safe.{IsThere}
use Rattle.rb_code.specs.SoundCode.Stands.{RestsAt}
use Rattle.rb_code.specs.declared.instr.Instr.{Instr}
use Rattle.rb_code.specs.declared.code.Code.{Code}

-- what is there is one of so many
pub is_among : {A : Type 0} (xs : List A) (k : ℕ) → IsThere (slice_get xs k) → k < length xs
is_among {A} xs k = by (slice_get xs k) refl
  where
    by : (o : Option A) → slice_get xs k ≡ o → IsThere o → k < length xs
    by None e h = absurd h
    by (Some x) e h = slice_get_within xs k x e

pub process_listed : (code : Code) (p : ℕ) → p < length (plain code).processes → p < length code.processes.items
process_listed code p h = subst (λ n. p < n) (length-map code.processes.items part) h

pub block_listed : (code : Code) (b : ℕ) → b < length (plain code).blocks → b < length code.blocks.items
block_listed code b h = subst (λ n. b < n) (length-map code.blocks.items block) h

-- who rests stands at an instruction
rests_there : (o : Option Instr) → RestsAt o → IsThere o
rests_there None h = h
rests_there (Some i) h = tt

pub rests_among : (instrs : List Instr) (at : ℕ) → RestsAt (slice_get instrs at) → at < length instrs
rests_among instrs at h = is_among instrs at (rests_there (slice_get instrs at) h)

-- what was read of a list that was lent
pub read_there : {A : Type 0} (lent items : List A) (k : ℕ) (x y : A) → lent ≡ items → k < length lent → x ≡ get_or lent k x → x ≡ y → slice_get items k ≡ Some y
read_there {A} lent items k x y same within read is =
    ap (λ (xs : List A). slice_get xs k) (sym same) ∙ slice_get_read lent (length lent) k x refl within read ∙ ap Some is
