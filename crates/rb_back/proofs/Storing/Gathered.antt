-- Small facts of where addresses may store.
use Rattle.std.proofs.Common.{◌≡◌, ◌⊎◌, inl, inr, ℕ, ◌+◌, ◌-◌, ◌<◌, ◌≤◌, ◌^◌, List, [], ◌∷◌, length, slice_get, Option, Some, None, refl, sym, ◌∙◌, subst, arith, nat_lt, Bool, true, false, ◌&&◌, true≢false, ltb-true, ltb-false}
use Rattle.std.proofs.lemmas.Option.{slice_get_past}
use Rattle.rb_world.proofs.ListFacts.{none_some}
use Rattle.rb_code.specs.Instructions.Plain.{Code}
use Rattle.rb_code.specs.SoundCode.Reached.{successors}
use Rattle.rb_code.specs.SoundCode.Sound.{IsMember}
use Rattle.rb_code.specs.declared.instr.Instr.{Instr}
use Rattle.rb_code.specs.declared.instr.Instr.TheVariants.{Turn, JumpZero, Call, Range, Again, Absent}
use Rattle.rb_back.specs.declared.stores.Stores.{Stores}
use Rattle.rb_back.specs.Stores.{AreBoundBy, AreRanges, HasStores, IsIn, MayBeIn, MayStore, MayStoreFrom, UnlessTurn}

-- what is stored unless a turn begins is stored
pub unless_stored : (o : Option Instr) (P : Type 0) → UnlessTurn o P → P
unless_stored None P h = h
unless_stored (Some Turn) P h = absurd h
unless_stored (Some other) P h = h

-- an instruction that leads to an address, or on
abbrev pub LeadsOrOn : Instr → ℕ → Type 0
LeadsOrOn instr b =
    (instr ≡ JumpZero b) ⊎ (((x : ℕ) × (instr ≡ Absent x b)) ⊎ (((x : ℕ) × (instr ≡ Range x b)) ⊎ (((x : ℕ) × (instr ≡ Again x b))
    ⊎ ((x : ℕ) × (y : ℕ) × (instr ≡ Call b x y)))))

pub to_both : (c : Code) (instr : Instr) (a b : ℕ) → LeadsOrOn instr b → (P : ℕ → Type 0) → P b → P (a + 1) → (x : ℕ)
    → IsMember x (successors c instr a) → P x
to_both c instr a b h P one other x to = by h
  where
    either : IsMember x (b ∷ (a + 1) ∷ []) → P x
    either (inl is) = subst P is one
    either (inr (inl is)) = subst P is other
    either (inr (inr none)) = absurd none

    by : LeadsOrOn instr b → P x
    by (inl is) = either (subst (λ i. IsMember x (successors c i a)) is to)
    by (inr (inl (y, is))) = either (subst (λ i. IsMember x (successors c i a)) is to)
    by (inr (inr (inl (y, is)))) = either (subst (λ i. IsMember x (successors c i a)) is to)
    by (inr (inr (inr (inl (y, is))))) = either (subst (λ i. IsMember x (successors c i a)) is to)
    by (inr (inr (inr (inr (y, z, is))))) = either (subst (λ i. IsMember x (successors c i a)) is to)

-- one address more has all that is stored
pub both_hold : (a b : Bool) → a && b ≡ true → (a ≡ true) × (b ≡ true)
both_hold true true e = (refl, refl)
both_hold true false e = absurd (true≢false (sym e))
both_hold false b e = absurd (true≢false (sym e))

pub all_before : (P : ℕ → Type 0) (n : ℕ) → ((a : ℕ) → a < n → P a) → P n → (a : ℕ) → a < n + 1 → P a
all_before P n before here a less = by (nat_lt a n) refl
  where
    by : (b : Bool) → nat_lt a n ≡ b → P a
    by true e = before a (ltb-true a n e)
    by false e = subst P {x = n} {y = a} (let more = ltb-false a n e in omega (arith, more, less)) here

-- an address has what was found of it
pub has_stores : (c : Code) (most : ℕ) (ranges : List Stores) (a : ℕ) (found : Stores)
    → ((instr : Instr) (k : ℕ) → slice_get c.instrs a ≡ Some instr → k < 2 ^ 32 - 1 → MayStore most instr k → IsIn k found)
    → ((instr : Instr) (b k : ℕ) → slice_get c.instrs a ≡ Some instr → IsMember b (successors c instr a) → k < 2 ^ 32 - 1
    → MayStoreFrom c ranges b k → IsIn k found)
    → ((k : ℕ) → IsIn k found → MayBeIn k (slice_get ranges a)) → HasStores c most ranges a
has_stores c most ranges a found own behind within = record {
  own = λ instr k at low may. within k (own instr k at low may);
  behind = λ instr b k at to low may. within k (behind instr b k at to low may);
}

-- where no address has words of its own
pub none_of_own : (c : Code) (most : ℕ) → AreBoundBy c.instrs most → AreRanges c []
none_of_own c most bounds =
    record { most = most; bounds = bounds; each = λ a. record { own = λ instr k at low may. tt; behind = λ instr b k at to low may. tt } }

-- past the last instruction there is none
pub past_all : (c : Code) (most : ℕ) (ranges : List Stores) (a : ℕ) → length c.instrs ≤ a → HasStores c most ranges a
past_all c most ranges a past = record {
  own = λ instr k at low may. absurd (none_some (sym (slice_get_past c.instrs a past) ∙ at));
  behind = λ instr b k at to low may. absurd (none_some (sym (slice_get_past c.instrs a past) ∙ at));
}

pub all_ranges : (c : Code) (most : ℕ) (ranges : List Stores) (n : ℕ) → AreBoundBy c.instrs most → length c.instrs ≤ n
    → ((a : ℕ) → a < n → HasStores c most ranges a) → AreRanges c ranges
all_ranges c most ranges n bounds all each = record { most = most; bounds = bounds; each = λ a. by a (nat_lt a n) refl }
  where
    by : (a : ℕ) (b : Bool) → nat_lt a n ≡ b → HasStores c most ranges a
    by a true e = each a (ltb-true a n e)
    by a false e = past_all c most ranges a (let more = ltb-false a n e in omega (arith, more, all))
