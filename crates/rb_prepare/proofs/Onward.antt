-- From one address on to another along ways that lead ahead within a body; and what is kept along such ways.
use Rattle.std.proofs.Common.{◌≡◌, inl, inr, ℕ, ◌+◌, ◌<◌, ◌≤◌, nat_le, Bool, true, false, List, [], ◌∷◌, slice_get, Some, refl, sym, subst, arith}
use Rattle.std.proofs.lemmas.Bool.{leb-true, leb-false}
use Rattle.rb_code.specs.Instructions.Plain.{Code}
use Rattle.rb_code.specs.SoundCode.Reached.{Reached, leads}
use Rattle.rb_code.specs.SoundCode.Sound.{Each, IsMember}
use Rattle.rb_code.specs.Agreement.Template.{One}
use Rattle.rb_code.specs.declared.instr.Instr.{Instr}
use Rattle.rb_code.specs.declared.instr.Instr.TheVariants.{Jump, JumpZero, Absent, Range, Again, Start, Return, Done}
use Rattle.rb_prepare.proofs.Walking.Ways.{ways, way_is_successor}

-- what can be come to from an address, going ahead
pub data Onward (c : Code) (from : ℕ) : ℕ → Type 0 where
  itself : Onward c from from
  further : {x y : ℕ} (instr : Instr) → Onward c from x → slice_get c.instrs x ≡ Some instr → IsMember y (ways c instr x) → x < y
      → Onward c from y

-- an instruction that goes on behind it
abbrev pub GoesOn : Instr → Type 0
GoesOn (Jump b) = ⊥
GoesOn (Start b) = ⊥
GoesOn Return = ⊥
GoesOn Done = ⊥
GoesOn other = Unit {0}

last_way : (P : ℕ → Type 0) (c : Code) (a : ℕ) (instr : Instr) → GoesOn instr → Each (ways c instr a) P → P (a + 1)
last_way P c a (Jump b) goes all = absurd goes
last_way P c a (Start b) goes all = absurd goes
last_way P c a Return goes all = absurd goes
last_way P c a Done goes all = absurd goes
last_way P c a (JumpZero b) goes all = all.1.0
last_way P c a (Absent channel b) goes all = all.1.0
last_way P c a (Range k b) goes all = all.1.0
last_way P c a (Again k b) goes all = all.1.0
last_way P c a other goes all = all.0

pub each_of_members : (P : ℕ → Type 0) (xs : List ℕ) → ((x : ℕ) → IsMember x xs → P x) → Each xs P
each_of_members P [] h = tt
each_of_members P (x ∷ xs) h = (h x (inl refl), each_of_members P xs (λ y member. h y (inr member)))

pub member_of_each : (P : ℕ → Type 0) (xs : List ℕ) (x : ℕ) → Each xs P → IsMember x xs → P x
member_of_each P [] x all member = absurd member
member_of_each P (y ∷ xs) x all (inl is) = subst P is all.0
member_of_each P (y ∷ xs) x all (inr later) = member_of_each P xs x all.1 later

module _ (c : Code) (from : ℕ) where
  -- all addresses from a up to b are come to
  abbrev pub AllOnward : ℕ → ℕ → Type 0
  AllOnward a b = (x : ℕ) → a ≤ x → x ≤ b → Onward c from x

  pub only : (a : ℕ) → Onward c from a → AllOnward a a
  only a r x low high = let same : a ≡ x = omega arith in subst (Onward c from) same r

  pub up_to : (a m n b : ℕ) → n ≤ m + 1 → AllOnward a m → AllOnward n b → AllOnward a b
  up_to a m n b near before behind x low high = by (nat_le x m) refl
    where
      by : (t : Bool) → nat_le x m ≡ t → Onward c from x
      by true e = before x low (leb-true x m e)
      by false e = let far = leb-false x m e in behind x (omega arith) high

  -- an address that is come to before others, and the last one
  pub and_on : (a n b : ℕ) → n ≤ a + 1 → Onward c from a → AllOnward n b → AllOnward a b
  and_on a n b near r all = up_to a a n b near (only a r) all

  pub at_last : (a b : ℕ) → b ≡ a → Onward c from a → AllOnward a b
  at_last a b e r = subst (AllOnward a) (sym e) (only a r)

  pub moved_to : (a b : ℕ) → b ≡ a → Onward c from a → Onward c from b
  moved_to a b e r = subst (Onward c from) (sym e) r

  -- where an instruction leads ahead
  pub ways_onward : (a : ℕ) (instr : Instr) → slice_get c.instrs a ≡ Some instr → Onward c from a
      → Each (ways c instr a) (λ x. a < x → Onward c from x)
  ways_onward a instr at r =
      each_of_members (λ x. a < x → Onward c from x) (ways c instr a) (λ x member ahead. further instr r at member ahead)

  pub goes_on : (a b : ℕ) (instr : Instr) → One instr c a b → GoesOn instr → Onward c from a → Onward c from b
  goes_on a b instr one goes r =
      moved_to (a + 1) b one.1 (last_way (λ x. a < x → Onward c from x) c a instr goes (ways_onward a instr one.0 r) (omega arith))

  -- it is not before the address that it is come to from
  pub onward_up : (x : ℕ) → Onward c from x → from ≤ x
  onward_up x itself = omega arith
  onward_up y (further {x} instr r at member ahead) = let up = onward_up x r in omega arith

  -- what is kept along ways that lead ahead holds of all that is come to
  pub kept_onward : (P : ℕ → Type 0) → ((x y : ℕ) (instr : Instr) → slice_get c.instrs x ≡ Some instr → IsMember y (ways c instr x) → x < y → P x → P y)
      → (x : ℕ) → Onward c from x → P from → P x
  kept_onward P keep x itself first = first
  kept_onward P keep y (further {x} instr r at member ahead) first = keep x y instr at member ahead (kept_onward P keep x r first)

-- what is come to from an address that is reached is reached
pub onward_reached : (c : Code) (a x : ℕ) → Onward c a x → Reached c a → Reached c x
onward_reached c a x r known =
    kept_onward c a (Reached c) (λ y z instr at member ahead so_far. leads instr so_far at (way_is_successor c instr y z member)) x r known
