-- The slots of one channel through a run: a change that keeps them in every process keeps them in the world.
use Rattle.std.proofs.Common.{◌≡◌, ◌%◌, ℕ, ℤ, pos, zero, suc, List, [], ◌∷◌, length, map, slice_get, unwrap_or, Option, Some, refl, ap, ◌∙◌, subst, arith}
use Rattle.rb_world.specs.Kind.{Ends}
use Rattle.rb_world.specs.World.{Process, World, change_at}
use Rattle.rb_world.specs.Standing.{Each}
use Rattle.rb_world.specs.Slots.{Slots, LieInSlots, size_on}
use Rattle.rb_world.proofs.ListFacts.{none_some, some_same}
use Rattle.rb_world.proofs.Erasing.ErasableKinds.{Nothing, Parts, whole}
use Rattle.rb_world.proofs.Slots.SlotsKept.{TakesRise, KeepsSlots}

-- a channel has as many slots as its size
pub record AreSized (slots : Slots) (c size : ℕ) : Type 0 where
  pub values : List ℤ
  pub there : slice_get slots c ≡ Some values
  pub many : length values ≡ size

-- a process that a changed one comes from
pub record Comes {A : Type 0} (K : A → A → Type 0) (r : ℕ) (a' : A) (xs : List A) : Type 0 where
  pub old : A
  pub there : slice_get xs r ≡ Some old
  pub keeps : K old a'

pub comes_changed : {A : Type 0} (K : A → A → Type 0) (p : ℕ) (f : A → A) (xs : List A)
    → ((r : ℕ) (a : A) → slice_get xs r ≡ Some a → K a a) → ((a : A) → slice_get xs p ≡ Some a → K a (f a))
    → (r : ℕ) (a' : A) → slice_get (change_at p f xs) r ≡ Some a' → Comes K r a' xs
comes_changed K p f [] stays one r a' e = absurd (none_some e)
comes_changed K zero f (x ∷ xs) stays one zero a' e = record { old = x; there = refl; keeps = subst (K x) (some_same e) (one x refl) }
comes_changed K zero f (x ∷ xs) stays one (suc r) a' e = record { old = a'; there = e; keeps = stays (suc r) a' e }
comes_changed K (suc p) f (x ∷ xs) stays one zero a' e = record { old = x; there = refl; keeps = subst (K x) (some_same e) (stays zero x refl) }
comes_changed K (suc p) f (x ∷ xs) stays one (suc r) a' e =
    let come = comes_changed K p f xs (λ n. stays (suc n)) one r a' e in
    record { old = come.old; there = come.there; keeps = come.keeps }

pub comes_mapped : {A : Type 0} (K : A → A → Type 0) (f : A → A) (xs : List A) → ((r : ℕ) (a : A) → slice_get xs r ≡ Some a → K a (f a))
    → (r : ℕ) (a' : A) → slice_get (map f xs) r ≡ Some a' → Comes K r a' xs
comes_mapped K f [] one r a' e = absurd (none_some e)
comes_mapped K f (x ∷ xs) one zero a' e = record { old = x; there = refl; keeps = subst (K x) (some_same e) (one zero x refl) }
comes_mapped K f (x ∷ xs) one (suc r) a' e =
    let come = comes_mapped K f xs (λ n. one (suc n)) r a' e in
    record { old = come.old; there = come.there; keeps = come.keeps }

-- what holds of channel c in every world
pub record HoldsOn {S E P : Type 0} (x : Parts S E P) (c : ℕ) (ends : Ends) (w : World S S (Nothing × Slots)) : Type 0 where
  pub rise : Each (λ r q. TakesRise x c q) w.processes
  pub sized : AreSized w.memory.1 c ends.size
  pub lie : (sender receiver : Process S S) → slice_get w.processes ends.sender ≡ Some sender → slice_get w.processes ends.receiver ≡ Some receiver
      → LieInSlots (whole x) tt w.memory.1 c ends sender receiver

module _ {S E P : Type 0} (x : Parts S E P) (c : ℕ) (ends : Ends) where
  abbrev pub Keeping : Process S S → Process S S → Type 0
  Keeping q q' = TakesRise x c q → KeepsSlots x c q q'

  -- the slots of the channel as they were
  abbrev pub same_slots : Slots → Slots → Type 0
  same_slots old new = slice_get new c ≡ slice_get old c

  lie_kept : (old new : Slots) → same_slots old new → (sender receiver sender' receiver' : Process S S)
      → LieInSlots (whole x) tt old c ends sender receiver
      → KeepsSlots x c sender sender' → KeepsSlots x c receiver receiver' → LieInSlots (whole x) tt new c ends sender' receiver'
  lie_kept old new same sender receiver sender' receiver' lies one other = record {
    fit = omega (arith, one.front.shorter, lies.fit, other.later);
    lie = λ n from below.
        ap (λ (list : Option (List ℤ)). unwrap_or (slice_get (unwrap_or list []) (n % size_on x.channels c)) (pos 0)) same
        ∙ lies.lie n (omega (arith, other.later, from)) (omega (arith, one.front.shorter, below))
        ∙ one.front.same n below;
  }

  -- Where each process comes from one by a change that keeps the slots, and the slots are as they were, they hold on.
  pub holds_on : (w v : World S S (Nothing × Slots)) → HoldsOn x c ends w → same_slots w.memory.1 v.memory.1
      → ((r : ℕ) (q' : Process S S) → slice_get v.processes r ≡ Some q' → Comes Keeping r q' w.processes) → HoldsOn x c ends v
  holds_on w v holds same comes = record {
    rise = λ r q' e. let come = comes r q' e in (come.keeps (holds.rise r come.old come.there)).rise;
    sized = record { values = holds.sized.values; there = same ∙ holds.sized.there; many = holds.sized.many };
    lie = λ s' r' there here.
        let s = comes ends.sender s' there in
        let r = comes ends.receiver r' here in
        lie_kept w.memory.1 v.memory.1 same s.old r.old s' r' (holds.lie s.old r.old s.there r.there)
        (s.keeps (holds.rise ends.sender s.old s.there)) (r.keeps (holds.rise ends.receiver r.old r.there));
  }
