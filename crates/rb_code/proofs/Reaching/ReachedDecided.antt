-- Which addresses of a code are reached is decided: what is reached spreads along the ways of its instructions, which are finitely many.
use Rattle.std.proofs.Common.{◌≡◌, ◌⊎◌, inl, inr, ℕ, zero, suc, ◌+◌, ◌<◌, nat_eq, Bool, true, false, List, [], ◌∷◌, length, slice_get, Option, Some, None, refl, sym, subst}
use Rattle.std.proofs.Math.Bool.{◌||◌}
use Rattle.std.proofs.lemmas.Bool.{eq-eqb, eqb-true, or_cases, or_left, or_right}
use Rattle.std.proofs.lemmas.Option.{slice_get_within}
use Rattle.rb_world.proofs.ListFacts.{none_some, some_same}
use Rattle.rb_code.specs.Instructions.Plain.{Code, Part}
use Rattle.rb_code.specs.SoundCode.Reached.{Reached, begins, leads, successors}
use Rattle.rb_code.specs.SoundCode.ReachedDecided.{ReachedIsDecided}
use Rattle.rb_code.specs.SoundCode.Sound.{IsMember}
use Rattle.rb_code.specs.declared.instr.Instr.{Instr}
use Rattle.rb_code.proofs.Reaching.Spreading.{Comes, spread, spread_along, spread_from, spread_whole}

-- a number is among these
abbrev is_member : ℕ → List ℕ → Bool
is_member p [] = false
is_member p (m ∷ others) = nat_eq m p || is_member p others

member_is : (p : ℕ) (ms : List ℕ) → is_member p ms ≡ true → IsMember p ms
member_is p [] h = absurd cc
member_is p (m ∷ others) h = by (or_cases (nat_eq m p) (is_member p others) h) (member_is p others)
  where
    by : (nat_eq m p ≡ true) ⊎ (is_member p others ≡ true) → (is_member p others ≡ true → IsMember p others) → IsMember p (m ∷ others)
    by (inl here) more = inl (eqb-true m p here)
    by (inr behind) more = inr (more behind)

is_among : (p : ℕ) (ms : List ℕ) → IsMember p ms → is_member p ms ≡ true
is_among p [] h = absurd h
is_among p (m ∷ others) (inl here) = or_left (nat_eq m p) (is_member p others) (eq-eqb m p here)
is_among p (m ∷ others) (inr behind) = or_right (nat_eq m p) (is_member p others) (is_among p others behind)

-- a main body begins at an address
abbrev is_start : List Part → ℕ → Bool
is_start [] a = false
is_start (part ∷ others) a = nat_eq part.start a || is_start others a

pub record Begins (parts : List Part) (a : ℕ) : Type 0 where
  pub number : ℕ
  pub part : Part
  pub there : slice_get parts number ≡ Some part
  pub here : part.start ≡ a

start_of : (parts : List Part) (a : ℕ) → is_start parts a ≡ true → Begins parts a
start_of [] a h = absurd cc
start_of (part ∷ others) a h = by (or_cases (nat_eq part.start a) (is_start others a) h) (start_of others a)
  where
    by : (nat_eq part.start a ≡ true) ⊎ (is_start others a ≡ true) → (is_start others a ≡ true → Begins others a) → Begins (part ∷ others) a
    by (inl first) more = record { number = 0; part = part; there = refl; here = eqb-true part.start a first }
    by (inr behind) more = let found = more behind in record { number = suc found.number; part = found.part; there = found.there; here = found.here }

starts : (parts : List Part) (a p : ℕ) (part : Part) → slice_get parts p ≡ Some part → part.start ≡ a → is_start parts a ≡ true
starts [] a p part at here = absurd (none_some at)
starts (one ∷ others) a zero part at here =
    or_left (nat_eq one.start a) (is_start others a)
    (subst (λ (other : Part). nat_eq other.start a ≡ true) (sym (some_same at)) (eq-eqb part.start a here))
starts (one ∷ others) a (suc p) part at here = or_right (nat_eq one.start a) (is_start others a) (starts others a p part at here)

module _ (c : Code) where
  -- an instruction at an address leads to another
  abbrev leads_from : Option Instr → ℕ → ℕ → Bool
  leads_from None a b = false
  leads_from (Some instr) a b = is_member b (successors c instr a)

  abbrev goes : ℕ → ℕ → Bool
  goes a b = leads_from (slice_get c.instrs a) a b

  abbrev within : ℕ → ℕ → Bool
  within n a = spread (is_start c.processes) goes (length c.instrs) n a

  pub is_reached : ℕ → Bool
  is_reached a = within (length c.instrs + 1) a

  goes_on : (a b : ℕ) → Reached c a → goes a b ≡ true → Reached c b
  goes_on a b known h = by (slice_get c.instrs a) refl h
    where
      by : (o : Option Instr) → slice_get c.instrs a ≡ o → leads_from o a b ≡ true → Reached c b
      by None at way = absurd cc
      by (Some instr) at way = leads instr known at (member_is b (successors c instr a) way)

  within_reached : (n a : ℕ) → within n a ≡ true → Reached c a
  within_reached zero a h = let found = start_of c.processes a h in begins found.number found.part found.there found.here
  within_reached (suc n) a h = by (spread_from (is_start c.processes) goes (length c.instrs) n a h) (within_reached n)
    where
      by : (within n a ≡ true) ⊎ Comes (is_start c.processes) goes (length c.instrs) (within n) a → ((b : ℕ) → within n b ≡ true → Reached c b) → Reached c a
      by (inl before) known = known a before
      by (inr come) known = goes_on come.from a (known come.from come.there) come.way

  record InSteps (a : ℕ) : Type 0 where
    steps : ℕ
    come : within steps a ≡ true

  in_steps : (a : ℕ) → Reached c a → InSteps a
  in_steps a (begins p part at here) = record { steps = 0; come = starts c.processes a p part at here }
  in_steps b (leads {a} instr known at way) = by (in_steps a known)
    where
      by : InSteps a → InSteps b
      by so_far = record {
        steps = suc so_far.steps;
        come = spread_along (is_start c.processes) goes (length c.instrs) so_far.steps a b so_far.come
            (subst (λ o. leads_from o a b ≡ true) (sym at) (is_among b (successors c instr a) way)) (slice_get_within c.instrs a instr at);
      }

  pub reached_is : (a : ℕ) → is_reached a ≡ true → Reached c a
  unfolding is_reached
  reached_is a h = within_reached (length c.instrs + 1) a h

  pub is_reached_at : (a : ℕ) → a < length c.instrs → Reached c a → is_reached a ≡ true
  unfolding is_reached
  is_reached_at a low known =
      let so_far = in_steps a known in
      spread_whole (is_start c.processes) goes (length c.instrs) so_far.steps a low so_far.come

pub reached_is_decided : ReachedIsDecided
reached_is_decided c a low = by (is_reached c a) refl
  where
    by : (t : Bool) → is_reached c a ≡ t → Reached c a ⊎ (Reached c a → ⊥)
    by true e = inl (reached_is c a e)
    by false e = inr (λ known. let is = is_reached_at c a low known in absurd cc)
