-- Whether loops stay open: the pass goes on, or finds one that is not.
use Rattle.std.proofs.Common.{◌≡◌, ◌⊎◌, inl, inr, ℕ, ◌+◌, ◌<◌, ◌≤◌, nat_eq, nat_lt, cond, Bool, true, false, List, [], ◌∷◌, length, slice_get, Option, Some, None, refl, sym, ap, ◌∙◌, subst, arith, eqb-true}
use Rattle.rb_world.specs.Kind.{Membership}
use Rattle.rb_code.specs.Instructions.Plain.{Code}
use Rattle.rb_code.specs.SoundCode.Sound.{Entry, FineAt, HasTable, IsSet, Loop, Table, end_of_loop}
use Rattle.rb_code.specs.SoundCode.WellFormed.{LoopsStayOpen}
use Rattle.rb_code.specs.SoundCode.Sound.{IsOpen}
use Rattle.rb_code.specs.declared.instr.Instr.{Instr}
use Rattle.rb_code.specs.declared.instr.Instr.TheVariants.{Range}
use Rattle.rb_entries.specs.Join.{same_loop}
use Rattle.rb_search.specs.Watched.{IsLoopOf, IsWatching, StaysOpen, begun, is_kept, is_open, watched_by, watched_on}
use Rattle.rb_flow.proofs.Tests.{Tells, either_tells, lt_tells, never}
use Rattle.rb_search.proofs.Joins.{loop_tells}
use Rattle.rb_search.proofs.Finding.{tables_within}

pub open_tells : (loop : Loop) (loops : List Loop) → Tells (is_open loop loops) (IsOpen loop loops)
open_tells loop [] = never (λ h. h)
open_tells loop (inner ∷ around) =
    either_tells (same_loop inner loop) (is_open loop around) (loop_tells inner loop) (open_tells loop around)

open_is_set : (loop : Loop) (loops : List Loop) → IsOpen loop loops → IsSet loop.counter loops
open_is_set loop [] h = h
open_is_set loop (inner ∷ around) (inl e) = inl (ap (λ l. l.counter) e)
open_is_set loop (inner ∷ around) (inr h) = inr (open_is_set loop around h)

abbrev this : ℕ → ℕ → ℕ → Loop
this k a last = record { counter = k; first = a + 1; last = last }

-- a loop that is watched and not past is open where the test says so
kept_open : (loop : Loop) (n : ℕ) (loops : List Loop) → is_kept (Some loop) n loops ≡ true → n ≤ loop.last → IsOpen loop loops
kept_open loop n loops test h =
    by ((either_tells (nat_lt loop.last n) (is_open loop loops) (lt_tells loop.last n) (open_tells loop loops)).1 test)
  where
    by : (loop.last < n) ⊎ IsOpen loop loops → IsOpen loop loops
    by (inl past) = absurd (omega arith)
    by (inr opened) = opened

module _ (c : Code) (t : Table) (k : ℕ) where
  pub starts : IsWatching c t k 0 None
  starts = record {
    kept = λ a b last x e g range at ends low high below there. absurd (omega (arith, below));
    watches = λ a b last e range at ends below h. absurd (omega (arith, below));
    is = λ loop e. let wrong : ⊥ = cc in absurd wrong;
  }

  later : (n : ℕ) (loop : Loop) → IsLoopOf c t k n loop → IsLoopOf c t k (n + 1) loop
  later n loop l = record {
    a = l.a;
    b = l.b;
    e = l.e;
    range = l.range;
    entry = l.entry;
    ends = l.ends;
    same = l.same;
    before = let h = l.before in omega arith;
  }

  which : (x n : ℕ) → x < n + 1 → (x < n) ⊎ (x ≡ n)
  which x n h = grind arith

  -- an address without an entry
  pub passes_by : (n : ℕ) (w : Option Loop) → t n ≡ None → IsWatching c t k n w → IsWatching c t k (n + 1) w
  passes_by n w none s = record {
    kept = λ a b last x e g range at ends low high below there. by a b last x e g range at ends low high there (which x n below);
    watches = λ a b last e range at ends below h. on a b last e range at ends h (which a n below);
    is = λ loop e. later n loop (s.is loop e);
  }
    where
      by : (a b last x : ℕ) (e g : Entry) → slice_get c.instrs a ≡ Some (Range k b) → t a ≡ Some e → end_of_loop c k (a + 1) ≡ Some last
          → a < x → x ≤ last → t x ≡ Some g → (x < n) ⊎ (x ≡ n) → IsOpen (this k a last) g.loops
      by a b last x e g range at ends low high there (inl h) = s.kept a b last x e g range at ends low high h there
      by a b last x e g range at ends low high there (inr h) = let m = sym (ap t h) ∙ there in let wrong : ⊥ = cc in absurd wrong

      on : (a b last : ℕ) (e : Entry) → slice_get c.instrs a ≡ Some (Range k b) → t a ≡ Some e → end_of_loop c k (a + 1) ≡ Some last
          → n + 1 ≤ last → (a < n) ⊎ (a ≡ n) → w ≡ Some (this k a last)
      on a b last e range at ends h (inl below) = s.watches a b last e range at ends below (omega arith)
      on a b last e range at ends h (inr is) = let m = sym (ap t is) ∙ at in let wrong : ⊥ = cc in absurd wrong

  -- an address where the watched loop is not open
  pub not_kept : (n : ℕ) (w : Option Loop) (g : Entry) → t n ≡ Some g → is_kept w n g.loops ≡ false → IsWatching c t k n w → StaysOpen c t k → ⊥
  not_kept n None g there test s stays = let wrong : ⊥ = cc in wrong
  not_kept n (Some loop) g there test s stays =
      let l = s.is loop refl
      in let tells = either_tells (nat_lt loop.last n) (is_open loop g.loops) (lt_tells loop.last n) (open_tells loop g.loops)
      in let near : n ≤ loop.last = within (λ past. let e = tells.0 (inl past) in cc)
      in let opened : IsOpen (this k l.a loop.last) g.loops
      = stays l.a l.b loop.last n l.e g l.range l.entry l.ends l.before near there
      in let e = tells.0 (inr (subst (λ x. IsOpen x g.loops) (sym l.same) opened))
      in cc
    where
      within : (loop.last < n → ⊥) → n ≤ loop.last
      within h = omega arith

  module _ (groups : List Membership) (has : HasTable c groups t) where
    -- a `range` that keeps its rule finds its counter not set
    fresh_counter : (n b : ℕ) (g : Entry) → t n ≡ Some g → slice_get c.instrs n ≡ Some (Range k b) → IsSet k g.loops → ⊥
    fresh_counter n b g there range set =
        let fine = subst (λ (o : Option Instr). FineAt c groups t o n g) range (has.each n g there).fine in fine.2 set

    module _ (n : ℕ) (w : Option Loop) (g : Entry) (there : t n ≡ Some g) (test : is_kept w n g.loops ≡ true) (s : IsWatching c t k n w) where
      here_open : (a b last : ℕ) (e : Entry) → slice_get c.instrs a ≡ Some (Range k b) → t a ≡ Some e → end_of_loop c k (a + 1) ≡ Some last
          → a < n → n ≤ last → IsOpen (this k a last) g.loops
      here_open a b last e range at ends below h =
          kept_open (this k a last) n g.loops (ap (λ o. is_kept o n g.loops) (sym (s.watches a b last e range at ends below h)) ∙ test) h

      kept_more : (a b last x : ℕ) (e f : Entry) → slice_get c.instrs a ≡ Some (Range k b) → t a ≡ Some e → end_of_loop c k (a + 1) ≡ Some last
          → a < x → x ≤ last → t x ≡ Some f → (x < n) ⊎ (x ≡ n) → IsOpen (this k a last) f.loops
      kept_more a b last x e f range at ends low high is (inl h) = s.kept a b last x e f range at ends low high h is
      kept_more a b last x e f range at ends low high is (inr h) =
          let same : g ≡ f = (let m = sym there ∙ ap t (sym h) ∙ is in cc)
          in subst (λ (y : Entry). IsOpen (this k a last) y.loops) same (here_open a b last e range at ends (omega arith) (omega arith))

      -- the instruction begins no loop over this counter
      others : ((b : ℕ) → slice_get c.instrs n ≡ Some (Range k b) → (last : ℕ) → end_of_loop c k (n + 1) ≡ Some last → ⊥) → IsWatching c t k (n + 1) w
      others ends_none = record {
        kept = λ a b last x e f range at ends low high below is. kept_more a b last x e f range at ends low high is (which x n below);
        watches = λ a b last e range at ends below h. on a b last e range at ends h (which a n below);
        is = λ loop e. later n loop (s.is loop e);
      }
        where
          on : (a b last : ℕ) (e : Entry) → slice_get c.instrs a ≡ Some (Range k b) → t a ≡ Some e → end_of_loop c k (a + 1) ≡ Some last
              → n + 1 ≤ last → (a < n) ⊎ (a ≡ n) → w ≡ Some (this k a last)
          on a b last e range at ends h (inl below) = s.watches a b last e range at ends below (omega arith)
          on a b last e range at ends h (inr is) =
              absurd (ends_none b (ap (slice_get c.instrs) (sym is) ∙ range) last (ap (λ m. end_of_loop c k (m + 1)) (sym is) ∙ ends))

      -- it begins one
      begins : (b last : ℕ) → slice_get c.instrs n ≡ Some (Range k b) → end_of_loop c k (n + 1) ≡ Some last
          → IsWatching c t k (n + 1) (Some (this k n last))
      begins b last range ends = record {
        kept = λ a d end x e f r at ends low high below is. kept_more a d end x e f r at ends low high is (which x n below);
        watches = λ a d end e r at ends below h. on a d end e r at ends h (which a n below);
        is = λ loop e. let same : loop ≡ this k n last = (cc) in of loop same;
      }
        where
          on : (a d end : ℕ) (e : Entry) → slice_get c.instrs a ≡ Some (Range k d) → t a ≡ Some e → end_of_loop c k (a + 1) ≡ Some end
              → n + 1 ≤ end → (a < n) ⊎ (a ≡ n) → Some (this k n last) ≡ Some (this k a end)
          on a d end e r at ends2 h (inl below) =
              absurd (fresh_counter n b g there range (open_is_set (this k a end) g.loops (here_open a d end e r at ends2 below (omega arith))))
          on a d end e r at ends2 h (inr is) =
              let same : last ≡ end = (let m = sym ends ∙ ap (λ y. end_of_loop c k (y + 1)) (sym is) ∙ ends2 in cc)
              in λ i. Some (this k (sym is i) (same i))

          of : (loop : Loop) → loop ≡ this k n last → IsLoopOf c t k (n + 1) loop
          of loop same = record {
            a = n;
            b = b;
            e = g;
            range = range;
            entry = there;
            ends = ends ∙ ap (λ (l : Loop). Some l.last) (sym same);
            same = same ∙ ap (λ (l : Loop). this k n l.last) (sym same);
            before = omega arith;
          }

      pub watches_on : IsWatching c t k (n + 1) (watched_on c k n w)
      watches_on = by (slice_get c.instrs n) refl
        where
          last_by : (b : ℕ) → slice_get c.instrs n ≡ Some (Range k b) → (o : Option ℕ) → end_of_loop c k (n + 1) ≡ o
              → IsWatching c t k (n + 1) (begun k n o w)
          last_by b range None e = others (λ d r last ends. let wrong : ⊥ = cc in wrong)
          last_by b range (Some last) e = begins b last range e

          ranges : (j b : ℕ) → slice_get c.instrs n ≡ Some (Range j b) → (test : Bool) → nat_eq j k ≡ test
              → IsWatching c t k (n + 1) (cond test (begun k n (end_of_loop c k (n + 1)) w) w)
          ranges j b range true e =
              let same = eqb-true j k e
              in last_by b (range ∙ ap (λ y. Some (Range y b)) same) (end_of_loop c k (n + 1)) refl
          ranges j b range false e = others (λ d r last ends. let same : j ≡ k = (let m = sym range ∙ r in cc) in differ same)
            where
              differ : j ≡ k → ⊥
              differ same = let m = sym e ∙ ap (λ y. nat_eq y k) same in let z : nat_eq k k ≡ true = (grind arith) in cc

          by : (o : Option Instr) → slice_get c.instrs n ≡ o → IsWatching c t k (n + 1) (watched_by c k n o w)
          by None e = others (λ d r last ends. let wrong : ⊥ = (let m = sym e ∙ r in cc) in wrong)
          by (Some (Range j b)) e = ranges j b e (nat_eq j k) refl
          by (Some other) e = others (λ d r last ends. let wrong : ⊥ = (let m = sym e ∙ r in cc) in wrong)

    -- all addresses were looked at
    pub stays : (n : ℕ) (w : Option Loop) → length c.instrs ≤ n → IsWatching c t k n w → StaysOpen c t k
    stays n w all s a b last x e g range at ends low high there = by (which_side x)
      where
        which_side : (y : ℕ) → (y < n) ⊎ (n ≤ y)
        which_side y = grind arith

        by : (x < n) ⊎ (n ≤ x) → IsOpen (this k a last) g.loops
        by (inl h) = s.kept a b last x e g range at ends low high h there
        by (inr h) = let m = sym (tables_within c groups t has x (omega arith)) ∙ there in let wrong : ⊥ = cc in absurd wrong

-- the loops over both counters
pub both_stay : (c : Code) (groups : List Membership) (t : Table) → HasTable c groups t → StaysOpen c t 0 → StaysOpen c t 1 → LoopsStayOpen c t
both_stay c groups t has zero_stays one_stays a k b last x e g range at ends low high there = by (few k below)
  where
    below : k < 2
    below = (subst (λ (o : Option Instr). FineAt c groups t o a e) range (has.each a e at).fine).1

    few : (j : ℕ) → j < 2 → (j ≡ 0) ⊎ (j ≡ 1)
    few j h = grind arith

    by : (k ≡ 0) ⊎ (k ≡ 1) → IsOpen (this k a last) g.loops
    by (inl is) =
        subst (λ j. IsOpen (this j a last) g.loops) (sym is)
        (zero_stays a b last x e g (range ∙ ap (λ j. Some (Range j b)) is) at (ap (λ j. end_of_loop c j (a + 1)) (sym is) ∙ ends) low high there)
    by (inr is) =
        subst (λ j. IsOpen (this j a last) g.loops) (sym is)
        (one_stays a b last x e g (range ∙ ap (λ j. Some (Range j b)) is) at (ap (λ j. end_of_loop c j (a + 1)) (sym is) ∙ ends) low high there)

pub of_counter : (c : Code) (t : Table) (k : ℕ) → LoopsStayOpen c t → StaysOpen c t k
of_counter c t k stay a b last x e g range at ends low high there = stay a k b last x e g range at ends low high there
