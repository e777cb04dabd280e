-- How many processes are known to rest; and once all are, no turn changes anything any more.
use Rattle.std.proofs.Common.{◌≡◌, ℕ, zero, suc, ◌+◌, ◌<◌, ◌≤◌, ◌⊎◌, inl, inr, Bool, true, false, cond, List, [], ◌∷◌, count_by, length, replicate, set, slice_get, Option, Some, None, refl, ap, sym, ◌∙◌, subst, arith}
use Rattle.std.specs.Prelude.{get_or, nat_eq}
use Rattle.std.proofs.lemmas.Bool.{eqb-true, lt-ltb, ltb-true}
use Rattle.std.proofs.lemmas.List.{length-replicate, length-set}
use Rattle.std.proofs.lemmas.List.Sums.{count_by-le-length, sum_by-cons}
use Rattle.std.proofs.lemmas.Option.{slice_get_cases, slice_get_past}
use Rattle.rb_base.specs.declared.event.TurnKind.{TurnKind}
use Rattle.rb_base.specs.declared.event.TurnKind.TheVariants.{Idle}
use Rattle.rb_world.specs.Kind.{Membership}
use Rattle.rb_world.specs.Turn.{moves, turn}
use Rattle.rb_world.specs.World.{Process}
use Rattle.rb_world.proofs.ListFacts.{none_some, some_same}
use Rattle.rb_code.specs.Instructions.Plain.{Code}
use Rattle.rb_code.specs.WordMachine.Turn.{Copy, Standing}
use Rattle.rb_code.specs.WordMachine.WordKind.{word_kind}
use Rattle.rb_code.specs.WordMachine.WordRun.{WordWorld}
use Rattle.rb_machine.specs.Resting.{AllRest, AreNoted, AreTallied, IsBare, RestsAs, changed_after, is_noted, kind_of, kind_noted, one_more}
use Rattle.rb_machine.specs.Telling.{AreFreed}
use Rattle.rb_machine.specs.declared.rests.Rest.{Rest}
use Rattle.rb_machine.proofs.Unmoved.Noted.{forgotten}
use Rattle.rb_machine.proofs.Unmoved.TurnsUnmoved.{rests_so}

-- a note counts, or is one more
counts_once : (b : Bool) → cond b 1 0 + cond b 0 1 ≡ 1
counts_once true = omega arith
counts_once false = omega arith

counted_first : (t : Rest → Bool) (one : Rest) (rests : List Rest) → count_by t (one ∷ rests) ≡ cond (t one) 1 0 + count_by t rests
counted_first t one rests = sum_by-cons (λ (x : Rest). cond (t x) 1 0) one rests

counted_yes : (t : Rest → Bool) (one : Rest) (rests : List Rest) → t one ≡ true → count_by t (one ∷ rests) ≡ 1 + count_by t rests
counted_yes t one rests counts = counted_first t one rests ∙ ap (λ b. cond b 1 0 + count_by t rests) counts

counted_no : (t : Rest → Bool) (one : Rest) (rests : List Rest) → t one ≡ false → count_by t (one ∷ rests) ≡ count_by t rests
counted_no t one rests counts = counted_first t one rests ∙ ap (λ b. cond b 1 0 + count_by t rests) counts ∙ omega arith

-- before the first turn none counts
none_counts : (n : ℕ) → 0 ≡ count_by (is_noted 0) (replicate n (record { since = 0; kind = Idle }))
none_counts zero = refl
none_counts (suc n) =
    none_counts n ∙ sym (counted_no (is_noted 0) (record { since = 0; kind = Idle }) (replicate n (record { since = 0; kind = Idle })) refl)

pub none_tallied : (n : ℕ) → AreTallied n (replicate n (record { since = 0; kind = Idle })) 0 0 0
none_tallied n = record {
  each = length-replicate n (record { since = 0; kind = Idle });
  last = omega arith;
  count = none_counts n;
}

-- nor does any where a later turn changed something
past_counts_not : (turn : ℕ) (rests : List Rest) → ((p : ℕ) (one : Rest) → slice_get rests p ≡ Some one → one.since ≤ turn)
    → 0 ≡ count_by (is_noted turn) rests
past_counts_not turn [] past = refl
past_counts_not turn (one ∷ rests) past =
    past_counts_not turn rests (λ p. past (suc p)) ∙ sym (counted_no (is_noted turn) one rests (not_later (is_noted turn one) refl))
  where
    not_later : (b : Bool) → is_noted turn one ≡ b → b ≡ false
    not_later true e =
        let early : one.since ≤ turn = past 0 one refl in
        let late : turn < one.since = ltb-true turn one.since e in
        absurd (omega (arith, early, late))
    not_later false e = refl

-- a new note counts one more, unless the one in its place did
set_counts : (changed : ℕ) (rests : List Rest) (p : ℕ) (one : Rest) → is_noted changed one ≡ true
    → count_by (is_noted changed) (set rests p one) ≡ count_by (is_noted changed) rests + one_more changed (slice_get rests p)
set_counts changed [] p one new = omega arith
set_counts changed (x ∷ rests) zero one new =
    counted_yes (is_noted changed) one rests new
    ∙ omega (arith, counts_once (is_noted changed x), counted_first (is_noted changed) x rests)
set_counts changed (x ∷ rests) (suc p) one new =
    omega (
      arith,
      set_counts changed rests p one new,
      counted_first (is_noted changed) x rests,
      counted_first (is_noted changed) x (set rests p one),
    )

-- so it is after a still turn
pub tallied_after : (n : ℕ) (rests : List Rest) (changed noted taken p : ℕ) (kind : TurnKind) → AreTallied n rests changed noted taken
    → AreTallied n (set rests p (record { since = taken + 1; kind = kind })) changed (noted + one_more changed (slice_get rests p)) (taken + 1)
tallied_after n rests changed noted taken p kind tallied = record {
  last = omega (arith, tallied.last);
  each = length-set rests p (record { since = taken + 1; kind = kind }) ∙ tallied.each;
  count = ap (λ m. m + one_more changed (slice_get rests p)) tallied.count
      ∙ sym (set_counts changed rests p (record { since = taken + 1; kind = kind })
      (lt-ltb changed (taken + 1) (omega (arith, tallied.last))));
}

-- where none counts none is known to rest
not_first : (b : Bool) (n : ℕ) → 0 ≡ cond b 1 0 + n → b ≡ false
not_first true n e = absurd (omega (arith, e))
not_first false n e = refl

nor_others : (b : Bool) (n : ℕ) → 0 ≡ cond b 1 0 + n → 0 ≡ n
nor_others true n e = absurd (omega (arith, e))
nor_others false n e = omega (arith, e)

none_known : (changed : ℕ) (rests : List Rest) → 0 ≡ count_by (is_noted changed) rests → (p : ℕ) → kind_of rests changed p ≡ None
none_known changed [] none p = refl
none_known changed (x ∷ rests) none zero =
    ap (λ b. cond b (Some x.kind) None)
    (not_first (is_noted changed x) (count_by (is_noted changed) rests) (none ∙ counted_first (is_noted changed) x rests))
none_known changed (x ∷ rests) none (suc p) =
    none_known changed rests
    (nor_others (is_noted changed x) (count_by (is_noted changed) rests) (none ∙ counted_first (is_noted changed) x rests)) p

-- So it is after a turn that changed something.
module _ (c : Code) (groups : List Membership) (w after : WordWorld) (n : ℕ) (rests : List Rest) (changed noted taken : ℕ)
    (are_noted : AreNoted c groups w rests changed taken) (tallied : AreTallied n rests changed noted taken) where
  pub record AreForgotten (last : ℕ) : Type 0 where
    pub notes : AreNoted c groups after rests last (taken + 1)
    pub tally : AreTallied n rests last 0 (taken + 1)

  forgotten_if : (none : Bool) → nat_eq noted 0 ≡ none → AreForgotten (cond none changed (taken + 1))
  forgotten_if true e =
      let none : 0 ≡ count_by (is_noted changed) rests = sym (eqb-true noted 0 e) ∙ tallied.count in
      record {
        notes = record {
          rest = λ p kind known. absurd (none_some (sym (none_known changed rests none p) ∙ known));
          past = λ p one here. omega (arith, are_noted.past p one here);
        };
        tally = record { each = tallied.each; last = omega (arith, tallied.last); count = none };
      }
  forgotten_if false e = record {
    notes = forgotten c groups rests changed taken w after are_noted;
    tally = record {
      each = tallied.each;
      last = omega arith;
      count = past_counts_not (taken + 1) rests (λ q one here. omega (arith, are_noted.past q one here));
    };
  }

  pub forgotten_after : AreForgotten (changed_after noted changed (taken + 1))
  forgotten_after = forgotten_if (nat_eq noted 0) refl

-- where all count each does
first_so : (b : Bool) (n m : ℕ) → cond b 1 0 + n ≡ suc m → n ≤ m → b ≡ true
first_so true n m e le = refl
first_so false n m e le = absurd (omega (arith, e, le))

others_so : (b : Bool) (n m : ℕ) → cond b 1 0 + n ≡ suc m → n ≤ m → n ≡ m
others_so true n m e le = omega (arith, e)
others_so false n m e le = absurd (omega (arith, e, le))

each_so : (t : Rest → Bool) (rests : List Rest) → count_by t rests ≡ length rests → (p : ℕ) (one : Rest) → slice_get rests p ≡ Some one
    → t one ≡ true
each_so t [] all p one here = absurd (none_some here)
each_so t (x ∷ rests) all zero one here =
    ap t (sym (some_same here))
    ∙ first_so (t x) (count_by t rests) (length rests) (sym (counted_first t x rests) ∙ all) (count_by-le-length t rests)
each_so t (x ∷ rests) all (suc p) one here =
    each_so t rests
    (others_so (t x) (count_by t rests) (length rests) (sym (counted_first t x rests) ∙ all) (count_by-le-length t rests)) p one here

-- Where so many are noted as there are processes, all rest; and who is none of them does.
module _ (c : Code) (groups : List Membership) (w : WordWorld) (rests : List Rest) (changed noted taken : ℕ)
    (are_noted : AreNoted c groups w rests changed taken) (tallied : AreTallied (length w.processes) rests changed noted taken)
    (free : AreFreed w.processes) (all : noted ≡ length rests) where
  abbrev Found : ℕ → Type 0
  Found p =
      ((one : Rest) × (p < length rests) × (slice_get rests p ≡ Some one) × (get_or rests p one ≡ one))
      ⊎ ((length rests ≤ p) × (slice_get rests p ≡ None))

  rests_at : (p : ℕ) → Found p → (kind : TurnKind) × RestsAs c groups w p kind
  rests_at p (inl (one, below, here, same)) =
      let known : kind_of rests changed p ≡ Some one.kind =
      ap (kind_noted changed) here
      ∙ ap (λ b. cond b (Some one.kind) None) (each_so (is_noted changed) rests (sym tallied.count ∙ all) p one here) in
      (one.kind, are_noted.rest p one.kind known)
  rests_at p (inr (beyond, none)) =
      let absent : slice_get w.processes p ≡ None = slice_get_past w.processes p (omega (arith, beyond, tallied.each)) in (
        Idle,
        rests_so c groups 0 p w Idle free (subst IsBare (sym absent) tt)
            (ap (λ (there : Option (Process Standing Copy)). (moves (word_kind c groups) 0 p w there).kind) absent) refl,
      )

  pub all_rest : AllRest c groups w
  all_rest p = rests_at p (slice_get_cases rests p).1
