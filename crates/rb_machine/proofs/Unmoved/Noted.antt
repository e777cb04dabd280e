-- What is noted of processes that rest is so after each turn.
use Rattle.std.proofs.Common.{◌≡◌, ℕ, zero, suc, ◌+◌, ◌<◌, ◌≤◌, Bool, true, false, cond, List, [], ◌∷◌, replicate, set, slice_get, Option, Some, None, refl, ap, sym, ◌∙◌, subst, arith}
use Rattle.std.proofs.lemmas.Bool.{ltb-true}
use Rattle.std.specs.Prelude.{nat_lt}
use Rattle.rb_base.specs.declared.event.TurnKind.{TurnKind}
use Rattle.rb_base.specs.declared.event.TurnKind.TheVariants.{Idle}
use Rattle.rb_world.specs.Kind.{Membership}
use Rattle.rb_world.specs.Turn.{Told, turn}
use Rattle.rb_world.proofs.ListFacts.{none_some, some_same}
use Rattle.rb_code.specs.Instructions.Plain.{Code}
use Rattle.rb_code.specs.WordMachine.WordKind.{word_kind}
use Rattle.rb_code.specs.WordMachine.WordRun.{WordWorld}
use Rattle.rb_machine.specs.Resting.{AreNoted, IsBare, RestsAs, is_still, kind_noted}
use Rattle.rb_machine.specs.Telling.{AreFreed}
use Rattle.rb_machine.specs.declared.rests.Rest.{Rest}
use Rattle.rb_machine.proofs.Unmoved.TurnsUnmoved.{rests_so}

-- what holds of each note and of a new one holds of each once the new one is written
set_at : (P : ℕ → Option Rest → Type 0) (rests : List Rest) (p q : ℕ) (one : Rest) → P q (slice_get rests q) → P p (Some one)
    → P q (slice_get (set rests p one) q)
set_at P [] p q one old new = old
set_at P (x ∷ rests) zero zero one old new = new
set_at P (x ∷ rests) zero (suc q) one old new = old
set_at P (x ∷ rests) (suc p) zero one old new = old
set_at P (x ∷ rests) (suc p) (suc q) one old new = set_at (λ n. P (suc n)) rests p q one old new

same_kind : (b : Bool) (one other : TurnKind) → cond b (Some one) None ≡ Some other → one ≡ other
same_kind true one other e = some_same e
same_kind false one other e = absurd (none_some e)

-- where the last change was no earlier than a note, nothing is known of it
later_unknown : (b : Bool) (one other : TurnKind) → (b ≡ true → ⊥) → cond b (Some one) None ≡ Some other → ⊥
later_unknown true one other not e = not refl
later_unknown false one other not e = none_some e

unknown : (changed : ℕ) (note : Option Rest) (kind : TurnKind) → ((one : Rest) → note ≡ Some one → one.since ≤ changed)
    → kind_noted changed note ≡ Some kind → ⊥
unknown changed None kind past e = none_some e
unknown changed (Some one) kind past e =
    later_unknown (nat_lt changed one.since) one.kind kind
    (λ less. let early : one.since ≤ changed = past one refl in
    let late : changed < one.since = ltb-true changed one.since less in
    absurd (omega (arith, early, late))) e

-- before the first turn nothing is noted
at_first : (n p : ℕ) (one : Rest) → slice_get (replicate n (record { since = 0; kind = Idle })) p ≡ Some one → one.since ≤ 0
at_first zero p one e = absurd (none_some e)
at_first (suc n) zero one e = subst (λ (note : Rest). note.since ≤ 0) (some_same e) (omega arith)
at_first (suc n) (suc p) one e = at_first n p one e

pub none_noted : (c : Code) (groups : List Membership) (w : WordWorld) (n : ℕ)
    → AreNoted c groups w (replicate n (record { since = 0; kind = Idle })) 0 0
none_noted c groups w n = record {
  rest = λ p kind e. absurd (unknown 0 (slice_get (replicate n (record { since = 0; kind = Idle })) p) kind (at_first n p) e);
  past = at_first n;
}

module _ (c : Code) (groups : List Membership) (rests : List Rest) (changed taken : ℕ) where
  -- a turn that changed something
  pub forgotten : (w after : WordWorld) → AreNoted c groups w rests changed taken → AreNoted c groups after rests (taken + 1) (taken + 1)
  forgotten w after noted =
      let past : (p : ℕ) (one : Rest) → slice_get rests p ≡ Some one → one.since ≤ taken + 1 =
      λ p one e. omega (arith, noted.past p one e) in
      record { rest = λ p kind e. absurd (unknown (taken + 1) (slice_get rests p) kind (past p) e); past = past }

  -- a turn of a process that rests since then
  added : (w : WordWorld) (p : ℕ) (kind : TurnKind) → AreNoted c groups w rests changed taken → RestsAs c groups w p kind
      → AreNoted c groups w (set rests p (record { since = taken + 1; kind = kind })) changed (taken + 1)
  added w p kind noted rests_as = record {
    rest = λ q one.
        set_at (λ n note. kind_noted changed note ≡ Some one → RestsAs c groups w n one) rests p q
        (record { since = taken + 1; kind = kind }) (noted.rest q one)
        (λ e. subst (RestsAs c groups w p) (same_kind (nat_lt changed (taken + 1)) kind one e) rests_as);
    past = λ q one.
        set_at (λ n note. note ≡ Some one → one.since ≤ taken + 1) rests p q (record { since = taken + 1; kind = kind })
        (λ e. omega (arith, noted.past q one e))
        (λ e. subst (λ (note : Rest). note.since ≤ taken + 1) (some_same e) (omega arith));
  }

  -- a turn of a process that was known to rest
  pub rested : (w : WordWorld) → AreNoted c groups w rests changed taken → AreNoted c groups w rests changed (taken + 1)
  rested w noted = record { rest = noted.rest; past = λ p one e. omega (arith, noted.past p one e) }

  -- a still turn of a process with no level
  pub noted_after : (w after : WordWorld) (n p : ℕ) (told : Told) (kind : TurnKind)
      → AreNoted c groups w rests changed taken → AreFreed w.processes → (after, told) ≡ turn (word_kind c groups) n p w → told.kind ≡ kind
      → IsBare (slice_get w.processes p) → is_still kind ≡ true
      → AreNoted c groups after (set rests p (record { since = taken + 1; kind = kind })) changed (taken + 1)
  noted_after w after n p told kind noted free is kind_is bare still =
      let one : (turn (word_kind c groups) n p w).1.kind ≡ kind =
      ap (λ (pair : WordWorld × Told). pair.1.kind) (sym is) ∙ kind_is in
      let rests_as : RestsAs c groups w p kind = rests_so c groups n p w kind free bare one still in
      let same : w ≡ after = ap (λ (pair : WordWorld × Told). pair.0) (sym (is ∙ rests_as n)) in
      subst (λ (v : WordWorld). AreNoted c groups v (set rests p (record { since = taken + 1; kind = kind })) changed (taken + 1)) same
      (added w p kind noted rests_as)
