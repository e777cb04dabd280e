-- The main bodies begin.
use Rattle.std.proofs.Common.{◌≡◌, ◌⊎◌, inl, inr, ℕ, zero, suc, ◌+◌, ◌<◌, ◌≤◌, true, false, List, [], ◌∷◌, length, replicate, slice_get, Option, Some, None, option_map, refl, sym, ap, ◌∙◌, subst, arith}
use Rattle.std.proofs.lemmas.Option.{slice_get_within}
use Rattle.rb_code.specs.Instructions.Plain.{Code, Part}
use Rattle.rb_world.specs.Kind.{Membership}
use Rattle.rb_code.specs.SoundCode.Sound.{Entry, Has, Table}
use Rattle.rb_code.specs.SoundCode.Reached.{begins as first_reached}
use Rattle.rb_flow.specs.Flow.{begins, goes}
use Rattle.rb_flow.specs.Held.{entry_of}
use Rattle.rb_search.specs.Search.{Gains, HasEntry, HasNoTable, IsBeginning, IsSearching, Pending}
use Rattle.rb_search.specs.Found.{IsWell, NoneTakes, found, held_in, pending, pending_in}
use Rattle.rb_flow.specs.declared.lists.Lists.{Lists}
use Rattle.rb_entries.specs.declared.cell.Cell.{Cell}
use Rattle.rb_search.proofs.Searching.{has_on, table_starts}
use Rattle.rb_search.proofs.Finding.{tables_within}

module _ (c : Code) (groups : List Membership) where
  pub one_more : (p : ℕ) (part : Part) (f g : Table) (before after : Pending) → slice_get c.processes p ≡ Some part
      → IsBeginning c groups p f before → Gains (record { at = part.start; entry = begins p None 0 } ∷ []) f before g after
      → IsBeginning c groups (p + 1) g after
  one_more p part f g before after is s gains = record {
    waits = λ a e at. waits a e at (gains.others a);
    starts = λ q other below at. starts q other below at;
    strongest = λ t has. gains.least t (table_starts c groups t has p part is, tt) (s.strongest t has);
    around = gains.around s.around;
    reached = λ a h. elim (gains.only a h) [
      | inl k ↦ s.reached a k
      | inr k ↦ elim k [ inl e ↦ first_reached p part is e | inr wrong ↦ absurd wrong ]
    ];
  }
    where
      waits : (a : ℕ) (e : Entry) → g a ≡ Some e → (after a ≡ true) ⊎ ((g a ≡ f a) × (after a ≡ before a)) → after a ≡ true
      waits a e at (inl on) = on
      waits a e at (inr same) = same.1 ∙ s.waits a e (sym same.0 ∙ at)

      which : (q : ℕ) → q < p + 1 → (q < p) ⊎ (q ≡ p)
      which q h = grind arith

      by : (q : ℕ) (other : Part) → (q < p) ⊎ (q ≡ p) → slice_get c.processes q ≡ Some other → Has (g other.start) (begins q None 0)
      by q other (inl h) at = has_on f g other.start (begins q None 0) gains.keeps (s.starts q other h at)
      by q other (inr e) at =
          let same : other ≡ part = (let k = sym at ∙ ap (slice_get c.processes) e ∙ is in cc)
          in subst (λ n. Has (g other.start) (begins n None 0)) (sym e)
          (subst (λ (o : Part). Has (g o.start) (begins p None 0)) (sym same) gains.takes.0)

      starts : (q : ℕ) (other : Part) → q < p + 1 → slice_get c.processes q ≡ Some other → Has (g other.start) (begins q None 0)
      starts q other h at = by q other (which q h) at

  pub none_begins : (p n : ℕ) (part : Part) (f : Table) (before : Pending) → slice_get c.processes p ≡ Some part → n ≡ length c.instrs
      → IsBeginning c groups p f before → NoneTakes n f (goes part.start (begins p None 0)) → HasNoTable c groups
  none_begins p n part f before is size s none t has =
      none t (subst (λ k. (a : ℕ) → k ≤ a → t a ≡ None) (sym size) (tables_within c groups t has)) (s.strongest t has)
      (table_starts c groups t has p part is, tt)

  pub begun : (n : ℕ) (f : Table) (p : Pending) → length c.processes ≤ n → IsBeginning c groups n f p → IsSearching c groups f p
  begun n f p all s = record {
    settled = λ a e at off. let on = s.waits a e at in let wrong : ⊥ = cc in absurd wrong;
    starts = λ q part at. s.starts q part (let h = slice_get_within c.processes q part at in omega arith) at;
    strongest = s.strongest;
    around = s.around;
    reached = s.reached;
  }

-- nothing was found where all cells are empty
abbrev pub nothing : Cell
nothing = record { entry = None; pending = false }

empty_held : (n a : ℕ) → held_in (slice_get (replicate n nothing) a) ≡ None
empty_held zero a = refl
empty_held (suc n) zero = refl
empty_held (suc n) (suc a) = empty_held n a

empty_pending : (n a : ℕ) → pending_in (slice_get (replicate n nothing) a) ≡ false
empty_pending zero a = refl
empty_pending (suc n) zero = refl
empty_pending (suc n) (suc a) = empty_pending n a

pub empty_well : (lists : Lists) (n : ℕ) → IsWell lists (replicate n nothing) []
empty_well lists n = record {
  held = λ a h is. let e = empty_held n a in let wrong : ⊥ = cc in absurd wrong;
  listed = λ a is. let e = empty_pending n a in let wrong : ⊥ = cc in absurd wrong;
}

pub empty_beginning : (c : Code) (groups : List Membership) (lists : Lists) (n : ℕ)
    → IsBeginning c groups 0 (found lists (replicate n nothing)) (pending (replicate n nothing))
empty_beginning c groups lists n = record {
  waits = λ a e is. let wrong : ⊥ = none a e is in absurd wrong;
  starts = λ p part h is. absurd (omega (arith, h));
  strongest = λ t has a e is. let wrong : ⊥ = none a e is in absurd wrong;
  around = λ a e is. let wrong : ⊥ = none a e is in absurd wrong;
  reached = λ a h. let wrong : ⊥ = subst HasEntry (ap (option_map (entry_of lists)) (empty_held n a)) h in absurd wrong;
}
  where
    none : (a : ℕ) (e : Entry) → found lists (replicate n nothing) a ≡ Some e → ⊥
    none a e is = let k = sym (ap (option_map (entry_of lists)) (empty_held n a)) ∙ is in cc

pub start_is : (o : Option Part) (start : ℕ) → Some start ≡ option_map (λ (one : Part). one.start) o
    → (one : Part) × (o ≡ Some one) × (one.start ≡ start)
start_is None start is = let wrong : ⊥ = cc in absurd wrong
start_is (Some one) start is = (one, refl, cc)
