-- A conversation that is broken for good lies in no other: so it is in every world of a run, of any kind of process state.
use Rattle.std.proofs.Common.{◌≡◌, ℕ, zero, suc, ◌+◌, Bool, true, false, cond, List, [], ◌∷◌, length, slice_get, Some, None, refl, sym, ap, ◌∙◌, subst, true≢false}
use Rattle.rb_world.specs.Kind.{Kind, Membership}
use Rattle.rb_world.specs.World.{Talk, World, change_at}
use Rattle.rb_world.specs.Reject.{broken_talk, first_again, is_below, next_talk, parent_of, reset_below, reset_from}
use Rattle.rb_world.specs.Standing.{Each}
use Rattle.rb_world.specs.Turn.{opening_talks, turn}
use Rattle.rb_world.proofs.Keeping.Induction.{turn-keeps}
use Rattle.rb_world.proofs.Keeping.Invariant.{IsInvariant}
use Rattle.rb_world.proofs.ListFacts.{Each-change_at, none_some, some_same}

-- one conversation, by its number
abbrev pub IsOuterIfBroken : List Membership → ℕ → Talk → Type 0
IsOuterIfBroken groups d talk = talk.is_broken ≡ true → parent_of (slice_get groups d) ≡ None

-- what a return to the first alternate keeps of each conversation holds where some return to it
again_if : (P : Talk → Type 0) (below : Bool) (talk : Talk) → (P talk → P (first_again talk)) → P talk → P (cond below (first_again talk) talk)
again_if P true talk again h = again h
again_if P false talk again h = h

some_again : (P : ℕ → Talk → Type 0) (below : ℕ → Bool) (d : ℕ) (talks : List Talk) → ((n : ℕ) (talk : Talk) → P n talk → P n (first_again talk))
    → Each P talks → Each P (reset_from below d talks)
some_again P below d [] again each r talk e = each r talk e
some_again P below d (one ∷ talks) again each zero talk e =
    subst (P zero) (some_same e) (again_if (P zero) (below d) one (again zero one) (each zero one refl))
some_again P below d (one ∷ talks) again each (suc r) talk e =
    some_again (λ n. P (suc n)) below (d + 1) talks (λ n. again (suc n)) (λ n. each (suc n)) r talk e

-- none is broken at the opening
opening_whole : (d : ℕ) (talk : Talk) (groups : List Membership) → slice_get (opening_talks groups) d ≡ Some talk → talk.is_broken ≡ false
opening_whole d talk [] e = absurd (none_some e)
opening_whole zero talk (group ∷ groups) e = ap (λ (one : Talk). one.is_broken) (sym (some_same e))
opening_whole (suc d) talk (group ∷ groups) e = opening_whole d talk groups e

module _ (groups : List Membership) where
  abbrev pub AllOuterIfBroken : List Talk → Type 0
  AllOuterIfBroken talks = Each (IsOuterIfBroken groups) talks

  reset_outer : (c : ℕ) (talks : List Talk) → AllOuterIfBroken talks → AllOuterIfBroken (reset_below groups c talks)
  reset_outer c talks h = some_again (IsOuterIfBroken groups) (is_below groups (length groups) c) 0 talks (λ n talk one. one) h

  first_outer : (c : ℕ) (talks : List Talk) → AllOuterIfBroken talks → AllOuterIfBroken (change_at c first_again talks)
  first_outer c talks h = Each-change_at (IsOuterIfBroken groups) c first_again talks h (h c)

  next_outer : (c : ℕ) (talks : List Talk) → AllOuterIfBroken talks → AllOuterIfBroken (change_at c next_talk talks)
  next_outer c talks h = Each-change_at (IsOuterIfBroken groups) c next_talk talks h (h c)

  broken_outer : (c : ℕ) (talks : List Talk) → parent_of (slice_get groups c) ≡ None → AllOuterIfBroken talks
      → AllOuterIfBroken (change_at c broken_talk talks)
  broken_outer c talks alone h = Each-change_at (IsOuterIfBroken groups) c broken_talk talks h (λ talk e broken. alone)

  pub opening_outer : AllOuterIfBroken (opening_talks groups)
  opening_outer d talk e broken = absurd (true≢false (sym broken ∙ opening_whole d talk groups e))

module _ {S C M : Type 0} (k : Kind S C M) where
  outer_kept : IsInvariant k (λ _ _ w. AllOuterIfBroken k.groups w.talks) (λ _ _ _ _ w. AllOuterIfBroken k.groups w.talks)
      (λ _ _ w. AllOuterIfBroken k.groups w.talks)
  outer_kept = record {
    rests = λ t past w h. h;
    uses = λ t past p q w h r. h;
    overruns = λ t past p q w j h r e. h;
    waits = λ t past p q w h r e. h;
    goes = λ t past p q w a v s m h at e. h;
    opens = λ t past p q w f a h at. h;
    accepts = λ t past p q w a v s l h at e x y. h;
    stands = λ t past p q w a v s l c h at e x y z. h;
    leaves = λ t past p q w a v s l c h at e x y z. first_outer k.groups c w.talks h;
    falls = λ t past p q w n cause h r why. h;
    tries_next = λ t past p q w j l h r x y. h;
    is_spent = λ t past p q w j l h r x y. h;
    all_try_next = λ t past p q w j l c h r x y.
        next_outer k.groups c (reset_below k.groups c w.talks) (reset_outer k.groups c w.talks h);
    all_are_spent = λ t past p q w j l c d h r x y z.
        first_outer k.groups c (reset_below k.groups c w.talks) (reset_outer k.groups c w.talks h);
    breaks = λ t past p q w j l c h r x y z.
        broken_outer k.groups c (reset_below k.groups c w.talks) z (reset_outer k.groups c w.talks h);
    is_gone = λ t past p q w j h r e. h;
    releases = λ t past w one h e. h;
  }

  -- so a turn keeps it
  pub turn_outer : (t p : ℕ) (w : World S C M) → AllOuterIfBroken k.groups w.talks → AllOuterIfBroken k.groups (turn k t p w).0.talks
  turn_outer t p w h = turn-keeps outer_kept t [] p w h
