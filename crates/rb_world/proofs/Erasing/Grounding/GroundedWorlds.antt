-- What each change does to all processes and conversations of a grounded world.
use Rattle.std.proofs.Common.{◌≡◌, ◌+◌, ℕ, zero, suc, Bool, true, false, cond, List, [], ◌∷◌, map, position, slice_get, Option, Some, None, refl, sym, ap, ◌∙◌, subst}
use Rattle.rb_base.specs.declared.event.Cause.{Cause}
use Rattle.rb_base.specs.declared.event.Cause.TheVariants.{Inner}
use Rattle.rb_world.specs.World.{Level, Process, Talk, World, change_at, is_inside, is_of}
use Rattle.rb_world.specs.Reject.{at_place, back_to, broken_talk, fallen, fallen_inside, first_again, next_talk, parent_of, put_back, raised, reset_below, reset_from, where_inside}
use Rattle.rb_world.specs.Turn.{opening_talks, one_used}
use Rattle.rb_world.specs.Standing.{Each}
use Rattle.rb_world.specs.Nested.{HasOutside, IsLevelOf}
use Rattle.rb_world.proofs.TurnFacts.{RunsAt, MustFall, NoLevelLeft, Barred}
use Rattle.rb_world.proofs.Keeping.EachProcess.{KeepsEach}
use Rattle.rb_world.proofs.ListFacts.{Each-change_at, Each-map, none_some, some_same}
use Rattle.rb_world.proofs.Erasing.ErasableKinds.{Nothing, Parts, whole, IsErasable}
use Rattle.rb_world.proofs.Erasing.Showing.ErasureInvariant.{IsGrounded, IsQuiet, BreaksOutside, IsSpentOut, NoLevel, OneSpent, GroundedWithin}
use Rattle.rb_world.proofs.LevelFacts.{level_at_place, no_place, some_none, take_first, take_some}
use Rattle.rb_world.proofs.Erasing.Grounding.GroundedFacts.{raised-grounded, back-grounded, falls-grounded}

-- what held of each before a change, and what holds of each after it
pub Each-becomes : {A : Type 0} (P Q : ℕ → A → Type 0) (f : A → A) (xs : List A) → Each P xs
    → ((r : ℕ) (x : A) → slice_get xs r ≡ Some x → P r x → Q r (f x)) → Each Q (map f xs)
Each-becomes P Q f [] each new r y e = absurd (none_some e)
Each-becomes P Q f (x ∷ xs) each new zero y e = subst (Q zero) (some_same e) (new zero x refl (each zero x refl))
Each-becomes P Q f (x ∷ xs) each new (suc r) y e =
    Each-becomes (λ n. P (suc n)) (λ n. Q (suc n)) f xs (λ n. each (suc n)) (λ n. new (suc n)) r y e

-- Conversations that break lie in no other, whatever else changes.
module _ {S E P : Type 0} (x : Parts S E P) where
  abbrev Breaks : ℕ → Talk → Type 0
  Breaks c talk = talk.is_broken ≡ true → parent_of (slice_get x.groups c) ≡ None

  reset_if : (P : Talk → Type 0) (below : Bool) (talk : Talk) → (P talk → P (first_again talk)) → P talk → P (cond below (first_again talk) talk)
  reset_if P true talk first h = first h
  reset_if P false talk first h = h

  reset_each : (P : ℕ → Talk → Type 0) (below : ℕ → Bool) (d : ℕ) (talks : List Talk) → ((n : ℕ) (talk : Talk) → P n talk → P n (first_again talk))
      → Each P talks → Each P (reset_from below d talks)
  reset_each P below d [] first each r talk e = each r talk e
  reset_each P below d (talk ∷ talks) first each zero other e =
      subst (P zero) (some_same e) (reset_if (P zero) (below d) talk (first zero talk) (each zero talk refl))
  reset_each P below d (talk ∷ talks) first each (suc r) other e =
      reset_each (λ n. P (suc n)) below (d + 1) talks (λ n. first (suc n)) (λ n. each (suc n)) r other e

  -- so it is where conversations below another, or one, begin again, go on, or break
  pub reset-breaks : (c : ℕ) (talks : List Talk) → BreaksOutside x talks → BreaksOutside x (reset_below x.groups c talks)
  reset-breaks c talks h = reset_each Breaks _ 0 talks (λ n talk one. one) h

  pub first-breaks : (c : ℕ) (talks : List Talk) → BreaksOutside x talks → BreaksOutside x (change_at c first_again talks)
  first-breaks c talks h = Each-change_at Breaks c first_again talks h (h c)

  pub next-breaks : (c : ℕ) (talks : List Talk) → BreaksOutside x talks → BreaksOutside x (change_at c next_talk talks)
  next-breaks c talks h = Each-change_at Breaks c next_talk talks h (h c)

  pub broken-breaks : (c : ℕ) (talks : List Talk) → parent_of (slice_get x.groups c) ≡ None → BreaksOutside x talks
      → BreaksOutside x (change_at c broken_talk talks)
  broken-breaks c talks alone h = Each-change_at Breaks c broken_talk talks h (λ talk e broken. alone)

  -- none is broken at the opening
  pub opening-breaks : (c : ℕ) (talk : Talk) (groups : List _) → slice_get (opening_talks groups) c ≡ Some talk → talk.is_broken ≡ false
  opening-breaks c talk [] e = absurd (none_some e)
  opening-breaks zero talk (g ∷ groups) e = ap (λ (t : Talk). t.is_broken) (sym (some_same e))
  opening-breaks (suc c) talk (g ∷ groups) e = opening-breaks c talk groups e

  -- a level that is put back leaves a level
  back_at-quiet : (r j : ℕ) (q : Process S S) (level : Option (Level S)) → IsQuiet x r q → slice_get q.levels j ≡ level
      → IsQuiet x r (back_to (whole x) j q level)
  back_at-quiet r j q None quiet e = quiet
  back_at-quiet r j q (Some level) quiet e = λ none. absurd (take_some j q.levels level e none)

  pub back-quiet : (r j : ℕ) (q : Process S S) → IsQuiet x r q → IsQuiet x r (put_back (whole x) j q)
  back-quiet r j q quiet = back_at-quiet r j q (slice_get q.levels j) quiet refl

  pub place-quiet : (r : ℕ) (place : Option ℕ) (q : Process S S) → IsQuiet x r q → IsQuiet x r (at_place (put_back (whole x)) place q)
  place-quiet r None q quiet = quiet
  place-quiet r (Some j) q quiet = back-quiet r j q quiet

  -- who has no level after a turn was counted had none
  pub map_none : (levels : List (Level S)) → map one_used levels ≡ [] → levels ≡ []
  map_none [] e = refl
  map_none (l ∷ levels) e = absurd (some_none (ap (λ (ls : List (Level S)). slice_get ls 0) e))

  -- the outermost level was put back
  pub spent_one : (q : Process S S) (level : Level S) → slice_get q.levels 0 ≡ Some level → IsSpentOut (put_back (whole x) 0 q)
  spent_one q level e =
      subst (λ (o : Option (Level S)). IsSpentOut (back_to (whole x) 0 q o)) (sym e) (OneSpent level (take_first q.levels level e) refl)

module _ {S E P : Type 0} {x : Parts S E P} {Known : ℕ → Process S S → Type 0} (keeps : KeepsEach (whole x) Known) (laws : IsErasable x Known) where
  abbrev pub EachGrounded : List (Process S S) → Type 0
  EachGrounded qs = Each (IsGrounded x Known) qs

  -- one process gets a new state
  pub set-grounded : (p : ℕ) (q : Process S S) (qs : List (Process S S)) → EachGrounded qs → IsGrounded x Known p q
      → EachGrounded (change_at p (λ _. q) qs)
  set-grounded p q qs each new = Each-change_at (IsGrounded x Known) p (λ _. q) qs each (λ _ _. new)

  place-grounded : (r : ℕ) (place : Option ℕ) (q : Process S S) → IsGrounded x Known r q
      → IsGrounded x Known r (at_place (put_back (whole x)) place q)
  place-grounded r None q h = h
  place-grounded r (Some j) q h = back-grounded keeps laws r j q h

  -- all that are inside a conversation are put back, or raised
  pub all_back-grounded : (c : ℕ) (qs : List (Process S S)) → EachGrounded qs → EachGrounded (map (where_inside (put_back (whole x)) c) qs)
  all_back-grounded c qs each = Each-map (IsGrounded x Known) (where_inside (put_back (whole x)) c) qs each
      (λ r q _. place-grounded r (position (is_of c) q.levels) q)

  place-raised : (r : ℕ) (place : Option ℕ) (q : Process S S) → IsGrounded x Known r q → IsGrounded x Known r (at_place raised place q)
  place-raised r None q h = h
  place-raised r (Some j) q h = raised-grounded keeps laws r j q h

  pub all_raised-grounded : (c : ℕ) (qs : List (Process S S)) → EachGrounded qs → EachGrounded (map (where_inside raised c) qs)
  all_raised-grounded c qs each = Each-map (IsGrounded x Known) (where_inside raised c) qs each
      (λ r q _. place-raised r (position (is_of c) q.levels) q)

  -- whoever is inside a conversation that lies in no other has its level outermost, so holds no line once it was put back
  abbrev IsEmptyInside : ℕ → ℕ → Process S S → Type 0
  IsEmptyInside c r q = IsGrounded x Known r q × (is_inside c q ≡ true → x.held q.state ≡ [])

  back_outermost : (r c j : ℕ) (q : Process S S) → IsGrounded x Known r q → parent_of (slice_get x.groups c) ≡ None → IsLevelOf c q.levels j
      → x.held (put_back (whole x) j q).state ≡ []
  back_outermost r c j q h alone at =
      ap (λ (o : Option (Level S)). x.held (back_to (whole x) j q o).state) at.there
      ∙ h.outermost at.level
      (subst (λ (n : ℕ). slice_get q.levels n ≡ Some at.level)
      (subst (λ (o : Option ℕ). HasOutside o q.levels j) alone (laws.nested r q h.known j c at)) at.there)

  place-empty : (r c : ℕ) (q : Process S S) (place : Option ℕ) → IsGrounded x Known r q → parent_of (slice_get x.groups c) ≡ None
      → position (is_of c) q.levels ≡ place → IsEmptyInside c r (at_place (put_back (whole x)) place q)
  place-empty r c q None h alone e = (h, λ inside. absurd (no_place (is_of c) q.levels inside e))
  place-empty r c q (Some j) h alone e =
      (back-grounded keeps laws r j q h, λ inside. back_outermost r c j q h alone (level_at_place c j q.levels e))

  fallen_if-grounded : (r c : ℕ) (q : Process S S) (inside : Bool) → is_inside c q ≡ inside → IsEmptyInside c r q
      → IsGrounded x Known r (cond inside (fallen (whole x) Inner q) q)
  fallen_if-grounded r c q true e h = falls-grounded keeps laws r q Inner h.0 (h.1 e)
  fallen_if-grounded r c q false e h = h.0

  pub all_broken-grounded : (c : ℕ) (qs : List (Process S S)) → parent_of (slice_get x.groups c) ≡ None → EachGrounded qs
      → EachGrounded (map (fallen_inside (whole x) c) (map (where_inside (put_back (whole x)) c) qs))
  all_broken-grounded c qs alone each =
      Each-becomes (IsEmptyInside c) (IsGrounded x Known) (fallen_inside (whole x) c) (map (where_inside (put_back (whole x)) c) qs)
      (Each-becomes (IsGrounded x Known) (IsEmptyInside c) (where_inside (put_back (whole x)) c) qs each
      (λ r q _ h. place-empty r c q (position (is_of c) q.levels) h alone refl))
      (λ r q _ h. fallen_if-grounded r c q (is_inside c q) refl h)

  -- who must fall holds no line
  spent_empty : (r : ℕ) (q : Process S S) → IsGrounded x Known r q → IsQuiet x r q → IsSpentOut q → x.held q.state ≡ []
  spent_empty r q h quiet (NoLevel e) = quiet e
  spent_empty r q h quiet (OneSpent level e same) = ap x.held same ∙ h.outermost level (ap (λ (ls : List (Level S)). slice_get ls 0) e)

  pub falls_empty : (p left : ℕ) (cause : Cause) (q : Process S S) (w : World S S Nothing) → GroundedWithin x Known p left w → RunsAt p q w
      → MustFall (whole x) q w left cause → x.held q.state ≡ []
  falls_empty p left cause q w h runs (NoLevelLeft none) =
      spent_empty p q (h.ground.each p q runs.there) (h.ground.quiet p q runs.there) (h.spent q runs.there none)
  falls_empty p left cause q w h runs (Barred facts c talk line wants of_c at broken _ _) =
      h.ground.quiet p q runs.there
      (laws.outermost p q facts c (h.ground.each p q runs.there).known line wants of_c (h.ground.talks c talk at broken))
