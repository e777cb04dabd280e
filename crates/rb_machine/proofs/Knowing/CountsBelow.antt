-- Turns that levels used and cursors lie below numbers, and cursors rise from level to level: whatever a turn does to one process, they do so
-- again.
use Rattle.std.proofs.Common.{◌≡◌, ℕ, ◌+◌, ◌<◌, ◌≤◌, ℤ, pos, Bool, true, false, cond, List, [], ◌∷◌, ◌++◌, map, position, slice_get, slice_set, take, Option, Some, None, refl, ap, sym, subst, ◌∙◌, below_more, arith}
use Rattle.std.proofs.lemmas.Option.{slice_get_within}
use Rattle.rb_base.specs.declared.event.Cause.{Cause}
use Rattle.rb_base.specs.declared.event.Cause.TheVariants.{Inner}
use Rattle.rb_world.specs.Kind.{Facts, Kind, Membership}
use Rattle.rb_world.specs.Reject.{at_place, back_to, fallen, fallen_inside, next_alternate, put_back, raised, where_inside}
use Rattle.rb_world.specs.Standing.{Each}
use Rattle.rb_world.specs.Turn.{freed, new_level, one_used, turn_used}
use Rattle.rb_world.specs.World.{Level, Process, ProcessStatus, change_at, goes_on, is_inside, is_of, without_last}
use Rattle.rb_world.proofs.LevelFacts.{AreFrom, IsNew, IsOld, IsOldOrNew, from_next, from_take, from_used, from_without_last, get_more, get_take, get_without_last}
use Rattle.rb_world.proofs.ListFacts.{Each-change_at, none_some, some_same}
use Rattle.rb_world.proofs.Members.PassTogether.{map_found}
use Rattle.rb_meaning.specs.Environment.{natural}
use Rattle.rb_code.specs.WordMachine.Workspace.{cursor_place, held_place, part_of}
use Rattle.rb_code.specs.Instructions.Plain.{Code}
use Rattle.rb_code.specs.WordMachine.Turn.{Common, Copy, Standing}
use Rattle.rb_code.specs.WordMachine.WordKind.{word_kind}
use Rattle.rb_code.proofs.InWords.Fronts.{word_other}
use Rattle.rb_recovery.specs.Known.{CursorsBelow, IsBelow, RiseInward}
use Rattle.rb_recovery.specs.Rising.{NoneFalls, StaySame}

module _ (c : Code) where
  -- below a larger number
  pub cursors_weaker : (p messages most : ℕ) (words : List ℤ) → messages ≤ most → CursorsBelow c p messages words → CursorsBelow c p most words
  cursors_weaker p messages most words le h channel among = omega (arith, h channel among)

  pub weaker : (turns more messages most p : ℕ) (q : Process Standing Copy) → turns ≤ more → messages ≤ most
      → IsBelow c turns messages p q → IsBelow c more most p q
  weaker turns more messages most p q le few h = record {
    used = λ i level e. omega (arith, h.used i level e);
    cursors = cursors_weaker p messages most q.state.words few h.cursors;
    copied = λ i level e. cursors_weaker p messages most level.copy.words few (h.copied i level e);
    rising = h.rising;
  }

  -- cursors that do not fall on the way to words, nor from there on
  pub none_falls : (p : ℕ) (words behind later : List ℤ) → NoneFalls c p words behind → NoneFalls c p behind later → NoneFalls c p words later
  none_falls p words behind later h k channel among = omega (arith, h channel among, k channel among)

  pub same_falls : (p : ℕ) (words later : List ℤ) → StaySame c p words later → NoneFalls c p words later
  same_falls p words later same channel among = omega (arith, same channel among)

  rises_on : (p : ℕ) (levels : List (Level Copy)) (words later : List ℤ) → NoneFalls c p words later → RiseInward c p levels words
      → RiseInward c p levels later
  rises_on p levels words later on h = record {
    inward = h.inward;
    on = λ i level e. none_falls p level.copy.words words later (h.on i level e) on;
  }

  -- levels with the copies of others, in their order
  rises_from : (p : ℕ) (levels old : List (Level Copy)) (words : List ℤ) → AreFrom levels old → RiseInward c p old words
      → RiseInward c p levels words
  rises_from p levels old words from h = record {
    inward = λ i j outer inner lt there here.
        let one = from i outer there in
        let other = from j inner here in
        subst (λ (copy : Copy). NoneFalls c p copy.words inner.copy.words) one.same
        (subst (λ (copy : Copy). NoneFalls c p one.level.copy.words copy.words) other.same
        (h.inward i j one.level other.level lt one.there other.there));
    on = λ i level e.
        let found = from i level e in
        subst (λ (copy : Copy). NoneFalls c p copy.words words) found.same (h.on i found.level found.there);
  }

  -- no level is open
  pub none_rises : (p : ℕ) (words : List ℤ) → RiseInward c p [] words
  none_rises p words = record { inward = λ i j outer inner lt e f. absurd (none_some e); on = λ i level e. absurd (none_some e) }

  -- cursors that are the same
  pub cursors_same : (p messages : ℕ) (words later : List ℤ) → StaySame c p words later → CursorsBelow c p messages words
      → CursorsBelow c p messages later
  cursors_same p messages words later same h channel among = omega (arith, same channel among, h channel among)

  -- levels with the copies of others
  copied_from : (p messages : ℕ) (levels old : List (Level Copy)) → AreFrom levels old
      → Each (λ _ level. CursorsBelow c p messages level.copy.words) old → Each (λ _ level. CursorsBelow c p messages level.copy.words) levels
  copied_from p messages levels old from h i level e =
      let found = from i level e in
      subst (λ (copy : Copy). CursorsBelow c p messages copy.words) found.same (h i found.level found.there)

  module _ (groups : List Membership) (turns messages p : ℕ) where
    abbrev k : Kind Standing Copy Common
    k = word_kind c groups

    abbrev Below : Process Standing Copy → Type 0
    Below = IsBelow c turns messages p

    -- a turn is counted
    pub used_below : (q : Process Standing Copy) → Below q → IsBelow c (turns + 1) messages p (turn_used q)
    used_below q h = record {
      used = λ i level e.
          let found = map_found one_used q.levels i level e in
          subst (λ (one : Level Copy). one.used < turns + 1) found.2 (omega (arith, h.used i found.0 found.1));
      cursors = h.cursors;
      copied = copied_from p messages (map one_used q.levels) q.levels (from_used q.levels) h.copied;
      rising = rises_from p (map one_used q.levels) q.levels q.state.words (from_used q.levels) h.rising;
    }

    -- a copy is put back
    pub back_below : (j : ℕ) (q : Process Standing Copy) → Below q → Below (put_back k j q)
    back_below j q h = by (slice_get q.levels j) refl
      where
        by : (o : Option (Level Copy)) → slice_get q.levels j ≡ o → Below (back_to k j q o)
        by None e = h
        by (Some level) e = record {
          used = λ i one there. h.used i one (get_take (j + 1) q.levels i one there).1;
          cursors = h.copied j level e;
          copied = copied_from p messages (take (j + 1) q.levels) q.levels (from_take (j + 1) q.levels) h.copied;
          rising = record {
            inward = (rises_from p (take (j + 1) q.levels) q.levels q.state.words (from_take (j + 1) q.levels) h.rising).inward;
            on = λ i one there. let found = get_take (j + 1) q.levels i one there in up_to i found.0 one found.1;
          };
        }
          where
            up_to : (i : ℕ) → i < j + 1 → (one : Level Copy) → slice_get q.levels i ≡ Some one → NoneFalls c p one.copy.words level.copy.words
            up_to =
                below_more (λ (i : ℕ). (one : Level Copy) → slice_get q.levels i ≡ Some one → NoneFalls c p one.copy.words level.copy.words) j
                (λ i lt one there. h.rising.inward i j one level lt there e)
                (λ one there. subst (λ (x : Level Copy). NoneFalls c p x.copy.words level.copy.words) (some_same (sym e ∙ there))
                (λ channel among. omega arith))

    -- a level goes on to its next alternate
    pub raised_below : 0 < turns → (j : ℕ) (q : Process Standing Copy) → Below q → Below (raised j q)
    raised_below some j q h = record {
      used = Each-change_at (λ _ level. level.used < turns) j next_alternate q.levels h.used (λ level e. some);
      cursors = h.cursors;
      copied = copied_from p messages (change_at j next_alternate q.levels) q.levels (from_next j q.levels) h.copied;
      rising = rises_from p (change_at j next_alternate q.levels) q.levels q.state.words (from_next j q.levels) h.rising;
    }

    -- a process fails
    pub fallen_below : (cause : Cause) (q : Process Standing Copy) → Below q → Below (fallen k cause q)
    fallen_below cause q h = record {
      used = λ i level e. none i level e;
      cursors = h.cursors;
      copied = λ i level e. none i level e;
      rising = none_rises p q.state.words;
    }
      where
        none : {A : Type 0} (i : ℕ) (level : Level Copy) → slice_get [] i ≡ Some level → A
        none i level e = absurd (none_some e)

    -- held lines are released
    pub freed_below : (q : Process Standing Copy) → Below q → Below (freed k q)
    freed_below q h = by q.levels h.used h.copied h.rising
      where
        by : (levels : List (Level Copy)) → Each (λ _ level. level.used < turns) levels
            → Each (λ _ level. CursorsBelow c p messages level.copy.words) levels → RiseInward c p levels q.state.words
            → Below (freed k (record { state = q.state; levels = levels; at_line = q.at_line; status = q.status }))
        by [] used copied rising = record {
          used = used;
          cursors = cursors_same p messages q.state.words (slice_set q.state.words held_place (pos 0))
              (λ channel among. ap natural (word_other q.state.words held_place (cursor_place (part_of c p) channel) (pos 0) (λ e. omega arith)))
              h.cursors;
          copied = copied;
          rising = none_rises p (slice_set q.state.words held_place (pos 0));
        }
        by (level ∷ levels) used copied rising = record { used = used; cursors = h.cursors; copied = copied; rising = rising }

    -- whoever is inside a conversation is changed
    pub inside_below : (f : ℕ → Process Standing Copy → Process Standing Copy) → ((j : ℕ) (q : Process Standing Copy) → Below q → Below (f j q))
        → (d : ℕ) (q : Process Standing Copy) → Below q → Below (where_inside f d q)
    inside_below f one d q h = by (position (is_of d) q.levels)
      where
        by : (place : Option ℕ) → Below (at_place f place q)
        by None = h
        by (Some j) = one j q h

    pub fallen_inside_below : (d : ℕ) (q : Process Standing Copy) → Below q → Below (fallen_inside k d q)
    fallen_inside_below d q h = by (is_inside d q)
      where
        by : (inside : Bool) → Below (cond inside (fallen k Inner q) q)
        by true = fallen_below Inner q h
        by false = h

    -- a block is entered
    pub entered_below : 0 < turns → (s : Standing) (facts : Facts) (alternate : ℕ) (q : Process Standing Copy) → s.words ≡ q.state.words
        → Below q → Below (goes_on k s (q.levels ++ new_level k facts alternate s ∷ []))
    entered_below some s facts alternate q same h = record {
      used = λ i level e. used i level (get_more q.levels new i level e);
      cursors = here;
      copied = λ i level e. copied i level (get_more q.levels new i level e);
      rising = record {
        inward = λ i j outer inner lt e f. inward i j outer inner lt (get_more q.levels new i outer e) (get_more q.levels new j inner f);
        on = λ i level e. on i level (get_more q.levels new i level e);
      };
    }
      where
        new : Level Copy
        new = new_level k facts alternate s

        here : CursorsBelow c p messages s.words
        here = subst (CursorsBelow c p messages) (sym same) h.cursors

        used : (i : ℕ) (level : Level Copy) → IsOldOrNew q.levels new i level → level.used < turns
        used i level (IsOld e) = h.used i level e
        used i level (IsNew e is) = subst (λ (one : Level Copy). one.used < turns) is some

        copied : (i : ℕ) (level : Level Copy) → IsOldOrNew q.levels new i level → CursorsBelow c p messages level.copy.words
        copied i level (IsOld e) = h.copied i level e
        copied i level (IsNew e is) = subst (λ (one : Level Copy). CursorsBelow c p messages one.copy.words) is here

        up : (i : ℕ) (level : Level Copy) → slice_get q.levels i ≡ Some level → NoneFalls c p level.copy.words s.words
        up i level e = subst (NoneFalls c p level.copy.words) (sym same) (h.rising.on i level e)

        inward : (i j : ℕ) (outer inner : Level Copy) → i < j → IsOldOrNew q.levels new i outer → IsOldOrNew q.levels new j inner
            → NoneFalls c p outer.copy.words inner.copy.words
        inward i j outer inner lt (IsOld e) (IsOld f) = h.rising.inward i j outer inner lt e f
        inward i j outer inner lt (IsOld e) (IsNew f is) =
            subst (λ (one : Level Copy). NoneFalls c p outer.copy.words one.copy.words) is (up i outer e)
        inward i j outer inner lt (IsNew e is) (IsOld f) = absurd (let within = slice_get_within q.levels j inner f in omega arith)
        inward i j outer inner lt (IsNew e is) (IsNew f it) = absurd (omega arith)

        on : (i : ℕ) (level : Level Copy) → IsOldOrNew q.levels new i level → NoneFalls c p level.copy.words s.words
        on i level (IsOld e) = up i level e
        on i level (IsNew e is) = subst (λ (one : Level Copy). NoneFalls c p one.copy.words s.words) is (λ channel among. omega arith)

    -- the process has other words, and its levels or all but the innermost
    pub moved_below : (s : Standing) (at_line : Bool) (status : ProcessStatus) (q : Process Standing Copy) → CursorsBelow c p messages s.words
        → NoneFalls c p q.state.words s.words → Below q → Below (record { state = s; levels = q.levels; at_line = at_line; status = status })
    moved_below s at_line status q here on h = record {
      used = h.used;
      cursors = here;
      copied = h.copied;
      rising = rises_on p q.levels q.state.words s.words on h.rising;
    }

    pub left_below : (s : Standing) (at_line : Bool) (status : ProcessStatus) (q : Process Standing Copy) → CursorsBelow c p messages s.words
        → NoneFalls c p q.state.words s.words → Below q
        → Below (record { state = s; levels = without_last q.levels; at_line = at_line; status = status })
    left_below s at_line status q here on h = record {
      used = λ i level e. h.used i level (get_without_last q.levels i level e);
      cursors = here;
      copied = copied_from p messages (without_last q.levels) q.levels (from_without_last q.levels) h.copied;
      rising = rises_on p (without_last q.levels) q.state.words s.words on
          (rises_from p (without_last q.levels) q.levels q.state.words (from_without_last q.levels) h.rising);
    }
