-- Without a level a process stands at no line, and the last level that is left to it is private: the invariant is kept.
use Rattle.std.proofs.Common.{◌≡◌, ℕ, ◌+◌, Bool, true, false, cond, List, [], ◌∷◌, length, map, take, position, option_map, slice_get, Option, Some, None, refl, sym, ap, ◌∙◌, subst, suc-ne-zero}
use Rattle.std.proofs.lemmas.List.{length-map}
use Rattle.rb_base.specs.declared.event.Cause.TheVariants.{Inner}
use Rattle.rb_world.specs.Kind.{Kind}
use Rattle.rb_world.specs.World.{Level, Process, World, change_at, is_inside, is_of, last_of, settled, without_last}
use Rattle.rb_world.specs.Reject.{all_back, at_place, back_to, fallen, fallen_inside, next_alternate, parent_of, put_back, raised, where_inside}
use Rattle.rb_world.specs.Standing.{Each}
use Rattle.rb_world.specs.Nested.{HasOutside}
use Rattle.rb_world.specs.Turn.{freed, leaves, one_used, opening, stands_at, stands_now, turn_used}
use Rattle.rb_world.proofs.TurnFacts.{RejectsAt}
use Rattle.rb_world.proofs.Keeping.Invariant.{IsInvariantUnder}
use Rattle.rb_world.proofs.Keeping.EachProcess.{settled_each}
use Rattle.rb_world.proofs.Erasing.ErasableKinds.{Nothing, Parts, whole, IsErasable}
use Rattle.rb_world.proofs.Erasing.Showing.ErasureInvariant.{Grounded, GroundedBefore, GroundedDuring, GroundedAfter}
use Rattle.rb_world.proofs.Erasing.GoingBack.TurnsNotKept.{change_none}
use Rattle.rb_world.proofs.Erasing.GoingBack.WhoFails.{IsAway, IsLastPrivate, AwayBetween, AwayWithin}
use Rattle.rb_world.proofs.ListFacts.{none_some, some_same, slice_get-change_at, Each-change_at, Each-map}

map_none : {A B : Type 0} (f : A → B) (xs : List A) → map f xs ≡ [] → xs ≡ []
map_none f [] e = refl
map_none f (x ∷ xs) e = absurd cc

take_first : {A : Type 0} (xs : List A) (x y : A) → slice_get xs 0 ≡ Some x → take 1 xs ≡ y ∷ [] → y ≡ x
take_first [] x y there e = absurd (none_some there)
take_first {A} (z ∷ xs) x y there e = some_same (sym (ap (λ (ys : List A). slice_get ys 0) e) ∙ there)

take_last : {A : Type 0} (j : ℕ) (xs : List A) (x y : A) → j ≡ 0 → slice_get xs j ≡ Some x → take (j + 1) xs ≡ y ∷ [] → y ≡ x
take_last {A} j xs x y none = subst (λ (n : ℕ). slice_get xs n ≡ Some x → take (n + 1) xs ≡ y ∷ [] → y ≡ x) (sym none) (take_first xs x y)

-- who it is that was changed
who_changed : {A : Type 0} (p : ℕ) (f : A → A) (xs : List A) (x y : A) → slice_get xs p ≡ Some x → slice_get (change_at p f xs) p ≡ Some y → y ≡ f x
who_changed p f xs x y there e = some_same (sym e ∙ (slice_get-change_at p f xs ∙ ap (option_map f) there))

module _ {S E P : Type 0} (x : Parts S E P) where
  back_to_away : (j : ℕ) (q : Process S S) (found : Option (Level S)) → IsAway 0 q → IsAway 0 (back_to (whole x) j q found)
  back_to_away j q None away = away
  back_to_away j q (Some level) away = λ none. refl

  at_place_away : (f : ℕ → Process S S → Process S S) (place : Option ℕ) (q : Process S S)
      → ((j : ℕ) → IsAway 0 q → IsAway 0 (f j q)) → IsAway 0 q → IsAway 0 (at_place f place q)
  at_place_away f None q one away = away
  at_place_away f (Some j) q one away = one j away

  raised_away : (j : ℕ) (q : Process S S) → IsAway 0 q → IsAway 0 (raised j q)
  raised_away j q away none = away (change_none j next_alternate q.levels none)

  fallen_away : (q : Process S S) (inside : Bool) → IsAway 0 q → IsAway 0 (cond inside (fallen (whole x) Inner q) q)
  fallen_away q true away = λ none. refl
  fallen_away q false away = away

  leaves_away : (q : Process S S) (there : Bool) → IsAway 0 q → IsAway 0 (cond there (settled (whole x) q.state (without_last q.levels)) q)
  leaves_away q true away = λ none. refl
  leaves_away q false away = away

  each_inside_away : (f : ℕ → Process S S → Process S S) (c : ℕ) (qs : List (Process S S))
      → ((j : ℕ) (q : Process S S) → IsAway 0 q → IsAway 0 (f j q))
      → Each IsAway qs → Each IsAway (map (where_inside f c) qs)
  each_inside_away f c qs one each =
      Each-map IsAway (where_inside f c) qs each (λ r q at. at_place_away f (position (is_of c) q.levels) q (λ j. one j q))

  put_back_away : (j : ℕ) (q : Process S S) → IsAway 0 q → IsAway 0 (put_back (whole x) j q)
  put_back_away j q = back_to_away j q (slice_get q.levels j)

  -- the one level of a process that went back to it
  last_private : (p j : ℕ) (q q' : Process S S) (w : World S S Nothing) (level last : Level S) → RejectsAt p q w j level
      → level.facts.conversation ≡ None → j ≡ 0
      → slice_get (change_at p (put_back (whole x) j) w.processes) p ≡ Some q' → q'.levels ≡ last ∷ [] → last.facts.conversation ≡ None
  last_private p j q q' w level last rejects private none there one =
      let now : q' ≡ back_to (whole x) j q (Some level) =
      who_changed p (put_back (whole x) j) w.processes q q' rejects.runs.there there ∙ ap (back_to (whole x) j q) rejects.place in
      let same : last ≡ level = take_last j q.levels level last none rejects.place (ap (λ (z : Process S S). z.levels) (sym now) ∙ one) in
      ap (λ (l : Level S). l.facts.conversation) same ∙ private

module _ {S E P : Type 0} (x : Parts S E P) (Known : ℕ → Process S S → Type 0) (laws : IsErasable x Known) where
  -- who has no level is not counted in
  used_up : (p : ℕ) (q q' : Process S S) (w : World S S Nothing) → slice_get w.processes p ≡ Some q
      → slice_get (change_at p (λ _. turn_used q) w.processes) p ≡ Some q'
      → IsLastPrivate (length q.levels) q'
  used_up p q q' w at there none level one =
      let now : q' ≡ turn_used q = who_changed p (λ _. turn_used q) w.processes q q' at there in
      absurd (suc-ne-zero 0 (sym (ap length (ap (λ (z : Process S S). z.levels) (sym now) ∙ one)) ∙ (length-map q.levels one_used ∙ none)))

  -- a conversation that lies in another has no outermost level
  not_outermost : (p j c parent : ℕ) (q : Process S S) (w : World S S Nothing) (level : Level S) → Grounded x Known w
      → RejectsAt p q w j level → level.facts.conversation ≡ Some c
      → parent_of (slice_get x.groups c) ≡ Some parent → j ≡ 0 → ⊥
  not_outermost p j c parent q w level ground rejects of_c within none =
      subst (HasOutside (Some parent) q.levels) none (subst (λ (o : Option ℕ). HasOutside o q.levels j) within
      (laws.nested p q (ground.each p q rejects.runs.there).known j c (record { level = level; there = rejects.place; of_it = of_c })))

  pub away_kept : IsInvariantUnder (whole x) (GroundedBefore x Known) (GroundedDuring x Known)
      (GroundedAfter x Known) AwayBetween AwayWithin AwayBetween
  away_kept = record {
    rests = λ t past w h. h.1;
    uses = λ t past p q w h runs. (
      Each-change_at IsAway p (λ _. turn_used q) w.processes h.1 (λ _ _ none. h.1 p q runs.there (map_none one_used q.levels none)),
      λ q' there. used_up p q q' w runs.there there,
    );
    overruns = λ t past p q w j h runs over. (h.1.0, λ q' there none. absurd (suc-ne-zero j none));
    waits = λ t past p q w h runs over. h.1.0;
    goes = λ t past p q w a v s m h at e. Each-change_at IsAway p _ w.processes h.1.0 (λ _ _ none. refl);
    opens = λ t past p q w f a h at. Each-change_at IsAway p _ w.processes h.1.0 (λ _ _ none. refl);
    accepts = λ t past p q w a v s l h at e last private. Each-change_at IsAway p _ w.processes h.1.0 (λ _ _ none. refl);
    stands = λ t past p q w a v s l c h at e last of_c all. Each-change_at IsAway p (λ _. stands_now (x.keep t a s) q.levels) w.processes h.1.0
        (λ _ _ none. absurd (none_some (sym (ap last_of none) ∙ last)));
    leaves = λ t past p q w a v s l c h at e last of_c all.
        let qs : List (Process S S) = change_at p (λ _. stands_now (x.keep t a s) q.levels) w.processes in
        Each-map IsAway (leaves (whole x) c) qs
        (Each-change_at IsAway p (λ _. stands_now (x.keep t a s) q.levels) w.processes h.1.0
        (λ _ _ none. absurd (none_some (sym (ap last_of none) ∙ last))))
        (λ r q' _. leaves_away x q' (stands_at c q'));
    falls = λ t past p q w left cause h runs why. Each-change_at IsAway p (fallen (whole x) cause) w.processes h.1.0 (λ _ _ none. refl);
    tries_next = λ t past p q w j l h rejects private more.
        Each-change_at IsAway p (raised j) (change_at p (put_back (whole x) j) w.processes)
        (Each-change_at IsAway p (put_back (whole x) j) w.processes h.1.0 (λ q' at. put_back_away x j q' (h.1.0 p q' at)))
        (λ q' at. raised_away x j q'
        (Each-change_at IsAway p (put_back (whole x) j) w.processes h.1.0 (λ z there. put_back_away x j z (h.1.0 p z there)) p q' at));
    is_spent = λ t past p q w j l h rejects private spent. (
      Each-change_at IsAway p (put_back (whole x) j) w.processes h.1.0 (λ q' at. put_back_away x j q' (h.1.0 p q' at)),
      λ q' there none last one. last_private x p j q q' w l last rejects private none there one,
    );
    all_try_next = λ t past p q w j l c h rejects of_c more.
        each_inside_away x raised c (all_back (whole x) c w).processes (raised_away x)
        (each_inside_away x (put_back (whole x)) c w.processes (put_back_away x) h.1.0);
    all_are_spent = λ t past p q w j l c parent h rejects of_c spent within. (
      each_inside_away x (put_back (whole x)) c w.processes (put_back_away x) h.1.0,
      λ q' there none. absurd (not_outermost p j c parent q w l h.0.ground rejects of_c within none),
    );
    breaks = λ t past p q w j l c h rejects of_c spent outermost. Each-map IsAway (fallen_inside (whole x) c) (all_back (whole x) c w).processes
        (each_inside_away x (put_back (whole x)) c w.processes (put_back_away x) h.1.0) (λ r q' _. fallen_away x q' (is_inside c q'));
    is_gone = λ t past p q w j h runs gone. h.1.0;
    releases = λ t past w one h e. Each-map IsAway (freed (whole x)) w.processes h.1 (λ r q _ away. away);
  }

-- at the opening nobody stands at a line
pub away_opens : {S C M : Type 0} (k : Kind S C M) (states : List S) (m : M) → Each IsAway (opening k states m).processes
away_opens k states m = settled_each k IsAway states (λ r s _ none. refl)
