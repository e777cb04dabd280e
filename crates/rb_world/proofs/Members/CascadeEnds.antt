-- What a cascade of rejections comes to: by induction over the levels that are left, with what was put back so far.
use Rattle.std.proofs.Common.{◌≡◌, ◌<◌, ◌≤◌, ℕ, zero, suc, pred, Bool, true, false, cond, List, [], ◌∷◌, length, map, option_map, slice_get, Option, Some, None, refl, sym, ap, ◌∙◌, subst, true≢false, nat_lt, suc-ne-zero, arith}
use Rattle.std.proofs.lemmas.Option.{slice_get-map, slice_get_within}
use Rattle.rb_base.specs.declared.event.Cause.{Cause}
use Rattle.rb_base.specs.declared.event.Cause.TheVariants.{Inner}
use Rattle.rb_base.specs.declared.event.Event.{Event}
use Rattle.rb_base.specs.declared.event.Event.TheVariants.{Reject, RejectAll}
use Rattle.rb_world.specs.Kind.{Kind}
use Rattle.rb_world.specs.World.{Level, Process, World, change_at, is_inside, levels_of, process_levels, with_each, with_process}
use Rattle.rb_world.specs.Reject.{Happened, after_event, all_back, exhausted_next, fallen, fallen_inside, next_alternate, parent_of, private_next, put_back, raised, reject, reject_at, reject_either, together_next, where_inside}
use Rattle.rb_world.specs.Nested.{AreNested, HasOutside, IsLevelOf}
use Rattle.rb_world.specs.Together.{IsOutside}
use Rattle.rb_world.proofs.TurnFacts.{all_broken, all_next, all_spent}
use Rattle.rb_world.proofs.ListFacts.{none_some, slice_get-change_at, slice_get-change_other, nothing_within}
use Rattle.rb_world.proofs.LevelFacts.{any_level}
use Rattle.rb_world.proofs.Members.PlaceFacts.{conversation_out, not_of}
use Rattle.rb_world.proofs.Members.Cascade.{AllBack, AllFallen, AllNested, Alone, AreBackAt, EndsIn, Ends, HasCome, HaveFallen, IsLast, KeepsTalks, LeavesOthers, NoneYet, Now, OneBefore}
use Rattle.rb_world.proofs.Members.CascadeSteps.{InsideIt, OutsideIt, Place, changed_inside, inside_parent, is_back, place, place_found, private_come, put_back_outer, stays_outside, together_come}

-- what is looked up after two changes of each element
twice : {A : Type 0} (f g : A → A) (xs : List A) (r : ℕ) {x : A} → slice_get xs r ≡ Some x → slice_get (map g (map f xs)) r ≡ Some (g (f x))
twice f g xs r e = slice_get-map g (map f xs) r ∙ ap (option_map g) (slice_get-map f xs r ∙ ap (option_map f) e)

further : {c p : ℕ} {events : List Event} (event : Event) → EndsIn c p events → EndsIn c p (event ∷ events)
further event ends =
    record {
      inner = event ∷ ends.inner;
      alternate = ends.alternate;
      cause = ends.cause;
      is =
          ap (λ (others : List Event). event ∷ others) ends.is;
    }

module _ {S C M : Type 0} (k : Kind S C M) (p : ℕ) (u : Process S C) (v : World S C M) where
  -- one more event stands before those of the rest of the cascade
  after_private : (last : Option ℕ) (line alternate : ℕ) (cause : Cause) (h : Happened S C M) → Ends k p u v last h
      → Ends k p u v last (after_event (Reject p line alternate cause) h)
  after_private last line alternate cause h (Alone e private others keeps) = Alone e private others keeps
  after_private last line alternate cause h (AllBack c j events at others back) =
      AllBack c j (further (Reject p line alternate cause) events) at others back
  after_private last line alternate cause h (AllFallen c j events at outermost others fell) =
      AllFallen c j (further (Reject p line alternate cause) events) at outermost others fell

  after_together : (last : Option ℕ) (d alternate : ℕ) (cause : Cause) (h : Happened S C M) → Ends k p u v (Some d) h
      → Ends k p u v last (after_event (RejectAll d alternate p cause) h)
  after_together last d alternate cause h (Alone e private others keeps) = absurd (none_some (sym e))
  after_together last d alternate cause h (AllBack c j events at others back) =
      AllBack c j (further (RejectAll d alternate p cause) events) at others back
  after_together last d alternate cause h (AllFallen c j events at outermost others fell) =
      AllFallen c j (further (RejectAll d alternate p cause) events) at outermost others fell

module _ {S C M : Type 0} (k : Kind S C M) (p : ℕ) (u : Process S C) (v : World S C M)
    (there : slice_get v.processes p ≡ Some u) (nested : AllNested k v) where
  -- no conversation was put back before a private level
  none_before : (j : ℕ) (last : Option ℕ) (level : Level C) → IsLast k.groups u.levels (suc j) last → slice_get u.levels j ≡ Some level
      → level.facts.conversation ≡ None → last ≡ None
  none_before j last level (NoneYet e none) here alone = e
  none_before j last level (OneBefore c d i e left parent around) here alone =
      absurd (not_of here alone (subst (IsLevelOf d u.levels) (sym (ap pred left)) around))

  -- p alone was changed
  others_stay : (last : Option ℕ) (left : ℕ) (w : World S C M) (f : Process S C → Process S C) → HasCome k p u v left last w → last ≡ None
      → LeavesOthers p None v (with_process p f w)
  others_stay last left w f come none r q here other outside =
      let n : Now p left last r q w = come.each r q here in
      slice_get-change_other p f w.processes r other
      ∙ (n.there ∙ ap Some (n.same other (subst (λ (o : Option ℕ). IsOutside o q) (sym none) tt)))

  -- no level is left
  falls-ends : (cause : Cause) (last : Option ℕ) (w : World S C M) → HasCome k p u v 0 last w → IsLast k.groups u.levels 0 last
      → Ends k p u v last (with_process p (fallen k cause) w, [])
  falls-ends cause last w come (NoneYet e none) =
      let n : Now p 0 last p u w = come.each p u there in
      Alone e tt (others_stay last 0 w (fallen k cause) come e) (
        fallen k cause n.now,
        slice_get-change_at p (fallen k cause) w.processes ∙ ap (option_map (fallen k cause)) n.there,
        λ i c at. absurd (none refl i c at),
      )
  falls-ends cause last w come (OneBefore c d i e left parent around) = absurd (suc-ne-zero i (sym left))

  -- a private level is put back
  private_keeps : (j : ℕ) (last : Option ℕ) (level : Level C) (w : World S C M) → HasCome k p u v (suc j) last w → slice_get u.levels j ≡ Some level
      → level.facts.conversation ≡ None → KeepsTalks {M = M} u p (with_process p (raised j) (with_process p (put_back k j) w))
  private_keeps j last level w come here alone =
      let n : Now p (suc j) last p u w = come.each p u there in (
        raised j (put_back k j n.now),
        slice_get-change_at p (raised j) (change_at p (put_back k j) w.processes)
            ∙ ap (option_map (raised j)) (slice_get-change_at p (put_back k j) w.processes ∙ ap (option_map (put_back k j)) n.there),
        λ i c at.
            let below : i < j = conversation_out k.groups u.levels (nested p u there) i j c level at here alone in
            slice_get-change_other j next_alternate (put_back k j n.now).levels i (λ e. absurd (omega arith))
            ∙ (put_back_outer k j n.now i (omega arith) ∙ (n.outer i (omega arith) ∙ at.there)),
      )

  private_next-ends : (j : ℕ) (last : Option ℕ) (level : Level C) (w : World S C M) (outer : World S C M → Happened S C M)
      → HasCome k p u v (suc j) last w → slice_get u.levels j ≡ Some level → level.facts.conversation ≡ None
      → ((next : Option ℕ) (x : World S C M) → HasCome k p u v j next x → Ends k p u v next (outer x)) → (more : Bool)
      → Ends k p u v last (private_next more p j (with_process p (put_back k j) w) outer)
  private_next-ends j last level w outer come here alone rest true =
      let none : last ≡ None = none_before j last level come.last_is here alone in
      Alone none tt
      (λ r q at other outside. slice_get-change_other p (raised j) (change_at p (put_back k j) w.processes) r other
      ∙ others_stay last (suc j) w (put_back k j) come none r q at other outside)
      (private_keeps j last level w come here alone)
  private_next-ends j last level w outer come here alone rest false =
      let none : last ≡ None = none_before j last level come.last_is here alone in
      rest last (with_process p (put_back k j) w)
      (private_come k p u v there nested j last w come
      (NoneYet none
      (λ (zero : j ≡ 0). λ i c at. let below : i < j =
      conversation_out k.groups u.levels (nested p u there) i j c level at here alone in absurd (omega arith))))

  -- a conversation is put back: who was outside it stays
  outside_stays_at : (c j r : ℕ) (last : Option ℕ) (q : Process S C) (w : World S C M) (f : Process S C → Process S C)
      → (n : Now p (suc j) last r q w) → Place c j p r q n.now → ((q : Process S C) → is_inside c q ≡ false → f q ≡ q) → is_inside c q ≡ false
      → slice_get (map f (map (where_inside (put_back k) c) w.processes)) r ≡ Some q
  outside_stays_at c j r last q w f n (InsideIt at agree) same outside = absurd (true≢false (sym (any_level c j q.levels at) ∙ outside))
  outside_stays_at c j r last q w f n (OutsideIt e other now) same outside =
      twice (where_inside (put_back k) c) f w.processes r n.there
      ∙ ap Some (ap f (ap (where_inside (put_back k) c) now ∙ stays_outside (put_back k) c q outside) ∙ same q outside)

  outside_stays : (c j : ℕ) (last : Option ℕ) (w : World S C M) (f : Process S C → Process S C)
      → HasCome k p u v (suc j) last w → IsLevelOf c u.levels j
      → ((q : Process S C) → is_inside c q ≡ false → f q ≡ q)
      → LeavesOthers p (Some c) v (with_each f (all_back k c w))
  outside_stays c j last w f come at same r q here other outside =
      outside_stays_at c j r last q w f (come.each r q here)
      (place k p u v there nested c j r last q w come.last_is at here (come.each r q here)) same outside

  -- who is inside is put back
  inside_back : (c j r : ℕ) (last : Option ℕ) (q : Process S C) (w : World S C M) → AreNested k.groups q.levels → IsLevelOf c q.levels j
      → (n : Now p (suc j) last r q w) → where_inside (put_back k) c n.now ≡ put_back k j n.now
  inside_back c j r last q w levels own n =
      changed_inside (put_back k) c j n.now (place_found k.groups c j q.levels n.now.levels levels own n.outer)

  -- all that are inside go on to the next alternate
  all_go_back : (c j : ℕ) (last : Option ℕ) (w : World S C M) → HasCome k p u v (suc j) last w → IsLevelOf c u.levels j
      → AreBackAt k c j v (all_next k c w)
  all_go_back c j last w come at r q here own =
      let n : Now p (suc j) last r q w = come.each r q here in
      let back : Process S C = put_back k j n.now in (
        raised j back,
        twice (where_inside (put_back k) c) (where_inside raised c) w.processes r n.there
            ∙ ap Some (ap (where_inside raised c) (inside_back c j r last q w (nested r q here) own n)
            ∙ changed_inside raised c j back (place_found k.groups c j q.levels back.levels (nested r q here) own
            (λ i below. put_back_outer k j n.now i below ∙ n.outer i below))),
        is_back k j q n.now own.level own.there n.outer,
      )

  -- or fail
  all_fall : (c j : ℕ) (last : Option ℕ) (w : World S C M) → HasCome k p u v (suc j) last w → IsLevelOf c u.levels j
      → HaveFallen c j v (all_broken k c w)
  all_fall c j last w come at r q here own =
      let n : Now p (suc j) last r q w = come.each r q here in
      let back : Process S C = put_back k j n.now in
      let inside : is_inside c back ≡ true = any_level c j back.levels (record {
        level = own.level;
        there = put_back_outer k j n.now j (omega arith) ∙ (n.outer j (omega arith) ∙ own.there);
        of_it = own.of_it;
      }) in (
        fallen k Inner back,
        twice (where_inside (put_back k) c) (fallen_inside k c) w.processes r n.there
            ∙ ap Some (ap (fallen_inside k c) (inside_back c j r last q w (nested r q here) own n)
            ∙ ap (λ (b : Bool). cond b (fallen k Inner back) back) inside),
        refl,
      )

  exhausted_next-ends : (c j alternate : ℕ) (cause : Cause) (last : Option ℕ) (w : World S C M) (outer : World S C M → Happened S C M)
      → HasCome k p u v (suc j) last w → IsLevelOf c u.levels j
      → ((next : Option ℕ) (x : World S C M) → HasCome k p u v j next x → Ends k p u v next (outer x))
      → (parent : Option ℕ) → parent_of (slice_get k.groups c) ≡ parent
      → Ends k p u v last (after_event (RejectAll c alternate p cause) (exhausted_next k parent c (all_back k c w) outer))
  exhausted_next-ends c j alternate cause last w outer come at rest None e =
      AllFallen c j (record { inner = []; alternate = alternate; cause = cause; is = refl }) at
      (subst (λ (o : Option ℕ). HasOutside o u.levels j) e (nested p u there j c at))
      (outside_stays c j last w (fallen_inside k c) come at (λ q outside. ap (λ (inside : Bool). cond inside (fallen k Inner q) q) outside))
      (all_fall c j last w come at)
  exhausted_next-ends c j alternate cause last w outer come at rest (Some d) e =
      let around : (i : ℕ) × (j ≡ suc i) × IsLevelOf d u.levels i = inside_parent k.groups u.levels j c d (nested p u there) at e in
      after_together k p u v last c alternate cause (outer (all_spent k c w))
      (rest (Some c) (all_spent k c w)
      (together_come k p u v there nested c j last w come at (OneBefore c d around.0 refl around.1 e around.2)))

  together_next-ends : (c j alternate : ℕ) (cause : Cause) (last : Option ℕ) (w : World S C M) (outer : World S C M → Happened S C M)
      → HasCome k p u v (suc j) last w → IsLevelOf c u.levels j
      → ((next : Option ℕ) (x : World S C M) → HasCome k p u v j next x → Ends k p u v next (outer x)) → (more : Bool)
      → Ends k p u v last (after_event (RejectAll c alternate p cause) (together_next k more c (all_back k c w) outer))
  together_next-ends c j alternate cause last w outer come at rest true =
      AllBack c j (record { inner = []; alternate = alternate; cause = cause; is = refl }) at
      (outside_stays c j last w (where_inside raised c) come at (stays_outside raised c))
      (all_go_back c j last w come at)
  together_next-ends c j alternate cause last w outer come at rest false =
      exhausted_next-ends c j alternate cause last w outer come at rest (parent_of (slice_get k.groups c)) refl

  reject_either-ends : (j : ℕ) (cause : Cause) (last : Option ℕ) (level : Level C) (w : World S C M) (outer : World S C M → Happened S C M)
      → HasCome k p u v (suc j) last w → slice_get u.levels j ≡ Some level
      → ((next : Option ℕ) (x : World S C M) → HasCome k p u v j next x → Ends k p u v next (outer x))
      → (conversation : Option ℕ) → level.facts.conversation ≡ conversation
      → Ends k p u v last (reject_either k p j cause level conversation w outer)
  reject_either-ends j cause last level w outer come here rest None e =
      after_private k p u v last level.facts.line level.alternate cause
      (private_next (nat_lt level.alternate level.facts.alternates) p j (with_process p (put_back k j) w) outer)
      (private_next-ends j last level w outer come here e rest (nat_lt level.alternate level.facts.alternates))
  reject_either-ends j cause last level w outer come here rest (Some c) e =
      together_next-ends c j level.alternate cause last w outer come (record { level = level; there = here; of_it = e }) rest
      (nat_lt level.alternate level.facts.alternates)

  reject_at-ends : (j : ℕ) (cause : Cause) (last : Option ℕ) (w : World S C M) (outer : World S C M → Happened S C M)
      → HasCome k p u v (suc j) last w → j < length u.levels
      → ((next : Option ℕ) (x : World S C M) → HasCome k p u v j next x → Ends k p u v next (outer x))
      → (level : Option (Level C)) → slice_get u.levels j ≡ level → Ends k p u v last (reject_at k p j cause level w outer)
  reject_at-ends j cause last w outer come within rest None e = absurd (nothing_within u.levels j within e)
  reject_at-ends j cause last w outer come within rest (Some level) e =
      reject_either-ends j cause last level w outer come e rest level.facts.conversation refl

  -- a cascade that has so many levels left
  reject_on-ends : (left : ℕ) (cause : Cause) (last : Option ℕ) (w : World S C M) → left ≤ length u.levels → HasCome k p u v left last w
      → Ends k p u v last (reject k p left cause w)
  reject_on-ends zero cause last w within come = falls-ends cause last w come come.last_is
  reject_on-ends (suc j) cause last w within come =
      let n : Now p (suc j) last p u w = come.each p u there in
      reject_at-ends j cause last w (λ outer. reject k p j Inner outer) come (omega arith)
      (λ next x more. reject_on-ends j Inner next x (omega arith) more)
      (slice_get (process_levels w p) j)
      (sym (ap (λ (o : Option (Process S C)). slice_get (levels_of o) j) n.there ∙ n.outer j (omega arith)))

  -- a cascade that begins here
  pub reject-ends : (n : ℕ) (cause : Cause) → n ≤ length u.levels → (n ≡ 0 → length u.levels ≡ 0) → Ends k p u v None (reject k p n cause v)
  reject-ends n cause within none =
      reject_on-ends n cause None v within
      (record {
        last_is = NoneYet refl
            (λ e i c at. let here : i < length u.levels =
            slice_get_within u.levels i at.level at.there in let bare : length u.levels ≡ 0 =
            none e in absurd (omega arith));
        each = λ r q here. record { now = q; there = here; outer = λ i below. refl; same = λ other outside. refl };
      })
