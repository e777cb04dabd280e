-- The turns that one walk over the links reaches from the last kept turn of each process are the survivors, the newest first.
use Rattle.std.proofs.Common.{◌≡◌, ◌≢◌, ◌≤◌, ◌<◌, ◌+◌, ℕ, zero, suc, Bool, true, false, cond, eq-eqb, List, [], ◌∷◌, ◌++◌, length, map, nat_eq, reverse, slice_get, slice_set, Some, refl, sym, ap, ◌∙◌, subst, arith}
use Rattle.std.proofs.lemmas.Bool.{ne_eqb}
use Rattle.std.proofs.lemmas.List.{length-map, length-set, reverse-append}
use Rattle.std.proofs.lemmas.Simd.{map-map}
use Rattle.rb_base.specs.declared.kept.Kept.{Kept}
use Rattle.rb_world.specs.Plain.{survivors_from, survivors_of}
use Rattle.rb_world.specs.Standing.{Each}
use Rattle.rb_world.specs.World.{Process, change_at, is_number}
use Rattle.rb_world.proofs.Erasing.Releasing.SurvivorsGrow.{survivors_grow}
use Rattle.rb_world.proofs.LevelFacts.{IsOldOrNew, IsOld, IsNew, get_more, of_number}
use Rattle.rb_world.proofs.ListFacts.{none_some, some_same}
use Rattle.rb_code.specs.WordMachine.Turn.{Copy, Link, Standing, kept_from}
use Rattle.rb_code.specs.WordMachine.WordRun.{WordWorld}
use Rattle.rb_proc.specs.Process.{Seen}
use Rattle.rb_recovery.specs.Linked.{AreLinked, Fall, IsOwn}
use Rattle.rb_recovery.specs.Survivors.{is_wanted, kept_by, next_wanted, reached, word_survivors}
use Rattle.rb_recovery.specs.Worlds.{processes_of}

abbrev AllLower : ℕ → List Link → Type 0
AllLower t links = (m i : ℕ) (one : ℕ × ℕ) → slice_get (kept_from links m) i ≡ Some one → one.0 < t

-- the kept turns that links lead to are below what the links fall from
kept_below : (t : ℕ) (links : List Link) (n : ℕ) → Fall t links → Each (λ i (one : ℕ × ℕ). one.0 < t) (kept_from links n)
kept_below t [] n fall = λ i one e. absurd (none_some e)
kept_below t (link ∷ links) n fall =
    by (λ m i one e. let below : one.0 < link.turn = kept_below link.turn links m fall.1 i one e in omega (arith, below, fall.0))
    (nat_eq link.turn n)
  where
    newest : AllLower t links → (i : ℕ) (one : ℕ × ℕ) → IsOldOrNew (kept_from links link.before) (link.turn, link.alternate) i one → one.0 < t
    newest lower i one (IsOld e) = lower link.before i one e
    newest lower i one (IsNew at same) = subst (λ (x : ℕ × ℕ). x.0 < t) same fall.0

    by : AllLower t links → (b : Bool)
        → Each (λ i (one : ℕ × ℕ). one.0 < t) (cond b (kept_from links link.before ++ (link.turn, link.alternate) ∷ []) (kept_from links n))
    by lower true i one e = newest lower i one (get_more (kept_from links link.before) (link.turn, link.alternate) i one e)
    by lower false i one e = lower n i one e

-- without links nothing survived
none_reached : (p : ℕ) (wanted : List ℕ) → survivors_from p (map (kept_from []) wanted) ≡ []
none_reached p [] = refl
none_reached p (n ∷ wanted) = none_reached (p + 1) wanted

-- what holds of all that a function gives holds of a list that it maps
each_mapped : {A B : Type 0} (Q : B → Type 0) (f : A → B) (xs : List A) → ((x : A) → Q (f x)) → Each (λ _. Q) (map f xs)
each_mapped Q f [] all r y e = absurd (none_some e)
each_mapped Q f (x ∷ xs) all zero y e = subst Q (some_same e) (all x)
each_mapped Q f (x ∷ xs) all (suc r) y e = each_mapped Q f xs all r y e

-- a list is mapped in the same way by what is the same of each of its elements
map_same : {A B : Type 0} (f g : A → B) (xs : List A) → Each (λ _ x. f x ≡ g x) xs → map f xs ≡ map g xs
map_same f g [] each = refl
map_same {A} {B} f g (x ∷ xs) each =
    ap (λ (y : B). y ∷ map f xs) (each zero x refl) ∙ ap (λ (ys : List B). g x ∷ ys) (map_same f g xs (λ i. each (suc i)))

-- one element is set, and what comes of it is changed to what came of it before
map_set : {A B : Type 0} (f g : A → B) (h : B → B) (xs : List A) (p : ℕ) (old new : A) → slice_get xs p ≡ Some old → f old ≡ h (g new)
    → Each (λ r x. r ≢ p → f x ≡ g x) xs → map f xs ≡ change_at p h (map g (slice_set xs p new))
map_set f g h [] p old new there same others = absurd (none_some there)
map_set {A} {B} f g h (x ∷ xs) zero old new there same others =
    let here : f x ≡ h (g new) = ap f (some_same there) ∙ same in
    let rest : map f xs ≡ map g xs = map_same f g xs (λ i y e. others (suc i) y e (λ (is : suc i ≡ zero). absurd (omega (arith, is)))) in
    ap (λ (y : B). y ∷ map f xs) here ∙ ap (λ (ys : List B). h (g new) ∷ ys) rest
map_set {A} {B} f g h (x ∷ xs) (suc p) old new there same others =
    let here : f x ≡ g x = others zero x refl (λ (is : zero ≡ suc p). absurd (omega (arith, is))) in
    let rest = map_set f g h xs p old new there same (λ i y e apart. others (suc i) y e (λ (is : suc i ≡ suc p). apart (omega (arith, is)))) in
    ap (λ (y : B). y ∷ map f xs) here ∙ ap (λ (ys : List B). g x ∷ ys) rest

-- what is looked up in a list with one element set
Each-slice_set : {A : Type 0} (P : ℕ → A → Type 0) (xs : List A) (p : ℕ) (new : A) → Each P xs → P p new → Each P (slice_set xs p new)
Each-slice_set P [] p new each here r y e = each r y e
Each-slice_set P (x ∷ xs) zero new each here zero y e = subst (P zero) (some_same e) here
Each-slice_set P (x ∷ xs) zero new each here (suc r) y e = each (suc r) y e
Each-slice_set P (x ∷ xs) (suc p) new each here zero y e = each zero y e
Each-slice_set P (x ∷ xs) (suc p) new each here (suc r) y e =
    Each-slice_set (λ n. P (suc n)) xs p new (λ n. each (suc n)) here r y e

-- the place of what is there
there_within : {A : Type 0} (xs : List A) (p : ℕ) (x : A) → slice_get xs p ≡ Some x → suc p ≤ length xs
there_within [] p x e = absurd (none_some e)
there_within (y ∷ xs) zero x e = omega arith
there_within (y ∷ xs) (suc p) x e = omega (arith, there_within xs p x e)

-- older links say no more
own_older : (link : Link) (links : List Link) (t p n : ℕ) → IsOwn (link ∷ links) t p n → IsOwn links t p n
own_older link links t p n h = record { below = h.below; own = λ i. h.own (suc i) }

-- Of each process a turn is wanted that is its own.
module _ (t : ℕ) where
  abbrev AllOwn : List Link → List ℕ → Type 0
  AllOwn links wanted = Each (IsOwn links t) wanted

  abbrev AllBefore : List Link → Type 0
  AllBefore links = Each (λ _ link. IsOwn links t link.process link.before) links

  older : (link : Link) (links : List Link) → AllBefore (link ∷ links) → AllBefore links
  older link links before i one e = own_older link links t one.process one.before (before (suc i) one e)

  module _ (link : Link) (links : List Link) (wanted : List ℕ) (own : AllOwn (link ∷ links) wanted) where
    abbrev newest : List (ℕ × ℕ) → List (ℕ × ℕ)
    newest turns = turns ++ (link.turn, link.alternate) ∷ []

    -- where a link is passed over
    passes : (n : ℕ) → link.turn ≢ n → kept_from (link ∷ links) n ≡ kept_from links n
    passes n other = ap (λ (b : Bool). cond b (newest (kept_from links link.before)) (kept_from links n)) (ne_eqb link.turn n other)

    -- and where it is followed
    follows : kept_from (link ∷ links) link.turn ≡ newest (kept_from links link.before)
    follows = ap (λ (b : Bool). cond b (newest (kept_from links link.before)) (kept_from links link.turn)) (eq-eqb link.turn link.turn refl)

    -- a link that is not wanted of its process is wanted of none
    unwanted : is_wanted wanted link ≡ false → Each (λ _ n. kept_from (link ∷ links) n ≡ kept_from links n) wanted
    unwanted e p n there = passes n other
      where
        found : link.turn ≡ n → is_wanted wanted link ≡ true
        found is =
            let mine : link.process ≡ p = (own p n there).own zero link refl is in
            ap (λ (r : ℕ). is_number (slice_get wanted r) link.turn) mine
            ∙ (ap (λ o. is_number o link.turn) there ∙ eq-eqb n link.turn (sym is))

        other : link.turn ≢ n
        other is = true_false (sym (found is) ∙ e)
          where
            true_false : true ≡ false → ⊥
            true_false same = cc

    -- one that is wanted of its process is wanted of no other
    others : Each (λ r n. r ≢ link.process → kept_from (link ∷ links) n ≡ kept_from links n) wanted
    others r n there apart = passes n (λ (is : link.turn ≡ n). apart (sym ((own r n there).own zero link refl is)))

    wanted_there : is_wanted wanted link ≡ true → slice_get wanted link.process ≡ Some link.turn
    wanted_there e = of_number (slice_get wanted link.process) link.turn e

  abbrev AllReach : List Link → Type 0
  AllReach links = (wanted : List ℕ) → AllOwn links wanted → survivors_of (map (kept_from links) wanted) ≡ reverse (reached links wanted)

  -- So the walk finds the survivors.
  pub walk_reaches : (u : ℕ) (links : List Link) (wanted : List ℕ) → Fall u links → AllBefore links → AllOwn links wanted
      → survivors_of (map (kept_from links) wanted) ≡ reverse (reached links wanted)
  walk_reaches u [] wanted fall before own = none_reached 0 wanted
  walk_reaches u (link ∷ links) wanted fall before own =
      by (λ later its_own. walk_reaches link.turn links later fall.1 (older link links before) its_own) (is_wanted wanted link) refl
    where
      own_then : AllOwn links wanted
      own_then p n e = own_older link links t p n (own p n e)

      next_own : AllOwn links (next_wanted wanted link)
      next_own =
          Each-slice_set (IsOwn links t) wanted link.process link.before own_then
          (own_older link links t link.process link.before (before zero link refl))

      by : AllReach links → (b : Bool) → is_wanted wanted link ≡ b
          → survivors_of (map (kept_from (link ∷ links)) wanted)
          ≡ reverse (cond b (kept_by link ∷ reached links (next_wanted wanted link)) (reached links wanted))
      by reach false e =
          ap survivors_of (map_same (kept_from (link ∷ links)) (kept_from links) wanted (unwanted link links wanted own e))
          ∙ reach wanted own_then
      by reach true e =
          let there = wanted_there link links wanted own e in
          let lists : List (List (ℕ × ℕ)) = map (kept_from links) (next_wanted wanted link) in
          let within : suc link.process ≤ length lists =
          omega (
            arith,
            there_within wanted link.process link.turn there,
            length-map (next_wanted wanted link) (kept_from links),
            length-set wanted link.process link.before,
          ) in
          ap survivors_of
          (map_set (kept_from (link ∷ links)) (kept_from links) (newest link links wanted own) wanted link.process link.turn link.before there
          (follows link links wanted own) (others link links wanted own))
          ∙ (survivors_grow link.turn link.process link.alternate lists
          (each_mapped (λ list. Each (λ i (one : ℕ × ℕ). one.0 < link.turn) list) (kept_from links) (next_wanted wanted link)
          (λ n. kept_below link.turn links n fall.1)) within
          ∙ (ap (λ (list : List Kept). list ++ kept_by link ∷ []) (reach (next_wanted wanted link) next_own)
          ∙ sym (reverse-append (kept_by link ∷ []) (reached links (next_wanted wanted link)))))

-- the turn that is wanted first of each process is its own
abbrev pub last_of_each : List Seen → List ℕ
last_of_each procs = map (λ (one : Seen). one.process.state.last_kept) procs

last_each : (P : ℕ → ℕ → Type 0) (procs : List Seen) → Each (λ p (q : Process Standing Copy). P p q.state.last_kept) (processes_of procs)
    → Each P (last_of_each procs)
last_each P [] each r n e = absurd (none_some e)
last_each P (one ∷ procs) each zero n e = subst (P zero) (some_same e) (each zero one.process refl)
last_each P (one ∷ procs) each (suc r) n e = last_each (λ m. P (suc m)) procs (λ m. each (suc m)) r n e

-- so the walk from there finds the survivors of a world of a run
pub walk_survives : (t : ℕ) (procs : List Seen) (w : WordWorld) → w.processes ≡ processes_of procs → AreLinked t w
    → word_survivors w ≡ reverse (reached w.memory.links (last_of_each procs))
walk_survives t procs w is h =
    let links : List Link = w.memory.links in
    let own : Each (IsOwn links t) (last_of_each procs) =
    last_each (IsOwn links t) procs
    (subst (Each (λ p (q : Process Standing Copy). IsOwn links t p q.state.last_kept)) is (λ p q e. (h.processes p q e).last)) in
    ap (λ (qs : List (Process Standing Copy)). survivors_of (map (λ q. kept_from links q.state.last_kept) qs)) is
    ∙ (ap survivors_of
    (map-map (λ (q : Process Standing Copy). kept_from links q.state.last_kept) (λ (one : Seen). one.process) procs
    ∙ sym (map-map (kept_from links) (λ (one : Seen). one.process.state.last_kept) procs))
    ∙ walk_reaches t t links (last_of_each procs) h.fall h.before own)
