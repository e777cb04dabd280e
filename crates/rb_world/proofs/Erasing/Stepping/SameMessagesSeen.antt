-- What a present receiver sees of a sender that a cut shows: the sender's first level that it does not share with the receiver
-- is at or outside the level at which the cut shows it, so as many messages are seen, and the same ones.
use Rattle.std.proofs.Common.{◌≡◌, ◌⊎◌, ◌≤◌, ◌<◌, ℕ, zero, suc, Bool, true, false, cond, List, [], ◌∷◌, take, option_map, slice_get, Option, Some, None, refl, sym, ap, ◌∙◌, subst, subst₂, inl, inr, eqb-true, add-one, arith, true≢false, le_refl}
use Rattle.rb_world.specs.World.{Level, Process, is_shared}
use Rattle.rb_world.specs.Channels.{seen_copy, seen_count, seen_message}
use Rattle.rb_world.specs.Nested.{IsLevelOf}
use Rattle.rb_world.proofs.ListFacts.{none_some}
use Rattle.rb_world.proofs.Erasing.ErasableKinds.{IsErasable, IsFront, Parts, plain, whole}
use Rattle.rb_world.proofs.Erasing.Showing.Cuts.{Alive, AreOwn, Lost, ShowsOne, plain_levels, shown_at}
use Rattle.rb_world.proofs.Erasing.Showing.ErasureInvariant.{IsGrounded}

-- levels of one conversation, by the test
shared_of : (a b : Option ℕ) → is_shared a b ≡ true → (c : ℕ) × (a ≡ Some c) × (b ≡ Some c)
shared_of None b e = absurd (true≢false (sym e))
shared_of (Some c) None e = absurd (true≢false (sym e))
shared_of (Some c) (Some d) e = (c, refl, ap Some (eqb-true d c e))

-- the present is seen, or the recovery point of a level
seen_place : {C : Type 0} (ls ms : List (Level C))
    → (seen_copy ls ms ≡ None) ⊎ ((i : ℕ) × (level : Level C) × (slice_get ls i ≡ Some level) × (seen_copy ls ms ≡ Some level.copy))
seen_place [] ms = inl refl
seen_place (l ∷ ls) [] = inr (0, l, refl, refl)
seen_place {C} (l ∷ ls) (m ∷ ms) = further (is_shared l.facts.conversation m.facts.conversation) (seen_place ls ms)
  where
    further : (b : Bool)
        → (seen_copy ls ms ≡ None) ⊎ ((i : ℕ) × (level : Level C) × (slice_get ls i ≡ Some level) × (seen_copy ls ms ≡ Some level.copy))
        → (cond b (seen_copy ls ms) (Some l.copy) ≡ None)
        ⊎ ((i : ℕ) × (level : Level C) × (slice_get (l ∷ ls) i ≡ Some level) × (cond b (seen_copy ls ms) (Some l.copy) ≡ Some level.copy))
    further false rest = inr (0, l, refl, refl)
    further true (inl e) = inl e
    further true (inr (i, level, there, e)) = inr (suc i, level, there, e)

-- What is seen is the recovery point of a level at or outside number n, and so it is if the levels further in than n are not there.
record IsSeenOutside {C : Type 0} (n : ℕ) (ls ms : List (Level C)) : Type 0 where
  place : ℕ
  level : Level C
  there : slice_get ls place ≡ Some level
  outside : place ≤ n
  of_all : seen_copy ls ms ≡ Some level.copy
  of_cut : seen_copy (take (suc n) ls) ms ≡ Some level.copy

at_first : {C : Type 0} (n : ℕ) (l m : Level C) (ls ms : List (Level C)) → is_shared l.facts.conversation m.facts.conversation ≡ false
    → IsSeenOutside n (l ∷ ls) (m ∷ ms)
at_first n l m ls ms apart = record {
  place = 0;
  level = l;
  there = refl;
  outside = omega arith;
  of_all = ap (λ (b : Bool). cond b (seen_copy ls ms) (Some l.copy)) apart;
  of_cut = ap (λ (b : Bool). cond b (seen_copy (take n ls) ms) (Some l.copy)) apart;
}

at_later : {C : Type 0} (n : ℕ) (l m : Level C) (ls ms : List (Level C)) (b : Bool) → is_shared l.facts.conversation m.facts.conversation ≡ b
    → IsSeenOutside n ls ms → IsSeenOutside (suc n) (l ∷ ls) (m ∷ ms)
at_later n l m ls ms false e rest = at_first (suc n) l m ls ms e
at_later n l m ls ms true e rest = record {
  place = suc rest.place;
  level = rest.level;
  there = rest.there;
  outside = omega (arith, rest.outside);
  of_all = ap (λ (b : Bool). cond b (seen_copy ls ms) (Some l.copy)) e ∙ rest.of_all;
  of_cut = ap (λ (b : Bool). cond b (seen_copy (take (suc n) ls) ms) (Some l.copy)) e ∙ rest.of_cut;
}

-- two levels of number n that are of no one conversation
abbrev pub AreApart : {C : Type 0} → ℕ → List (Level C) → List (Level C) → Type 0
AreApart n ls ms = (c : ℕ) → IsLevelOf c ls n → IsLevelOf c ms n → ⊥

not_shared : {C : Type 0} (l m : Level C) (ls ms : List (Level C)) (b : Bool) → is_shared l.facts.conversation m.facts.conversation ≡ b
    → AreApart 0 (l ∷ ls) (m ∷ ms) → b ≡ false
not_shared l m ls ms false e apart = refl
not_shared l m ls ms true e apart =
    let both = shared_of l.facts.conversation m.facts.conversation e in
    absurd (apart both.0 (record { level = l; there = refl; of_it = both.1 }) (record { level = m; there = refl; of_it = both.2 }))

-- where the levels of number n are not of one conversation, what is seen lies at or outside it
seen_outside : {C : Type 0} (n : ℕ) (ls ms : List (Level C)) (level : Level C) → slice_get ls n ≡ Some level
    → AreApart n ls ms → IsSeenOutside n ls ms
seen_outside n [] ms level e apart = absurd (none_some e)
seen_outside n (l ∷ ls) [] level e apart = record { place = 0; level = l; there = refl; outside = omega arith; of_all = refl; of_cut = refl }
seen_outside zero (l ∷ ls) (m ∷ ms) level e apart =
    at_first 0 l m ls ms
    (not_shared l m ls ms (is_shared l.facts.conversation m.facts.conversation) refl apart)
seen_outside (suc n) (l ∷ ls) (m ∷ ms) level e apart =
    at_later n l m ls ms (is_shared l.facts.conversation m.facts.conversation) refl
    (seen_outside n ls ms level e
    (λ c a b. apart c (record { level = a.level; there = a.there; of_it = a.of_it }) (record { level = b.level; there = b.there; of_it = b.of_it })))

-- As many messages are seen in a state s2 as in s, and the same ones, and they were sent in s2.
pub record SeesSame {S E P : Type 0} (x : Parts S E P) (c : ℕ) (s : S) (copy : Option S) (s2 : S) (point : Option P) : Type 0 where
  pub count : seen_count (plain x) s2 point c ≡ seen_count (whole x) s copy c
  pub same : (i : ℕ) → i < seen_count (whole x) s copy c → seen_message (plain x) tt s2 point c i ≡ seen_message (whole x) tt s copy c i
  pub sent : seen_count (whole x) s copy c ≤ x.sent s2 c

module _ {S E P : Type 0} (x : Parts S E P) (Known : ℕ → Process S S → Type 0) (laws : IsErasable x Known) where
  seen_plain : (ls ms : List (Level S)) → seen_copy (plain_levels x ls) (plain_levels x ms) ≡ option_map x.point (seen_copy ls ms)
  seen_plain [] ms = refl
  seen_plain (l ∷ ls) [] = refl
  seen_plain (l ∷ ls) (m ∷ ms) = further (is_shared l.facts.conversation m.facts.conversation) (seen_plain ls ms)
    where
      further : (b : Bool) → seen_copy (plain_levels x ls) (plain_levels x ms) ≡ option_map x.point (seen_copy ls ms)
          → cond b (seen_copy (plain_levels x ls) (plain_levels x ms)) (Some (x.point l.copy))
          ≡ option_map x.point (cond b (seen_copy ls ms) (Some l.copy))
      further true e = e
      further false e = refl

  sees_now : (c : ℕ) (s : S) → SeesSame x c s None s None
  sees_now c s = record { count = refl; same = λ i less. refl; sent = le_refl (x.sent s c) }

  sees_copy : (c : ℕ) (s copy s2 : S) → IsFront x copy s2 → SeesSame x c s (Some copy) s2 (Some (x.point copy))
  sees_copy c s copy s2 front = record {
    count = laws.point_sent copy c;
    same = λ i less. front.same c i less;
    sent = front.shorter c;
  }

  -- a state with levels in which nothing was done
  sees_first : (c : ℕ) (s : S) (point : P) → point ≡ x.point s → SeesSame x c s None s (Some point)
  sees_first c s point e = record {
    count = ap (λ (one : P). x.point_sent one c) e ∙ laws.point_sent s c;
    same = λ i less. refl;
    sent = le_refl (x.sent s c);
  }

  sees_own : (c : ℕ) (s : S) (ls ms : List (Level P)) → AreOwn x s ls → SeesSame x c s None s (seen_copy ls ms)
  sees_own c s [] ms own = sees_now c s
  sees_own c s (l ∷ ls) [] own = sees_first c s l.copy own.0
  sees_own c s (l ∷ ls) (m ∷ ms) own = further (is_shared l.facts.conversation m.facts.conversation) (sees_own c s ls ms own.1)
    where
      further : (b : Bool) → SeesSame x c s None s (seen_copy ls ms) → SeesSame x c s None s (cond b (seen_copy ls ms) (Some l.copy))
      further true rest = rest
      further false rest = sees_first c s l.copy own.0

  -- a sender that is shown as it is
  sees_all : (c r : ℕ) (q : Process S S) (ms : List (Level S)) → IsGrounded x Known r q
      → SeesSame x c q.state (seen_copy q.levels ms) q.state (seen_copy (plain_levels x q.levels) (plain_levels x ms))
  sees_all c r q ms ground =
      subst (SeesSame x c q.state (seen_copy q.levels ms) q.state) (sym (seen_plain q.levels ms)) (by (seen_place q.levels ms))
    where
      by : (seen_copy q.levels ms ≡ None)
          ⊎ ((i : ℕ) × (level : Level S) × (slice_get q.levels i ≡ Some level) × (seen_copy q.levels ms ≡ Some level.copy))
          → SeesSame x c q.state (seen_copy q.levels ms) q.state (option_map x.point (seen_copy q.levels ms))
      by (inl e) = subst (λ (o : Option S). SeesSame x c q.state o q.state (option_map x.point o)) (sym e) (sees_now c q.state)
      by (inr (i, level, there, e)) =
          subst (λ (o : Option S). SeesSame x c q.state o q.state (option_map x.point o)) (sym e)
          (sees_copy c q.state level.copy q.state (ground.before_now i level there))

  -- a sender that is shown at an older level
  sees_cut : (c r n : ℕ) (q : Process S S) (level : Level S) (ms : List (Level S)) → IsGrounded x Known r q → slice_get q.levels n ≡ Some level
      → AreApart n q.levels ms
      → SeesSame x c q.state (seen_copy q.levels ms) level.copy (seen_copy (plain_levels x (take (suc n) q.levels)) (plain_levels x ms))
  sees_cut c r n q level ms ground there apart =
      let seen = seen_outside n q.levels ms level there apart in
      subst₂ (λ (o : Option S) (point : Option P). SeesSame x c q.state o level.copy point) (sym seen.of_all)
      (sym (seen_plain (take (suc n) q.levels) ms ∙ ap (option_map x.point) seen.of_cut))
      (sees_copy c q.state seen.level.copy level.copy (ground.in_order seen.place n seen.level level seen.outside seen.there there))

  sees_at : (c r n : ℕ) (q : Process S S) (ms : List (Level S)) → IsGrounded x Known r q → AreApart n q.levels ms
      → (level : Option (Level S)) → slice_get q.levels n ≡ level
      → SeesSame x c q.state (seen_copy q.levels ms) (shown_at x n q level).state (seen_copy (shown_at x n q level).levels (plain_levels x ms))
  sees_at c r n q ms ground apart None e = sees_all c r q ms ground
  sees_at c r n q ms ground apart (Some level) e =
      subst (λ (m : ℕ). SeesSame x c q.state (seen_copy q.levels ms) level.copy (seen_copy (plain_levels x (take m q.levels)) (plain_levels x ms)))
      (sym (add-one n)) (sees_cut c r n q level ms ground e apart)

  sees_lost : (c : ℕ) (s s2 : S) (qs ms : List (Level S)) (us : List (Level P)) → qs ≡ [] → s2 ≡ s → AreOwn x s us
      → SeesSame x c s (seen_copy qs ms) s2 (seen_copy us (plain_levels x ms))
  sees_lost c s s2 qs ms us none same own =
      subst₂ (λ (one : S) (ls : List (Level S)). SeesSame x c s (seen_copy ls ms) one (seen_copy us (plain_levels x ms))) (sym same) (sym none)
      (sees_own c s us (plain_levels x ms) own)

  -- whoever is shown
  pub sees_shown : (c r n : ℕ) (q : Process S S) (u : Process S P) (ms : List (Level S)) → IsGrounded x Known r q → AreApart n q.levels ms
      → ShowsOne x n q u → SeesSame x c q.state (seen_copy q.levels ms) u.state (seen_copy u.levels (plain_levels x ms))
  sees_shown c r n q u ms ground apart (Alive alive e) =
      subst (λ (one : Process S P). SeesSame x c q.state (seen_copy q.levels ms) one.state (seen_copy one.levels (plain_levels x ms))) (sym e)
      (sees_at c r n q ms ground apart (slice_get q.levels n) refl)
  sees_shown c r n q u ms ground apart (Lost failed state line own) =
      sees_lost c q.state u.state q.levels ms u.levels (ground.bare failed) state own
