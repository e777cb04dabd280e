-- Worlds that a cut shows: looked up, and changed on one side or on both.
use Rattle.std.proofs.Common.{◌≡◌, ◌≢◌, ℕ, zero, suc, pred, List, [], ◌∷◌, length, map, slice_get, Some, refl, sym, ap, subst, suc-ne-zero}
use Rattle.rb_world.specs.World.{Process, change_at}
use Rattle.rb_world.proofs.Erasing.ErasableKinds.{Parts}
use Rattle.rb_world.proofs.Erasing.Showing.Cuts.{ShowsOne, Shows}
use Rattle.rb_world.proofs.ListFacts.{none_some, some_same}

-- the process that a cut shows
pub record IsShown {S E P : Type 0} (x : Parts S E P) (n r : ℕ) (q : Process S S) (us : List (Process S P)) : Type 0 where
  pub process : Process S P
  pub there : slice_get us r ≡ Some process
  pub shows : ShowsOne x n q process

-- the process that is shown
pub record Showing {S E P : Type 0} (x : Parts S E P) (n r : ℕ) (u : Process S P) (qs : List (Process S S)) : Type 0 where
  pub process : Process S S
  pub there : slice_get qs r ≡ Some process
  pub shows : ShowsOne x n process u

module _ {S E P : Type 0} (x : Parts S E P) where
  -- who is shown in the place of a process
  pub get_shown : (f : ℕ → ℕ) (r : ℕ) (qs : List (Process S S)) (us : List (Process S P)) (q : Process S S) → Shows x f qs us
      → slice_get qs r ≡ Some q → IsShown x (f r) r q us
  get_shown f r [] us q shows e = absurd (none_some e)
  get_shown f r (q ∷ qs) [] a shows e = absurd shows
  get_shown f zero (q ∷ qs) (u ∷ us) a shows e = record {
    process = u;
    there = refl;
    shows = subst (λ (z : Process S S). ShowsOne x (f zero) z u) (some_same e) shows.0;
  }
  get_shown f (suc r) (q ∷ qs) (u ∷ us) a shows e =
      let found = get_shown (λ n. f (suc n)) r qs us a shows.1 e in
      record { process = found.process; there = found.there; shows = found.shows }

  -- whom a shown process stands for
  pub get_showing : (f : ℕ → ℕ) (r : ℕ) (qs : List (Process S S)) (us : List (Process S P)) (u : Process S P) → Shows x f qs us
      → slice_get us r ≡ Some u → Showing x (f r) r u qs
  get_showing f r [] [] u shows e = absurd (none_some e)
  get_showing f r [] (v ∷ us) u shows e = absurd shows
  get_showing f r (q ∷ qs) [] u shows e = absurd shows
  get_showing f zero (q ∷ qs) (u ∷ us) a shows e = record {
    process = q;
    there = refl;
    shows = subst (λ (z : Process S P). ShowsOne x (f zero) q z) (some_same e) shows.0;
  }
  get_showing f (suc r) (q ∷ qs) (u ∷ us) a shows e =
      let found = get_showing (λ n. f (suc n)) r qs us a shows.1 e in
      record { process = found.process; there = found.there; shows = found.shows }

  pub length_shown : (f : ℕ → ℕ) (qs : List (Process S S)) (us : List (Process S P)) → Shows x f qs us → length us ≡ length qs
  length_shown f [] [] shows = refl
  length_shown f [] (u ∷ us) shows = absurd shows
  length_shown f (q ∷ qs) [] shows = absurd shows
  length_shown f (q ∷ qs) (u ∷ us) shows = ap suc (length_shown (λ n. f (suc n)) qs us shows.1)

  -- the same worlds, and another cut
  pub recut : (f g : ℕ → ℕ) (qs : List (Process S S)) (us : List (Process S P))
      → ((r : ℕ) (q : Process S S) (u : Process S P) → slice_get qs r ≡ Some q → slice_get us r ≡ Some u
      → ShowsOne x (f r) q u → ShowsOne x (g r) q u)
      → Shows x f qs us → Shows x g qs us
  recut f g [] [] one shows = tt
  recut f g [] (u ∷ us) one shows = absurd shows
  recut f g (q ∷ qs) [] one shows = absurd shows
  recut f g (q ∷ qs) (u ∷ us) one shows =
      (one zero q u refl refl shows.0, recut (λ n. f (suc n)) (λ n. g (suc n)) qs us (λ r. one (suc r)) shows.1)

  -- every process is changed on both sides, and another cut is shown
  pub map_shown : (f g : ℕ → ℕ) (F : Process S S → Process S S) (G : Process S P → Process S P) (qs : List (Process S S)) (us : List (Process S P))
      → ((r : ℕ) (q : Process S S) (u : Process S P) → slice_get qs r ≡ Some q → slice_get us r ≡ Some u
      → ShowsOne x (f r) q u → ShowsOne x (g r) (F q) (G u))
      → Shows x f qs us → Shows x g (map F qs) (map G us)
  map_shown f g F G [] [] one shows = tt
  map_shown f g F G [] (u ∷ us) one shows = absurd shows
  map_shown f g F G (q ∷ qs) [] one shows = absurd shows
  map_shown f g F G (q ∷ qs) (u ∷ us) one shows =
      (one zero q u refl refl shows.0, map_shown (λ n. f (suc n)) (λ n. g (suc n)) F G qs us (λ r. one (suc r)) shows.1)

  -- every process is changed, and the same plain world shows another cut
  pub map_left_shown : (f g : ℕ → ℕ) (F : Process S S → Process S S) (qs : List (Process S S)) (us : List (Process S P))
      → ((r : ℕ) (q : Process S S) (u : Process S P) → slice_get qs r ≡ Some q → slice_get us r ≡ Some u
      → ShowsOne x (f r) q u → ShowsOne x (g r) (F q) u)
      → Shows x f qs us → Shows x g (map F qs) us
  map_left_shown f g F [] [] one shows = tt
  map_left_shown f g F [] (u ∷ us) one shows = absurd shows
  map_left_shown f g F (q ∷ qs) [] one shows = absurd shows
  map_left_shown f g F (q ∷ qs) (u ∷ us) one shows =
      (one zero q u refl refl shows.0, map_left_shown (λ n. f (suc n)) (λ n. g (suc n)) F qs us (λ r. one (suc r)) shows.1)

  -- process p is changed on both sides, and another cut is shown
  pub change_shown : (f g : ℕ → ℕ) (p : ℕ) (F : Process S S → Process S S) (G : Process S P → Process S P)
      (qs : List (Process S S)) (us : List (Process S P))
      → ((r : ℕ) (q : Process S S) (u : Process S P) → r ≢ p → slice_get qs r ≡ Some q → slice_get us r ≡ Some u
      → ShowsOne x (f r) q u → ShowsOne x (g r) q u)
      → ((q : Process S S) (u : Process S P) → slice_get qs p ≡ Some q → slice_get us p ≡ Some u → ShowsOne x (f p) q u
      → ShowsOne x (g p) (F q) (G u))
      → Shows x f qs us → Shows x g (change_at p F qs) (change_at p G us)
  change_shown f g p F G [] [] others one shows = tt
  change_shown f g p F G [] (u ∷ us) others one shows = absurd shows
  change_shown f g p F G (q ∷ qs) [] others one shows = absurd shows
  change_shown f g zero F G (q ∷ qs) (u ∷ us) others one shows =
      (one q u refl refl shows.0, recut (λ n. f (suc n)) (λ n. g (suc n)) qs us (λ r a b. others (suc r) a b (suc-ne-zero r)) shows.1)
  change_shown f g (suc p) F G (q ∷ qs) (u ∷ us) others one shows = (
    others zero q u (λ z. suc-ne-zero p (sym z)) refl refl shows.0,
    change_shown (λ n. f (suc n)) (λ n. g (suc n)) p F G qs us (λ r a b ne. others (suc r) a b (λ z. ne (ap pred z))) one shows.1,
  )

  -- process p is changed, and the same plain world shows another cut
  pub change_left_shown : (f g : ℕ → ℕ) (p : ℕ) (F : Process S S → Process S S) (qs : List (Process S S)) (us : List (Process S P))
      → ((r : ℕ) (q : Process S S) (u : Process S P) → r ≢ p → slice_get qs r ≡ Some q → slice_get us r ≡ Some u
      → ShowsOne x (f r) q u → ShowsOne x (g r) q u)
      → ((q : Process S S) (u : Process S P) → slice_get qs p ≡ Some q → slice_get us p ≡ Some u → ShowsOne x (f p) q u → ShowsOne x (g p) (F q) u)
      → Shows x f qs us → Shows x g (change_at p F qs) us
  change_left_shown f g p F [] [] others one shows = tt
  change_left_shown f g p F [] (u ∷ us) others one shows = absurd shows
  change_left_shown f g p F (q ∷ qs) [] others one shows = absurd shows
  change_left_shown f g zero F (q ∷ qs) (u ∷ us) others one shows =
      (one q u refl refl shows.0, recut (λ n. f (suc n)) (λ n. g (suc n)) qs us (λ r a b. others (suc r) a b (suc-ne-zero r)) shows.1)
  change_left_shown f g (suc p) F (q ∷ qs) (u ∷ us) others one shows = (
    others zero q u (λ z. suc-ne-zero p (sym z)) refl refl shows.0,
    change_left_shown (λ n. f (suc n)) (λ n. g (suc n)) p F qs us (λ r a b ne. others (suc r) a b (λ z. ne (ap pred z))) one shows.1,
  )
