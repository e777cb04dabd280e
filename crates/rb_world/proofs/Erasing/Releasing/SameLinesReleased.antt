-- The end of a turn in worlds that a cut shows: both sides release the same lines, and the cut is still shown.
use Rattle.std.proofs.Common.{◌≡◌, ℕ, zero, suc, ◌+◌, false, List, [], ◌∷◌, map, slice_get, take, Option, Some, None, refl, sym, ap, ap₂, ◌∙◌, subst, add-one}
use Rattle.rb_world.specs.World.{Level, Process}
use Rattle.rb_world.specs.Turn.{freed, lines_freed, state_freed}
use Rattle.rb_world.specs.Standing.{Each}
use Rattle.rb_world.proofs.ListFacts.{none_some, some_same}
use Rattle.rb_world.proofs.Erasing.ErasableKinds.{Parts, whole, plain, IsErasable}
use Rattle.rb_world.proofs.Erasing.Showing.Cuts.{plain_levels, shown_at, AreOwn, ShowsOne, Alive, Lost, Shows}
use Rattle.rb_world.proofs.Erasing.Showing.ErasureInvariant.{IsGrounded, IsQuiet}
use Rattle.rb_world.proofs.Erasing.Showing.ShownWorlds.{map_shown}

-- what is looked up in a list that was mapped
pub record IsImageAt {A B : Type 0} (f : A → B) (xs : List A) (r : ℕ) (y : B) : Type 0 where
  pub origin : A
  pub there : slice_get xs r ≡ Some origin
  pub same : f origin ≡ y

pub get_mapped : {A B : Type 0} (f : A → B) (xs : List A) (r : ℕ) (y : B) → slice_get (map f xs) r ≡ Some y → IsImageAt f xs r y
get_mapped f [] r y e = absurd (none_some e)
get_mapped f (x ∷ xs) zero y e = record { origin = x; there = refl; same = some_same e }
get_mapped f (x ∷ xs) (suc r) y e =
    let found = get_mapped f xs r y e in record { origin = found.origin; there = found.there; same = found.same }

-- where nothing changes
pub map_same : {A : Type 0} (f : A → A) (xs : List A) → Each (λ _ x. f x ≡ x) xs → map f xs ≡ xs
map_same {A} f [] same = refl
map_same {A} f (x ∷ xs) same = ap₂ (λ (y : A) (ys : List A). y ∷ ys) (same 0 x refl) (map_same f xs (λ r. same (suc r)))

module _ {S E P : Type 0} {x : Parts S E P} {Known : ℕ → Process S S → Type 0} (laws : IsErasable x Known) where
  -- Where nobody has a line to release, nothing changes.
  state_freed_same : (s : S) (levels : List (Level S)) → (levels ≡ [] → x.held s ≡ []) → state_freed (whole x) s levels ≡ s
  state_freed_same s [] quiet = laws.releases_none s (quiet refl)
  state_freed_same s (l ∷ levels) quiet = refl

  freed_same : (r : ℕ) (q : Process S S) → IsQuiet x r q → freed (whole x) q ≡ q
  freed_same r q quiet =
      ap (λ (s : S). record { state = s; levels = q.levels; at_line = q.at_line; status = q.status }) (state_freed_same q.state q.levels quiet)

  pub all_freed_same : (qs : List (Process S S)) → Each (IsQuiet x) qs → map (freed (whole x)) qs ≡ qs
  all_freed_same qs quiet = map_same (freed (whole x)) qs (λ r q e. freed_same r q (quiet r q e))

  lines_freed_none : (s : S) (levels : List (Level S)) → (levels ≡ [] → x.held s ≡ []) → lines_freed (whole x) s levels ≡ []
  lines_freed_none s [] quiet = quiet refl
  lines_freed_none s (l ∷ levels) quiet = refl

  pub all_lines_freed_none : (qs : List (Process S S)) → Each (IsQuiet x) qs
      → Each (λ _ lines. lines ≡ []) (map (λ q. lines_freed (whole x) q.state q.levels) qs)
  all_lines_freed_none [] quiet r lines e = absurd (none_some e)
  all_lines_freed_none (q ∷ qs) quiet zero lines e = sym (some_same e) ∙ lines_freed_none q.state q.levels (quiet 0 q refl)
  all_lines_freed_none (q ∷ qs) quiet (suc r) lines e = all_lines_freed_none qs (λ n. quiet (suc n)) r lines e

  -- What a process that is shown releases.
  present_lines : (s : S) (levels : List (Level S)) → lines_freed (plain x) s (plain_levels x levels) ≡ lines_freed (whole x) s levels
  present_lines s [] = refl
  present_lines s (l ∷ levels) = refl

  present_state : (s : S) (levels : List (Level S)) → state_freed (plain x) s (plain_levels x levels) ≡ state_freed (whole x) s levels
  present_state s [] = refl
  present_state s (l ∷ levels) = refl

  -- whoever is shown at a level has one, on both sides
  level_lines : (n : ℕ) (s t : S) (level : Level S) (levels : List (Level S)) → slice_get levels n ≡ Some level
      → lines_freed (plain x) t (plain_levels x (take (suc n) levels)) ≡ lines_freed (whole x) s levels
  level_lines n s t level [] e = absurd (none_some e)
  level_lines n s t level (l ∷ levels) e = refl

  level_state : (n : ℕ) (t : S) (level : Level S) (levels : List (Level S)) → slice_get levels n ≡ Some level
      → state_freed (plain x) t (plain_levels x (take (suc n) levels)) ≡ t
  level_state n t level [] e = absurd (none_some e)
  level_state n t level (l ∷ levels) e = refl

  shown_lines : (n : ℕ) (q : Process S S) (level : Option (Level S)) → slice_get q.levels n ≡ level
      → lines_freed (plain x) (shown_at x n q level).state (shown_at x n q level).levels ≡ lines_freed (whole x) q.state q.levels
  shown_lines n q None e = present_lines q.state q.levels
  shown_lines n q (Some level) e =
      ap (λ (m : ℕ). lines_freed (plain x) level.copy (plain_levels x (take m q.levels))) (add-one n)
      ∙ level_lines n q.state level.copy level q.levels e

  lost_lines : (s : S) (levels : List _) → x.held s ≡ [] → lines_freed (plain x) s levels ≡ []
  lost_lines s [] none = none
  lost_lines s (l ∷ levels) none = refl

  one_lines : (r n : ℕ) (q : Process S S) (u : Process S P) → IsGrounded x Known r q → ShowsOne x n q u
      → lines_freed (plain x) u.state u.levels ≡ lines_freed (whole x) q.state q.levels
  one_lines r n q u h (Alive alive e) =
      ap (λ (v : Process S P). lines_freed (plain x) v.state v.levels) e ∙ shown_lines n q (slice_get q.levels n) refl
  one_lines r n q u h (Lost failed same line own) =
      ap (λ (s : S). lines_freed (plain x) s u.levels) same ∙ lost_lines q.state u.levels (h.lost failed)
      ∙ sym (ap (lines_freed (whole x) q.state) (h.bare failed) ∙ h.lost failed)

  pub lines_shown : (Ground : ℕ → Process S S → Type 0) (f : ℕ → ℕ) (qs : List (Process S S)) (us : List (Process S P))
      → ((r n : ℕ) (q : Process S S) (u : Process S P) → Ground r q → ShowsOne x n q u
      → lines_freed (plain x) u.state u.levels ≡ lines_freed (whole x) q.state q.levels)
      → Each Ground qs → Shows x f qs us
      → map (λ (u : Process S P). lines_freed (plain x) u.state u.levels) us ≡ map (λ (q : Process S S). lines_freed (whole x) q.state q.levels) qs
  lines_shown Ground f [] [] one each shows = refl
  lines_shown Ground f [] (u ∷ us) one each shows = absurd shows
  lines_shown Ground f (q ∷ qs) [] one each shows = absurd shows
  lines_shown Ground f (q ∷ qs) (u ∷ us) one each shows =
      ap₂ (λ (lines : List (List ℕ)) (others : List (List (List ℕ))). lines ∷ others) (one 0 (f zero) q u (each 0 q refl) shows.0)
      (lines_shown (λ r. Ground (suc r)) (λ r. f (suc r)) qs us (λ r. one (suc r)) (λ r. each (suc r)) shows.1)

  pub all_lines_shown : (f : ℕ → ℕ) (qs : List (Process S S)) (us : List (Process S P)) → Each (IsGrounded x Known) qs → Shows x f qs us
      → map (λ (u : Process S P). lines_freed (plain x) u.state u.levels) us ≡ map (λ (q : Process S S). lines_freed (whole x) q.state q.levels) qs
  all_lines_shown f qs us each shows = lines_shown (IsGrounded x Known) f qs us one_lines each shows

  -- And the cut is still shown.
  shown_freed : (n : ℕ) (q : Process S S) (level : Option (Level S)) → slice_get q.levels n ≡ level
      → freed (plain x) (shown_at x n q level) ≡ shown_at x n (freed (whole x) q) level
  shown_freed n q None e =
      ap (λ (s : S). record { state = s; levels = plain_levels x q.levels; at_line = q.at_line; status = q.status }) (present_state q.state q.levels)
  shown_freed n q (Some level) e =
      ap (λ (s : S). record { state = s; levels = plain_levels x (take (n + 1) q.levels); at_line = false; status = q.status })
      (ap (λ (m : ℕ). state_freed (plain x) level.copy (plain_levels x (take m q.levels))) (add-one n)
      ∙ level_state n level.copy level q.levels e)

  lost_state : (s : S) (levels : List (Level P)) → x.held s ≡ [] → state_freed (plain x) s levels ≡ s
  lost_state s [] none = laws.releases_none s none
  lost_state s (l ∷ levels) none = refl

  freed_shown : (r n : ℕ) (q : Process S S) (u : Process S P) → IsGrounded x Known r q → ShowsOne x n q u
      → ShowsOne x n (freed (whole x) q) (freed (plain x) u)
  freed_shown r n q u h (Alive alive e) = Alive alive (ap (freed (plain x)) e ∙ shown_freed n q (slice_get q.levels n) refl)
  freed_shown r n q u h (Lost failed same line own) =
      let stays : state_freed (whole x) q.state q.levels ≡ q.state = state_freed_same q.state q.levels (λ _. h.lost failed) in
      Lost failed (ap (λ (s : S). state_freed (plain x) s u.levels) same ∙ lost_state q.state u.levels (h.lost failed) ∙ sym stays) line
      (subst (λ (s : S). AreOwn x s u.levels) (sym stays) own)

  pub all_freed_shown : (f : ℕ → ℕ) (qs : List (Process S S)) (us : List (Process S P)) → Each (IsGrounded x Known) qs → Shows x f qs us
      → Shows x f (map (freed (whole x)) qs) (map (freed (plain x)) us)
  all_freed_shown f qs us each shows =
      map_shown x f f (freed (whole x)) (freed (plain x)) qs us (λ r q u e _ one. freed_shown r (f r) q u (each r q e) one) shows
