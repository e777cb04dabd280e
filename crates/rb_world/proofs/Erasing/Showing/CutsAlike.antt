-- What a cut does not see: which alternate a level tries, and how many turns it has used. Worlds that differ in nothing else
-- show the same cuts.
use Rattle.std.proofs.Common.{◌≡◌, ℕ, ◌+◌, false, List, [], ◌∷◌, map, take, option_map, slice_get, Option, Some, None, refl, sym, ap, ◌∙◌, subst}
use Rattle.std.proofs.lemmas.List.{take-map}
use Rattle.std.proofs.lemmas.Option.{slice_get-map}
use Rattle.rb_world.specs.World.{Level, Process, World}
use Rattle.rb_world.specs.Standing.{is_failed}
use Rattle.rb_world.specs.Nested.{IsLevelOf}
use Rattle.rb_world.specs.Turn.{Told}
use Rattle.rb_world.proofs.Erasing.ErasableKinds.{Nothing, Parts}
use Rattle.rb_world.proofs.Erasing.Showing.Cuts.{plain_levels, shown_at, shown, AreOwn, ShowsOne, Alive, Lost}
use Rattle.rb_world.proofs.Erasing.Showing.ErasureInvariant.{ShowsCut, AllShown}
use Rattle.rb_world.proofs.Erasing.Showing.OtherProcessesInCuts.{IsChanged, changed_there, shows_changed}
use Rattle.rb_world.proofs.ListFacts.{none_some, some_same}

-- a level without its alternate and its turns
abbrev pub unmarked_level : {C : Type 0} → Level C → Level C
unmarked_level level = record { facts = level.facts; alternate = 0; used = 0; copy = level.copy }

-- a process without the alternates and the turns of its levels
abbrev pub unmarked : {S C : Type 0} → Process S C → Process S C
unmarked q = record { state = q.state; levels = map unmarked_level q.levels; at_line = q.at_line; status = q.status }

plain_unmarked : {S E P : Type 0} (x : Parts S E P) (levels : List (Level S)) → plain_levels x (map unmarked_level levels) ≡ plain_levels x levels
plain_unmarked x [] = refl
plain_unmarked {P = P} x (level ∷ levels) =
    ap (λ (ls : List (Level P)). record { facts = level.facts; alternate = 0; used = 0; copy = x.point level.copy } ∷ ls)
    (plain_unmarked x levels)

shown_at_unmarked : {S E P : Type 0} (x : Parts S E P) (n : ℕ) (q : Process S S) (level : Option (Level S))
    → shown_at x n (unmarked q) (option_map unmarked_level level) ≡ shown_at x n q level
shown_at_unmarked {P = P} x n q None =
    ap (λ (ls : List (Level P)). record { state = q.state; levels = ls; at_line = q.at_line; status = q.status }) (plain_unmarked x q.levels)
shown_at_unmarked x n q (Some level) =
    ap (λ ls. record { state = level.copy; levels = ls; at_line = false; status = q.status })
    (ap (plain_levels x) (take-map unmarked_level (n + 1) q.levels) ∙ plain_unmarked x (take (n + 1) q.levels))

-- a process is shown as it is without them
pub shown_unmarked : {S E P : Type 0} (x : Parts S E P) (n : ℕ) (q : Process S S) → shown x n (unmarked q) ≡ shown x n q
shown_unmarked x n q = ap (shown_at x n (unmarked q)) (slice_get-map unmarked_level q.levels n) ∙ shown_at_unmarked x n q (slice_get q.levels n)

-- two processes that differ in nothing else are shown alike
pub shows_alike : {S E P : Type 0} (x : Parts S E P) (n : ℕ) (q q' : Process S S) (u : Process S P)
    → unmarked q' ≡ unmarked q → ShowsOne x n q u → ShowsOne x n q' u
shows_alike {S = S} x n q q' u same (Alive whole is) =
    Alive (ap (λ (z : Process S S). is_failed z.status) same ∙ whole)
    (is ∙ (sym (shown_unmarked x n q) ∙ (ap (shown x n) (sym same) ∙ shown_unmarked x n q')))
shows_alike {S = S} x n q q' u same (Lost failed is away own) =
    Lost (ap (λ (z : Process S S). is_failed z.status) same ∙ failed) (is ∙ ap (λ (z : Process S S). z.state) (sym same)) away
    (subst (λ (s : S). AreOwn x s u.levels) (ap (λ (z : Process S S). z.state) (sym same)) own)

-- the level that is the same without them
marked_there : {C : Type 0} (level : Level C) (found : Option (Level C)) → option_map unmarked_level found ≡ Some (unmarked_level level)
    → (other : Level C) × (found ≡ Some other) × (other.facts ≡ level.facts)
marked_there level None e = absurd (none_some e)
marked_there {C} level (Some other) e = (other, refl, ap (λ (l : Level C). l.facts) (some_same e))

level_alike : {C : Type 0} (c i : ℕ) (levels others : List (Level C)) → map unmarked_level others ≡ map unmarked_level levels
    → IsLevelOf c levels i → IsLevelOf c others i
level_alike {C} c i levels others same at =
    let found = marked_there at.level (slice_get others i)
    (sym (slice_get-map unmarked_level others i) ∙ (ap (λ (ls : List (Level C)). slice_get ls i) same
    ∙ (slice_get-map unmarked_level levels i ∙ ap (option_map unmarked_level) at.there))) in
    record { level = found.0; there = found.1; of_it = ap (λ f. f.conversation) found.2 ∙ at.of_it }

module _ {S E P : Type 0} (x : Parts S E P) (start : World S P Nothing) where
  -- so worlds whose processes differ in nothing else show the same cuts
  pub all_shown_alike : (t : ℕ) (past : List Told) (w v : World S S Nothing) (F : ℕ → Process S S → Process S S) → IsChanged F w.processes v.processes
      → ((r : ℕ) (q : Process S S) → slice_get w.processes r ≡ Some q → unmarked (F r q) ≡ unmarked q)
      → AllShown x start t past w → AllShown x start t past v
  all_shown_alike t past w v F changed alike all f consistent =
      let old : ShowsCut x start t past w f = all f
      (λ r other c j q q' at there of_c of_other. consistent r other c j (F r q) (F other q')
      (changed_there F w.processes v.processes r q changed at) (changed_there F w.processes v.processes other q' changed there)
      (level_alike c (f r) q.levels (F r q).levels (ap (λ (z : Process S S). z.levels) (alike r q at)) of_c)
      (level_alike c j q'.levels (F other q').levels (ap (λ (z : Process S S). z.levels) (alike other q' there)) of_other)) in
      record {
        world = old.world;
        shows = shows_changed x f f F w.processes v.processes old.world.processes changed
            (λ r q u at. shows_alike x (f r) q (F r q) u (alike r q at)) old.shows;
        erased = old.erased;
      }
