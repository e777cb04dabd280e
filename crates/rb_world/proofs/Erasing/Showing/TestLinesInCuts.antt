-- Test lines in a world that a cut shows: who stands there stands in the world too, and all stand there only if all do.
use Rattle.std.proofs.Common.{◌≡◌, ℕ, nat_eq, Bool, true, false, true≢false, ◌&&◌, ◌||◌, List, [], ◌∷◌, slice_get, Option, Some, None, refl, sym, ap, ap₂, ◌∙◌, eqb-true}
use Rattle.std.specs.Option.{option_map}
use Rattle.std.specs.List.{list_all, list_any}
use Rattle.rb_world.specs.World.{Level, Process, World, last_of}
use Rattle.rb_world.specs.Turn.{all_stand, is_last_of, members_of, stands_at, stands_there}
use Rattle.rb_world.proofs.ListFacts.{first_holds, second_holds}
use Rattle.rb_world.proofs.Erasing.ErasableKinds.{Nothing, Parts, whole, plain}
use Rattle.rb_world.proofs.Erasing.Showing.Cuts.{plain_level, shown_at, ShowsOne, Alive, Lost, Shows}
use Rattle.rb_world.proofs.Erasing.Showing.ShownWorlds.{get_showing}
use Rattle.rb_world.proofs.Erasing.Stepping.PresentProcess.{as_is}
use Rattle.rb_world.proofs.LastLevels.{last_of-map}

-- one test of all members implies another
pub list_all_implied : (one other : ℕ → Bool) (ms : List ℕ) → ((m : ℕ) → one m ≡ true → other m ≡ true)
    → list_all one ms ≡ true → list_all other ms ≡ true
list_all_implied one other [] implies all = refl
list_all_implied one other (m ∷ ms) implies all =
    ap₂ (λ (a b : Bool). a && b) (implies m (first_holds (one m) (list_all one ms) all))
    (list_all_implied one other ms implies (second_holds (one m) (list_all one ms) all))

-- what holds of all members holds of one
pub list_all_member : (one : ℕ → Bool) (ms : List ℕ) (p : ℕ) → list_all one ms ≡ true → list_any (nat_eq p) ms ≡ true → one p ≡ true
list_all_member one [] p all any = absurd (true≢false (sym any))
list_all_member one (m ∷ ms) p all any =
    at_head (nat_eq p m) refl any (λ later. list_all_member one ms p (second_holds (one m) (list_all one ms) all) later)
  where
    at_head : (here : Bool) → nat_eq p m ≡ here → (here || list_any (nat_eq p) ms) ≡ true
        → (list_any (nat_eq p) ms ≡ true → one p ≡ true) → one p ≡ true
    at_head true e any' rest = ap one (eqb-true p m e) ∙ first_holds (one m) (list_all one ms) all
    at_head false e any' rest = rest any'

module _ {S E P : Type 0} (x : Parts S E P) where
  last_shown : (c : ℕ) (level : Option (Level S)) → is_last_of c (option_map (plain_level x) level) ≡ is_last_of c level
  last_shown c None = refl
  last_shown c (Some level) = refl

  -- who is shown as it is stands where it stands
  pub present_stands : (c : ℕ) (q : Process S S) → stands_at c (as_is x q) ≡ stands_at c q
  present_stands c q = ap (λ (b : Bool). q.at_line && b) (ap (is_last_of c) (last_of-map (plain_level x) q.levels) ∙ last_shown c (last_of q.levels))

  -- who stands in what is shown stands in the world
  stands_shown_at : (n c : ℕ) (q : Process S S) (level : Option (Level S)) → stands_at c (shown_at x n q level) ≡ true → stands_at c q ≡ true
  stands_shown_at n c q None e = sym (present_stands c q) ∙ e
  stands_shown_at n c q (Some level) e = absurd (true≢false (sym e))

  -- the same of a process that the cut shows in any way
  pub stands_shown : (n c : ℕ) (q : Process S S) (u : Process S P) → ShowsOne x n q u → stands_at c u ≡ true → stands_at c q ≡ true
  stands_shown n c q u (Alive whole same) e = stands_shown_at n c q (slice_get q.levels n) (ap (stands_at c) (sym same) ∙ e)
  stands_shown n c q u (Lost failed state line own) e =
      absurd (true≢false (sym e ∙ ap (λ (b : Bool). b && is_last_of c (last_of u.levels)) line))

  stands_there_shown : (f : ℕ → ℕ) (c m : ℕ) (qs : List (Process S S)) (us : List (Process S P)) → Shows x f qs us
      → (u : Option (Process S P)) → slice_get us m ≡ u → stands_there c u ≡ true → stands_there c (slice_get qs m) ≡ true
  stands_there_shown f c m qs us shows None e stands = absurd (true≢false (sym stands))
  stands_there_shown f c m qs us shows (Some u) e stands =
      let found = get_showing x f m qs us u shows e in
      ap (stands_there c) found.there ∙ stands_shown (f m) c found.process u found.shows stands

  -- all stand in the world if all do in what is shown
  pub all_stand_shown : (f : ℕ → ℕ) (c : ℕ) (w : World S S Nothing) (v : World S P Nothing) → Shows x f w.processes v.processes
      → all_stand (plain x) c v ≡ true → all_stand (whole x) c w ≡ true
  all_stand_shown f c w v shows all =
      list_all_implied (λ m. stands_there c (slice_get v.processes m)) (λ m. stands_there c (slice_get w.processes m))
      (members_of (slice_get x.groups c))
      (λ m. stands_there_shown f c m w.processes v.processes shows (slice_get v.processes m) refl) all
