-- What each change does to one process that is grounded: its recovery points' messages stay in order, the outermost one holds no line,
-- and a failed process has no level and holds no line.
use Rattle.std.proofs.Common.{◌≡◌, ◌≤◌, ◌+◌, ℕ, ℤ, Bool, true, false, cond, List, [], ◌∷◌, ◌++◌, map, option_map, slice_get, take, Option, Some, None, refl, sym, ap, ◌∙◌, subst, true≢false, arith}
use Rattle.std.proofs.lemmas.Option.{slice_get_within}
use Rattle.rb_base.specs.declared.event.Cause.{Cause}
use Rattle.rb_world.specs.Kind.{Facts, Went, Held}
use Rattle.rb_world.specs.World.{Level, Process, World, change_at, goes_on, last_of, settled, without_last, copy_of}
use Rattle.rb_world.specs.Reject.{back_to, fallen, next_alternate, put_back, raised}
use Rattle.rb_world.specs.Turn.{freed, leaves, new_level, one_used, stands_at, stands_now, state_freed, turn_used}
use Rattle.rb_world.specs.Standing.{is_failed}
use Rattle.rb_world.proofs.TurnFacts.{StepsAt, EntersAt}
use Rattle.rb_world.proofs.Keeping.EachProcess.{KeepsEach}
use Rattle.rb_world.proofs.Keeping.StandingFacts.{back_to-bare, status_at-whole}
use Rattle.rb_world.proofs.ListFacts.{none_some, some_same}
use Rattle.rb_world.proofs.Erasing.ErasableKinds.{Nothing, Parts, whole, IsFront, SameMail, IsErasable}
use Rattle.rb_world.proofs.Erasing.Showing.ErasureInvariant.{IsGrounded, IsQuiet}
use Rattle.rb_world.proofs.LevelFacts.{AreFrom, ComesFrom, IsOldOrNew, IsOld, IsNew, from_next, from_same, from_used, from_without_last, get_more, get_take, some_none}

module _ {S E P : Type 0} (x : Parts S E P) where
  -- messages of a state are the first of its own, and so on through a third
  pub front_same : (s : S) → IsFront x s s
  front_same s = record { shorter = λ c. omega arith; same = λ c n less. refl }

  pub front_through : {a b c : S} → IsFront x a b → IsFront x b c → IsFront x a c
  front_through first second = record {
    shorter = λ c. omega (arith, first.shorter c, second.shorter c);
    same = λ c n less. second.same c n (omega (arith, less, first.shorter c)) ∙ first.same c n less;
  }

  pub front_of_mail : {a b : S} → SameMail x a b → IsFront x a b
  front_of_mail mail = record { shorter = λ c. omega (arith, mail.sent c); same = λ c n less. mail.messages c n }

  -- what is said of the recovery points of these levels, and of a state that comes after them
  pub record AreOrdered (levels : List (Level S)) (s : S) : Type 0 where
    pub in_order : (i j : ℕ) (outer inner : Level S) → i ≤ j → slice_get levels i ≡ Some outer
        → slice_get levels j ≡ Some inner → IsFront x outer.copy inner.copy
    pub before_now : (i : ℕ) (level : Level S) → slice_get levels i ≡ Some level → IsFront x level.copy s
    pub outermost : (level : Level S) → slice_get levels 0 ≡ Some level → x.held level.copy ≡ []

  pub front_at : {a b c d : S} → a ≡ c → b ≡ d → IsFront x a b → IsFront x c d
  front_at {a} {b} {c} {d} e f front = subst (λ (y : S). IsFront x c y) f (subst (λ (y : S). IsFront x y b) e front)

  -- levels that come from such levels, and a state that comes after
  pub ordered_from : (levels old : List (Level S)) (s t : S) → AreFrom levels old → IsFront x s t → AreOrdered old s → AreOrdered levels t
  ordered_from levels old s t from front h = record {
    in_order = λ i j outer inner le a b.
        let o : ComesFrom old i outer.copy = from i outer a in
        let n : ComesFrom old j inner.copy = from j inner b in
        front_at o.same n.same (h.in_order i j o.level n.level le o.there n.there);
    before_now = λ i level e.
        let o : ComesFrom old i level.copy = from i level e in
        front_through (front_at o.same refl (h.before_now i o.level o.there)) front;
    outermost = λ level e.
        let o : ComesFrom old 0 level.copy = from 0 level e in
        ap x.held (sym o.same) ∙ h.outermost o.level o.there;
  }

  -- levels up to one whose recovery point is put back
  pub ordered_back : (j : ℕ) (levels : List (Level S)) (level : Level S) (s : S) → slice_get levels j ≡ Some level → AreOrdered levels s
      → AreOrdered (take (j + 1) levels) level.copy
  ordered_back j levels level s there h = record {
    in_order = λ i n outer inner le a b. h.in_order i n outer inner le (get_take (j + 1) levels i outer a).1 (get_take (j + 1) levels n inner b).1;
    before_now = λ i outer e. let found = get_take (j + 1) levels i outer e in h.in_order i j outer level (omega (arith, found.0)) found.1 there;
    outermost = λ outer e. h.outermost outer (get_take (j + 1) levels 0 outer e).1;
  }

  -- a new level, whose recovery point is the present state
  new-order : (levels : List (Level S)) (new : Level S) (i j : ℕ) (outer inner : Level S) → i ≤ j → AreOrdered levels new.copy
      → IsOldOrNew levels new i outer → IsOldOrNew levels new j inner → IsFront x outer.copy inner.copy
  new-order levels new i j outer inner le h (IsOld a) (IsOld b) = h.in_order i j outer inner le a b
  new-order levels new i j outer inner le h (IsOld a) (IsNew _ same) = front_at refl (ap (λ (l : Level S). l.copy) same) (h.before_now i outer a)
  new-order levels new i j outer inner le h (IsNew e same) (IsOld b) = absurd (omega (arith, le, e, slice_get_within levels j inner b))
  new-order levels new i j outer inner le h (IsNew _ same) (IsNew _ same') =
      front_at (ap (λ (l : Level S). l.copy) same) (ap (λ (l : Level S). l.copy) same') (front_same new.copy)

  new-before : (levels : List (Level S)) (new : Level S) (i : ℕ) (level : Level S) → AreOrdered levels new.copy → IsOldOrNew levels new i level
      → IsFront x level.copy new.copy
  new-before levels new i level h (IsOld e) = h.before_now i level e
  new-before levels new i level h (IsNew _ same) = front_at (ap (λ (l : Level S). l.copy) same) refl (front_same new.copy)

  new-outermost : (levels : List (Level S)) (new level : Level S) → AreOrdered levels new.copy → (levels ≡ [] → x.held new.copy ≡ [])
      → slice_get (levels ++ new ∷ []) 0 ≡ Some level → x.held level.copy ≡ []
  new-outermost [] new level h quiet e = ap (λ (l : Level S). x.held l.copy) (sym (some_same e)) ∙ quiet refl
  new-outermost (l ∷ levels) new level h quiet e = h.outermost level e

  pub ordered_more : (levels : List (Level S)) (new : Level S) → AreOrdered levels new.copy → (levels ≡ [] → x.held new.copy ≡ [])
      → AreOrdered (levels ++ new ∷ []) new.copy
  ordered_more levels new h quiet = record {
    in_order = λ i j outer inner le a b. new-order levels new i j outer inner le h (get_more levels new i outer a) (get_more levels new j inner b);
    before_now = λ i level e. new-before levels new i level h (get_more levels new i level e);
    outermost = λ level e. new-outermost levels new level h quiet e;
  }

module _ {S E P : Type 0} {x : Parts S E P} {Known : ℕ → Process S S → Type 0} where
  pub ordered : {r : ℕ} {q : Process S S} → IsGrounded x Known r q → AreOrdered x q.levels q.state
  ordered h = record { in_order = h.in_order; before_now = h.before_now; outermost = h.outermost }

  -- a process that has not failed
  pub grounded_alive : (r : ℕ) (q : Process S S) → Known r q → AreOrdered x q.levels q.state → is_failed q.status ≡ false → IsGrounded x Known r q
  grounded_alive r q known order alive = record {
    known = known;
    in_order = order.in_order;
    before_now = order.before_now;
    outermost = order.outermost;
    bare = λ e. absurd (true≢false (sym e ∙ alive));
    lost = λ e. absurd (true≢false (sym e ∙ alive));
  }

  -- a process of the same status
  pub grounded_same : (r : ℕ) (q : Process S S) → Known r q → AreOrdered x q.levels q.state → (is_failed q.status ≡ true → q.levels ≡ [])
      → (is_failed q.status ≡ true → x.held q.state ≡ []) → IsGrounded x Known r q
  grounded_same r q known order bare lost = record {
    known = known;
    in_order = order.in_order;
    before_now = order.before_now;
    outermost = order.outermost;
    bare = bare;
    lost = lost;
  }

-- The changes, one by one.
module _ {S E P : Type 0} {x : Parts S E P} {Known : ℕ → Process S S → Type 0} (keeps : KeepsEach (whole x) Known) (laws : IsErasable x Known) where
  -- a turn is counted, and a level goes on to its next alternate
  pub used-grounded : (r : ℕ) (q : Process S S) → IsGrounded x Known r q → IsGrounded x Known r (turn_used q)
  used-grounded r q h = grounded_same r (turn_used q) (keeps.counts r q h.known)
      (ordered_from x (turn_used q).levels q.levels q.state q.state (from_used q.levels) (front_same x q.state) (ordered h))
      (λ e. ap (map one_used) (h.bare e)) h.lost

  pub raised-grounded : (r j : ℕ) (q : Process S S) → IsGrounded x Known r q → IsGrounded x Known r (raised j q)
  raised-grounded r j q h = grounded_same r (raised j q) (keeps.rises r j q h.known)
      (ordered_from x (raised j q).levels q.levels q.state q.state (from_next j q.levels) (front_same x q.state) (ordered h))
      (λ e. ap (change_at j next_alternate) (h.bare e)) h.lost

  -- a level is put back
  back_at-grounded : (r j : ℕ) (q : Process S S) (level : Option (Level S)) → IsGrounded x Known r q → Known r (back_to (whole x) j q level)
      → slice_get q.levels j ≡ level → IsGrounded x Known r (back_to (whole x) j q level)
  back_at-grounded r j q None h known e = h
  back_at-grounded r j q (Some level) h known e = grounded_same r (back_to (whole x) j q (Some level)) known
      (ordered_back x j q.levels level q.state e (ordered h))
      (λ failed. back_to-bare (whole x) j q (Some level) h.bare failed)
      (λ failed. absurd (none_some (ap (λ (ls : List (Level S)). slice_get ls j) (sym (h.bare failed)) ∙ e)))

  pub back-grounded : (r j : ℕ) (q : Process S S) → IsGrounded x Known r q → IsGrounded x Known r (put_back (whole x) j q)
  back-grounded r j q h = back_at-grounded r j q (slice_get q.levels j) h (keeps.goes_back r j q h.known) refl

  -- a process goes on in a later state, with these levels
  pub settled-grounded : (r : ℕ) (q : Process S S) (levels : List (Level S)) (s : S) → IsGrounded x Known r q → Known r (settled (whole x) s levels)
      → AreFrom levels q.levels → IsFront x q.state s → IsGrounded x Known r (settled (whole x) s levels)
  settled-grounded r q levels s h known from front = grounded_alive r (settled (whole x) s levels) known
      (ordered_from x levels q.levels q.state (x.settle s) from (front_through x front (front_of_mail x (laws.settles s).mail)) (ordered h))
      (status_at-whole (x.want (x.settle s)))

  -- a step, and a test that held
  pub goes-grounded : (t p : ℕ) (q : Process S S) (w : World S S Nothing) (alternate : ℕ) (message : Option ℤ) (s : S) → IsGrounded x Known p q
      → StepsAt (whole x) p q w alternate message
      → x.step alternate (option_map x.environment (copy_of (last_of q.levels))) q.state message ≡ Went s tt
      → IsGrounded x Known p (settled (whole x) (x.keep t alternate s) q.levels)
  goes-grounded t p q w alternate message s h at went =
      settled-grounded p q q.levels (x.keep t alternate s) h (keeps.goes t p q w alternate message s tt h.known at went) (from_same q.levels)
      (front_through x (laws.goes p q w alternate message s h.known at went).front (front_of_mail x (laws.keeps_mail t alternate s)))

  held_front : (t p : ℕ) (q : Process S S) (w : World S S Nothing) (alternate : ℕ) (message : Option ℤ) (s : S) → IsGrounded x Known p q
      → StepsAt (whole x) p q w alternate message → x.step alternate (option_map x.environment (copy_of (last_of q.levels))) q.state message ≡ Held s
      → IsFront x q.state (x.keep t alternate s)
  held_front t p q w alternate message s h at held =
      front_through x (front_of_mail x (laws.holds p q w alternate message s h.known at held).mail) (front_of_mail x (laws.keeps_mail t alternate s))

  pub accepts-grounded : (t p : ℕ) (q : Process S S) (w : World S S Nothing) (alternate : ℕ) (message : Option ℤ) (s : S) → IsGrounded x Known p q
      → StepsAt (whole x) p q w alternate message → x.step alternate (option_map x.environment (copy_of (last_of q.levels))) q.state message ≡ Held s
      → IsGrounded x Known p (settled (whole x) (x.keep t alternate s) (without_last q.levels))
  accepts-grounded t p q w alternate message s h at held =
      settled-grounded p q (without_last q.levels) (x.keep t alternate s) h (keeps.accepts t p q w alternate message s h.known at held)
      (from_without_last q.levels) (held_front t p q w alternate message s h at held)

  pub stands-grounded : (t p : ℕ) (q : Process S S) (w : World S S Nothing) (alternate : ℕ) (message : Option ℤ) (s : S) → IsGrounded x Known p q
      → StepsAt (whole x) p q w alternate message → x.step alternate (option_map x.environment (copy_of (last_of q.levels))) q.state message ≡ Held s
      → IsGrounded x Known p (stands_now (x.keep t alternate s) q.levels)
  stands-grounded t p q w alternate message s h at held =
      grounded_alive p (stands_now (x.keep t alternate s) q.levels) (keeps.stands t p q w alternate message s h.known at held)
      (ordered_from x q.levels q.levels q.state (x.keep t alternate s) (from_same q.levels)
      (held_front t p q w alternate message s h at held) (ordered h))
      refl

  leaves_if-grounded : (r c : ℕ) (q : Process S S) (there : Bool) → stands_at c q ≡ there → IsGrounded x Known r q
      → IsGrounded x Known r (cond there (settled (whole x) q.state (without_last q.levels)) q)
  leaves_if-grounded r c q true e h =
      settled-grounded r q (without_last q.levels) q.state h (keeps.leaves r c q h.known e) (from_without_last q.levels) (front_same x q.state)
  leaves_if-grounded r c q false e h = h

  pub leaves-grounded : (r c : ℕ) (q : Process S S) → IsGrounded x Known r q → IsGrounded x Known r (leaves (whole x) c q)
  leaves-grounded r c q h = leaves_if-grounded r c q (stands_at c q) refl h

  -- an entry; without a level nothing is held
  pub opens-grounded : (t p : ℕ) (q : Process S S) (w : World S S Nothing) (facts : Facts) (alternate : ℕ) → IsGrounded x Known p q → IsQuiet x p q
      → EntersAt (whole x) p q w facts alternate
      → IsGrounded x Known p
      (goes_on (whole x) (x.keep t 0 (x.enter q.state))
      (q.levels ++ new_level (whole x) facts alternate (x.keep t 0 (x.enter q.state)) ∷ []))
  opens-grounded t p q w facts alternate h quiet at =
      let s : S = x.keep t 0 (x.enter q.state) in
      let new : Level S = new_level (whole x) facts alternate s in
      grounded_alive p (goes_on (whole x) s (q.levels ++ new ∷ [])) (keeps.opens t p q w facts alternate h.known at)
      (ordered_more x q.levels new
      (ordered_from x q.levels q.levels q.state s (from_same q.levels)
      (front_through x (front_of_mail x (laws.enters q.state).mail) (front_of_mail x (laws.keeps_mail t 0 (x.enter q.state)))) (ordered h))
      (λ e. laws.keeps_held t 0 (x.enter q.state) ∙ (laws.enters q.state).held ∙ quiet e))
      (status_at-whole (x.want s))

  -- a process that holds no line fails
  pub falls-grounded : (r : ℕ) (q : Process S S) (cause : Cause) → IsGrounded x Known r q → x.held q.state ≡ []
      → IsGrounded x Known r (fallen (whole x) cause q)
  falls-grounded r q cause h none = record {
    known = keeps.falls r q cause h.known;
    in_order = λ i j outer inner le a b. absurd (none_some a);
    before_now = λ i level e. absurd (none_some e);
    outermost = λ level e. absurd (none_some e);
    bare = λ e. refl;
    lost = λ e. none;
  }

  -- held lines are released
  released-ordered : (s : S) (levels : List (Level S)) → AreOrdered x levels s → AreOrdered x levels (state_freed (whole x) s levels)
  released-ordered s [] order = record {
    in_order = order.in_order;
    before_now = λ i level e. absurd (none_some e);
    outermost = order.outermost;
  }
  released-ordered s (l ∷ levels) order = order

  released-lost : (s : S) (levels : List (Level S)) → levels ≡ [] → x.held (state_freed (whole x) s levels) ≡ []
  released-lost s [] e = laws.releases s
  released-lost s (l ∷ levels) e = absurd (some_none (ap (λ (ls : List (Level S)). slice_get ls 0) e))

  pub freed-grounded : (r : ℕ) (q : Process S S) → IsGrounded x Known r q → IsGrounded x Known r (freed (whole x) q)
  freed-grounded r q h = grounded_same r (freed (whole x) q) (keeps.is_freed r q h.known)
      (released-ordered q.state q.levels (ordered h)) h.bare
      (λ e. released-lost q.state q.levels (h.bare e))

  -- after it nobody without a level holds a line
  pub freed-quiet : (r : ℕ) (q : Process S S) → IsQuiet x r (freed (whole x) q)
  freed-quiet r q e = released-lost q.state q.levels e
