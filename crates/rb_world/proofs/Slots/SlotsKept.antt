-- Changes of a process that leave all messages in their slots: none is sent, and room is counted from a number that does not
-- fall. The number that room is counted from never lies above a number taken.
use Rattle.std.proofs.Common.{◌≡◌, ◌≤◌, ◌<◌, ◌+◌, ℕ, zero, suc, Bool, List, [], ◌∷◌, ◌++◌, map, take, slice_get, Option, Some, None, refl, sym, ap, ◌∙◌, subst, add-one, arith}
use Rattle.rb_base.specs.declared.event.Cause.{Cause}
use Rattle.rb_world.specs.World.{Level, Process, ProcessStatus, change_at, without_last}
use Rattle.rb_world.specs.Channels.{room_from}
use Rattle.rb_world.specs.Reject.{back_to, fallen, next_alternate, put_back, raised}
use Rattle.rb_world.specs.Turn.{one_used, turn_used}
use Rattle.rb_world.proofs.LevelFacts.{get_take, get_without_last}
use Rattle.rb_world.proofs.ListFacts.{none_some, some_same}
use Rattle.rb_world.proofs.Erasing.ErasableKinds.{Parts, whole, IsFront, SameMail}

-- on channel c, no number taken, now or in a recovery point, lies below the number that room is counted from
pub record TakesRise {S E P : Type 0} (x : Parts S E P) (c : ℕ) (q : Process S S) : Type 0 where
  pub now : room_from (whole x) q.state q.levels c ≤ x.taken q.state c
  pub then : (i : ℕ) (level : Level S) → slice_get q.levels i ≡ Some level → room_from (whole x) q.state q.levels c ≤ x.taken level.copy c

-- the messages of s on channel c are the first of those of t
pub record IsFrontOn {S E P : Type 0} (x : Parts S E P) (c : ℕ) (s t : S) : Type 0 where
  pub shorter : x.sent s c ≤ x.sent t c
  pub same : (n : ℕ) → n < x.sent s c → x.message t c n ≡ x.message s c n

-- a change from q to q' that leaves all messages of channel c in their slots
pub record KeepsSlots {S E P : Type 0} (x : Parts S E P) (c : ℕ) (q q' : Process S S) : Type 0 where
  pub front : IsFrontOn x c q'.state q.state
  pub later : room_from (whole x) q.state q.levels c ≤ room_from (whole x) q'.state q'.levels c
  pub rise : TakesRise x c q'

-- the same of one channel
pub front_on : {S E P : Type 0} (x : Parts S E P) (c : ℕ) (s t : S) → IsFront x s t → IsFrontOn x c s t
front_on x c s t front = record { shorter = front.shorter c; same = front.same c }

module _ {S E P : Type 0} (x : Parts S E P) (c : ℕ) where
  pub same_front : (s t : S) → SameMail x s t → IsFrontOn x c t s
  same_front s t mail = record {
    shorter = omega (arith, mail.sent c);
    same = λ n less. sym (mail.messages c n);
  }

  pub own_front : (s : S) → IsFrontOn x c s s
  own_front s = record { shorter = omega arith; same = λ n less. refl }

  -- a new state over the same levels
  pub room_over : (s t : S) (levels : List (Level S)) → x.taken s c ≤ x.taken t c → room_from (whole x) s levels c ≤ room_from (whole x) t levels c
  room_over s t [] more = more
  room_over s t (l ∷ ls) more = omega arith

  now_over : (s t : S) (levels : List (Level S)) → x.taken s c ≤ x.taken t c → room_from (whole x) s levels c ≤ x.taken s c
      → room_from (whole x) t levels c ≤ x.taken t c
  now_over s t [] more below = omega arith
  now_over s t (l ∷ ls) more below = omega (arith, more, below)

  then_over : (s t : S) (levels : List (Level S)) (n : ℕ) (level : Level S) (i : ℕ) → slice_get levels i ≡ Some level
      → room_from (whole x) s levels c ≤ n → room_from (whole x) t levels c ≤ n
  then_over s t [] n level i e below = absurd (none_some e)
  then_over s t (l ∷ ls) n level i e below = below

  pub moved_rises : (q : Process S S) (t : S) (line : Bool) (status : ProcessStatus) → TakesRise x c q → x.taken q.state c ≤ x.taken t c
      → TakesRise x c (record { state = t; levels = q.levels; at_line = line; status = status })
  moved_rises q t line status rise more = record {
    now = now_over q.state t q.levels more rise.now;
    then = λ i level e. then_over q.state t q.levels (x.taken level.copy c) level i e (rise.then i level e);
  }

  pub moved_keeps : (q : Process S S) (t : S) (line : Bool) (status : ProcessStatus) → TakesRise x c q → IsFrontOn x c t q.state
      → x.taken q.state c ≤ x.taken t c
      → KeepsSlots x c q (record { state = t; levels = q.levels; at_line = line; status = status })
  moved_keeps q t line status rise front more = record {
    front = front;
    later = room_over q.state t q.levels more;
    rise = moved_rises q t line status rise more;
  }

  -- levels changed one by one, with the same recovery points
  room_same_points : (s : S) (f : Level S → Level S) (same : (l : Level S) → (f l).copy ≡ l.copy) (levels : List (Level S))
      → room_from (whole x) s (map f levels) c ≡ room_from (whole x) s levels c
  room_same_points s f same [] = refl
  room_same_points s f same (l ∷ ls) = ap (λ (y : S). x.taken y c) (same l)

  point_of_mapped : (f : Level S → Level S) (same : (l : Level S) → (f l).copy ≡ l.copy) (levels : List (Level S)) (i : ℕ) (level : Level S)
      → slice_get (map f levels) i ≡ Some level → (old : Level S) × (slice_get levels i ≡ Some old) × (level.copy ≡ old.copy)
  point_of_mapped f same [] i level e = absurd (none_some e)
  point_of_mapped f same (l ∷ ls) zero level e = (l, refl, ap (λ (y : Level S). y.copy) (sym (some_same e)) ∙ same l)
  point_of_mapped f same (l ∷ ls) (suc i) level e = point_of_mapped f same ls i level e

  pub used_keeps : (q : Process S S) → TakesRise x c q → KeepsSlots x c q (turn_used q)
  used_keeps q rise = record {
    front = own_front q.state;
    later = omega (arith, room_same_points q.state one_used (λ l. refl) q.levels);
    rise = record {
      now = omega (arith, room_same_points q.state one_used (λ l. refl) q.levels, rise.now);
      then = λ i level e.
          let old = point_of_mapped one_used (λ l. refl) q.levels i level e in
          subst (λ (y : S). room_from (whole x) q.state (map one_used q.levels) c ≤ x.taken y c) (sym old.2)
          (omega (arith, room_same_points q.state one_used (λ l. refl) q.levels, rise.then i old.0 old.1));
    };
  }

  -- the level whose alternate rises keeps its point
  room_raised : (s : S) (j : ℕ) (levels : List (Level S))
      → room_from (whole x) s (change_at j next_alternate levels) c ≡ room_from (whole x) s levels c
  room_raised s j [] = refl
  room_raised s zero (l ∷ ls) = refl
  room_raised s (suc j) (l ∷ ls) = refl

  point_of_raised : (j : ℕ) (levels : List (Level S)) (i : ℕ) (level : Level S)
      → slice_get (change_at j next_alternate levels) i ≡ Some level → (old : Level S) × (slice_get levels i ≡ Some old) × (level.copy ≡ old.copy)
  point_of_raised j [] i level e = absurd (none_some e)
  point_of_raised zero (l ∷ ls) zero level e = (l, refl, ap (λ (y : Level S). y.copy) (sym (some_same e)))
  point_of_raised zero (l ∷ ls) (suc i) level e = (level, e, refl)
  point_of_raised (suc j) (l ∷ ls) zero level e = (l, refl, ap (λ (y : Level S). y.copy) (sym (some_same e)))
  point_of_raised (suc j) (l ∷ ls) (suc i) level e = point_of_raised j ls i level e

  pub raised_keeps : (j : ℕ) (q : Process S S) → TakesRise x c q → KeepsSlots x c q (raised j q)
  raised_keeps j q rise = record {
    front = own_front q.state;
    later = omega (arith, room_raised q.state j q.levels);
    rise = record {
      now = omega (arith, room_raised q.state j q.levels, rise.now);
      then = λ i level e.
          let old = point_of_raised j q.levels i level e in
          subst (λ (y : S). room_from (whole x) q.state (change_at j next_alternate q.levels) c ≤ x.taken y c) (sym old.2)
          (omega (arith, room_raised q.state j q.levels, rise.then i old.0 old.1));
    };
  }

  -- a new level inside all others
  room_opened : (s t : S) (levels : List (Level S)) (level : Level S) → x.taken level.copy c ≡ x.taken s c
      → room_from (whole x) t (levels ++ level ∷ []) c ≡ room_from (whole x) s levels c
  room_opened s t [] level same = same
  room_opened s t (l ∷ ls) level same = refl

  then_opened : (levels : List (Level S)) (new : Level S) (n : ℕ) → n ≤ x.taken new.copy c
      → ((i : ℕ) (level : Level S) → slice_get levels i ≡ Some level → n ≤ x.taken level.copy c)
      → (i : ℕ) (level : Level S) → slice_get (levels ++ new ∷ []) i ≡ Some level → n ≤ x.taken level.copy c
  then_opened [] new n last below zero level e = subst (λ (y : Level S). n ≤ x.taken y.copy c) (some_same e) last
  then_opened [] new n last below (suc i) level e = absurd (none_some e)
  then_opened (l ∷ ls) new n last below zero level e = below zero level e
  then_opened (l ∷ ls) new n last below (suc i) level e = then_opened ls new n last (λ k y h. below (suc k) y h) i level e

  pub opened_keeps : (q : Process S S) (t : S) (level : Level S) (line : Bool) (status : ProcessStatus) → TakesRise x c q
      → SameMail x q.state t → level.copy ≡ t
      → KeepsSlots x c q (record { state = t; levels = q.levels ++ level ∷ []; at_line = line; status = status })
  opened_keeps q t level line status rise mail point =
      let same : x.taken level.copy c ≡ x.taken q.state c = ap (λ (y : S). x.taken y c) point ∙ mail.taken c in
      let room : room_from (whole x) t (q.levels ++ level ∷ []) c ≡ room_from (whole x) q.state q.levels c =
      room_opened q.state t q.levels level same in
      record {
        front = same_front q.state t mail;
        later = omega (arith, room);
        rise = record {
          now = omega (arith, room, rise.now, mail.taken c);
          then = λ i one e. then_opened q.levels level (room_from (whole x) t (q.levels ++ level ∷ []) c) (omega (arith, room, rise.now, same))
              (λ k y h. omega (arith, room, rise.then k y h)) i one e;
        };
      }

  -- the innermost level goes
  room_left : (s t : S) (levels : List (Level S)) → x.taken t c ≡ x.taken s c → room_from (whole x) s levels c ≤ x.taken s c
      → (room_from (whole x) s levels c ≤ room_from (whole x) t (without_last levels) c)
      × (room_from (whole x) t (without_last levels) c ≤ x.taken t c)
  room_left s t [] same below = (omega (arith, same), omega arith)
  room_left s t (l ∷ []) same below = (omega (arith, same, below), omega arith)
  room_left s t (l ∷ m ∷ ls) same below = (omega arith, omega (arith, same, below))

  then_room : (s t : S) (levels : List (Level S)) (n i : ℕ) (level : Level S)
      → slice_get (without_last levels) i ≡ Some level → room_from (whole x) s levels c ≤ n
      → room_from (whole x) t (without_last levels) c ≤ n
  then_room s t [] n i level e below = absurd (none_some e)
  then_room s t (l ∷ []) n i level e below = absurd (none_some e)
  then_room s t (l ∷ m ∷ ls) n i level e below = below

  pub left_keeps : (q : Process S S) (t : S) (line : Bool) (status : ProcessStatus) → TakesRise x c q → SameMail x q.state t
      → KeepsSlots x c q (record { state = t; levels = without_last q.levels; at_line = line; status = status })
  left_keeps q t line status rise mail = record {
    front = same_front q.state t mail;
    later = (room_left q.state t q.levels (mail.taken c) rise.now).0;
    rise = record {
      now = (room_left q.state t q.levels (mail.taken c) rise.now).1;
      then = λ i level e. then_room q.state t q.levels (x.taken level.copy c) i level e (rise.then i level (get_without_last q.levels i level e));
    };
  }

  pub fallen_keeps : (cause : Cause) (q : Process S S) → TakesRise x c q → KeepsSlots x c q (fallen (whole x) cause q)
  fallen_keeps cause q rise = record {
    front = own_front q.state;
    later = rise.now;
    rise = record { now = omega arith; then = λ i level e. absurd (none_some e) };
  }

  -- the levels up to one are left
  room_first : (s t : S) (j : ℕ) (levels : List (Level S)) (level : Level S) → slice_get levels j ≡ Some level
      → room_from (whole x) t (take (suc j) levels) c ≡ room_from (whole x) s levels c
  room_first s t j [] level e = absurd (none_some e)
  room_first s t j (l ∷ ls) level e = refl

  room_back : (s t : S) (j : ℕ) (levels : List (Level S)) (level : Level S) → slice_get levels j ≡ Some level
      → room_from (whole x) t (take (j + 1) levels) c ≡ room_from (whole x) s levels c
  room_back s t j levels level e =
      subst (λ (n : ℕ). room_from (whole x) t (take n levels) c ≡ room_from (whole x) s levels c) (sym (add-one j)) (room_first s t j levels level e)

  back_keeps : (j : ℕ) (q : Process S S) (level : Option (Level S)) → slice_get q.levels j ≡ level → TakesRise x c q
      → ((i : ℕ) (one : Level S) → slice_get q.levels i ≡ Some one → IsFront x one.copy q.state) → KeepsSlots x c q (back_to (whole x) j q level)
  back_keeps j q None e rise before = record { front = own_front q.state; later = omega arith; rise = rise }
  back_keeps j q (Some level) e rise before = record {
    front = front_on x c level.copy q.state (before j level e);
    later = omega (arith, room_back q.state level.copy j q.levels level e);
    rise = record {
      now = omega (arith, room_back q.state level.copy j q.levels level e, rise.then j level e);
      then = λ i one h. omega (arith, room_back q.state level.copy j q.levels level e, rise.then i one (get_take (j + 1) q.levels i one h).1);
    };
  }

  pub put_back_keeps : (j : ℕ) (q : Process S S) → TakesRise x c q
      → ((i : ℕ) (one : Level S) → slice_get q.levels i ≡ Some one → IsFront x one.copy q.state) → KeepsSlots x c q (put_back (whole x) j q)
  put_back_keeps j q rise before = back_keeps j q (slice_get q.levels j) refl rise before

  -- one change after another
  pub both_keep : (q r s : Process S S) → KeepsSlots x c q r → KeepsSlots x c r s → KeepsSlots x c q s
  both_keep q r s one other = record {
    front = record {
      shorter = omega (arith, one.front.shorter, other.front.shorter);
      same = λ n less. one.front.same n (omega (arith, less, other.front.shorter)) ∙ other.front.same n less;
    };
    later = omega (arith, one.later, other.later);
    rise = other.rise;
  }

  pub stays_keeps : (q : Process S S) → TakesRise x c q → KeepsSlots x c q q
  stays_keeps q rise = record { front = own_front q.state; later = omega arith; rise = rise }
