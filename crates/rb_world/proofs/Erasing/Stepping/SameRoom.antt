-- A present process has the same room to send in the world that a cut shows: room counts from the receiver's outermost recovery
-- point, which every cut shows, or from its present state if it has none.
use Rattle.std.proofs.Common.{◌≡◌, ◌+◌, ℕ, suc, true, List, [], ◌∷◌, take, slice_get, Option, Some, None, refl, sym, ap, ◌∙◌, subst, nat_lt, add-one}
use Rattle.rb_world.specs.Kind.{Ends}
use Rattle.rb_world.specs.World.{Level, Process, World}
use Rattle.rb_world.specs.Channels.{has_room, has_room_for, has_room_on, room_from}
use Rattle.rb_world.specs.Standing.{is_failed}
use Rattle.rb_world.proofs.ListFacts.{none_some}
use Rattle.rb_world.proofs.Erasing.ErasableKinds.{IsErasable, Nothing, Parts, plain, whole}
use Rattle.rb_world.proofs.Erasing.Showing.Cuts.{Alive, AreOwn, Lost, ShowsOne, plain_levels, shown_at}
use Rattle.rb_world.proofs.Erasing.Stepping.PresentProcess.{BothShown, IsPresent, as_is, both_shown, present_there}

module _ {S E P : Type 0} (x : Parts S E P) (Known : ℕ → Process S S → Type 0) (laws : IsErasable x Known) where
  -- room in levels in which nothing was done
  room_own : (c : ℕ) (s : S) (ls : List (Level P)) → AreOwn x s ls → room_from (plain x) s ls c ≡ x.taken s c
  room_own c s [] own = refl
  room_own c s (l ∷ ls) own = ap (λ (point : P). x.point_taken point c) own.0 ∙ laws.point_taken s c

  room_all : (c : ℕ) (s : S) (ls : List (Level S)) → room_from (plain x) s (plain_levels x ls) c ≡ room_from (whole x) s ls c
  room_all c s [] = refl
  room_all c s (l ∷ ls) = laws.point_taken l.copy c

  room_cut : (c n : ℕ) (s now : S) (ls : List (Level S)) (level : Level S) → slice_get ls n ≡ Some level
      → room_from (plain x) now (plain_levels x (take (suc n) ls)) c ≡ room_from (whole x) s ls c
  room_cut c n s now [] level e = absurd (none_some e)
  room_cut c n s now (l ∷ ls) level e = laws.point_taken l.copy c

  room_at : (c n : ℕ) (q : Process S S) (level : Option (Level S)) → slice_get q.levels n ≡ level
      → room_from (plain x) (shown_at x n q level).state (shown_at x n q level).levels c ≡ room_from (whole x) q.state q.levels c
  room_at c n q None e = room_all c q.state q.levels
  room_at c n q (Some level) e =
      subst
      (λ (m : ℕ). room_from (plain x) level.copy (plain_levels x (take m q.levels)) c ≡ room_from (whole x) q.state q.levels c)
      (sym (add-one n))
      (room_cut c n q.state level.copy q.levels level e)

  -- the number taken that room is counted from
  pub room_shown : (c n : ℕ) (q : Process S S) (u : Process S P) → (is_failed q.status ≡ true → q.levels ≡ []) → ShowsOne x n q u
      → room_from (plain x) u.state u.levels c ≡ room_from (whole x) q.state q.levels c
  room_shown c n q u bare (Alive alive e) =
      ap (λ (one : Process S P). room_from (plain x) one.state one.levels c) e ∙ room_at c n q (slice_get q.levels n) refl
  room_shown c n q u bare (Lost failed state line own) =
      ap (λ (s : S). room_from (plain x) s u.levels c) state ∙ (room_own c q.state u.levels own
      ∙ sym (ap (λ (ls : List (Level S)). room_from (whole x) q.state ls c) (bare failed)))

  room_for : (c : ℕ) (ends : Ends) (q : Process S S) (n : ℕ) (receiver : Option (Process S S)) (other : Option (Process S P))
      → ((one : Process S S) → receiver ≡ Some one → is_failed one.status ≡ true → one.levels ≡ []) → BothShown x n receiver other
      → has_room_for (plain x) c ends (Some (as_is x q)) other ≡ has_room_for (whole x) c ends (Some q) receiver
  room_for c ends q n None None bare both = refl
  room_for c ends q n None (Some u) bare both = absurd both
  room_for c ends q n (Some one) None bare both = absurd both
  room_for c ends q n (Some one) (Some u) bare both =
      ap (λ (from : ℕ). nat_lt (x.sent q.state c) (ends.size + from)) (room_shown c n one u (bare one refl) both)

  module _ (f : ℕ → ℕ) (p : ℕ) (q : Process S S) (w : World S S Nothing) (v : World S P Nothing) (here : IsPresent x Known f p q w v) where
    room_on : (c : ℕ) (channel : Option Ends) → ((ends : Ends) → channel ≡ Some ends → ends.sender ≡ p)
        → has_room_on (plain x) v c channel ≡ has_room_on (whole x) w c channel
    room_on c None by = refl
    room_on c (Some ends) by =
        ap (λ (o : Option (Process S P)). has_room_for (plain x) c ends o (slice_get v.processes ends.receiver))
        (ap (slice_get v.processes) (by ends refl) ∙ present_there x Known f p q w v here)
        ∙ (room_for c ends q (f ends.receiver) (slice_get w.processes ends.receiver) (slice_get v.processes ends.receiver)
        (λ one e. (here.grounded ends.receiver one e).bare) (both_shown x f ends.receiver w.processes v.processes here.shows)
        ∙ sym (ap (λ (o : Option (Process S S)). has_room_for (whole x) c ends o (slice_get w.processes ends.receiver))
        (ap (slice_get w.processes) (by ends refl) ∙ here.there)))

    -- a present sender has the same room
    pub has_room_shown : (c : ℕ) → ((ends : Ends) → slice_get x.channels c ≡ Some ends → ends.sender ≡ p)
        → has_room (plain x) v c ≡ has_room (whole x) w c
    has_room_shown c by = room_on c (slice_get x.channels c) by
