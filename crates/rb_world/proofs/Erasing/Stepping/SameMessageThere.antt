-- In the world that a cut shows, a present receiver has the message that it has in the world itself, and where one is there, it was
-- sent in the state in which the cut shows the sender. With the room of a present sender (SameRoom) that is all that a step
-- asks of channels.
use Rattle.std.proofs.Common.{◌≡◌, ◌≤◌, ◌<◌, ℕ, ℤ, Bool, true, false, cond, length, slice_get, Option, Some, None, refl, sym, ap, ◌∙◌, nat_lt, ltb-true, arith}
use Rattle.std.proofs.lemmas.Option.{slice_get_within}
use Rattle.rb_world.specs.Kind.{Ends}
use Rattle.rb_world.specs.World.{Process, World}
use Rattle.rb_world.specs.Channels.{first_message, message_between, message_on, message_there, seen_copy, seen_count, seen_message}
use Rattle.rb_world.proofs.ListFacts.{none_some}
use Rattle.rb_world.proofs.Erasing.ErasableKinds.{IsErasable, Nothing, Parts, plain, whole}
use Rattle.rb_world.proofs.Erasing.Showing.Cuts.{plain_levels}
use Rattle.rb_world.proofs.Erasing.Showing.ErasureInvariant.{IsGrounded}
use Rattle.rb_world.proofs.Erasing.Showing.ShownWorlds.{get_showing}
use Rattle.rb_world.proofs.Erasing.Stepping.PresentProcess.{BothShown, IsPresent, as_is, both_shown, present_there}
use Rattle.rb_world.proofs.Erasing.Stepping.SameMessagesSeen.{AreApart, SeesSame, sees_shown}

one_or_none : {A : Type 0} (b : Bool) (one other : A) → (b ≡ true → one ≡ other) → cond b (Some one) None ≡ cond b (Some other) None
one_or_none true one other same = ap Some (same refl)
one_or_none false one other same = refl

is_there : {A : Type 0} (b : Bool) (one v : A) → cond b (Some one) None ≡ Some v → b ≡ true
is_there true one v e = refl
is_there false one v e = absurd (none_some e)

module _ {S E P : Type 0} (x : Parts S E P) (Known : ℕ → Process S S → Type 0) (laws : IsErasable x Known) where
  -- the first message that was not taken
  first_same : (c : ℕ) (s : S) (copy : Option S) (s2 : S) (point : Option P) (taken : ℕ) → SeesSame x c s copy s2 point
      → first_message (plain x) tt c s2 point taken ≡ first_message (whole x) tt c s copy taken
  first_same c s copy s2 point taken sees =
      ap (λ (count : ℕ). cond (nat_lt taken count) (Some (seen_message (plain x) tt s2 point c taken)) None) sees.count
      ∙ one_or_none (nat_lt taken (seen_count (whole x) s copy c)) (seen_message (plain x) tt s2 point c taken)
      (seen_message (whole x) tt s copy c taken)
      (λ b. sees.same taken (ltb-true taken (seen_count (whole x) s copy c) b))

  first_less : (c : ℕ) (s : S) (copy : Option S) (s2 : S) (point : Option P) (taken : ℕ) (v : ℤ) → SeesSame x c s copy s2 point
      → first_message (whole x) tt c s copy taken ≡ Some v → taken < x.sent s2 c
  first_less c s copy s2 point taken v sees e =
      let less : taken < seen_count (whole x) s copy c = ltb-true taken (seen_count (whole x) s copy c)
      (is_there (nat_lt taken (seen_count (whole x) s copy c)) (seen_message (whole x) tt s copy c taken) v e) in
      omega (arith, less, sees.sent)

  between_same : (c n r : ℕ) (q : Process S S) (sender : Option (Process S S)) (other : Option (Process S P)) → BothShown x n sender other
      → ((one : Process S S) → sender ≡ Some one → IsGrounded x Known r one × AreApart n one.levels q.levels)
      → message_between (plain x) tt c other (Some (as_is x q)) ≡ message_between (whole x) tt c sender (Some q)
  between_same c n r q None None both facts = refl
  between_same c n r q None (Some u) both facts = absurd both
  between_same c n r q (Some one) None both facts = absurd both
  between_same c n r q (Some one) (Some u) both facts =
      first_same c one.state (seen_copy one.levels q.levels) u.state (seen_copy u.levels (plain_levels x q.levels)) (x.taken q.state c)
      (sees_shown x Known laws c r n one u q.levels (facts one refl).0 (facts one refl).1 both)

  module _ (f : ℕ → ℕ) (p : ℕ) (q : Process S S) (w : World S S Nothing) (v : World S P Nothing) (here : IsPresent x Known f p q w v) where
    -- no level at which another is shown is shared with who is present
    pub apart_from_present : (r : ℕ) (one : Process S S) → slice_get w.processes r ≡ Some one → AreApart (f r) one.levels q.levels
    apart_from_present r one there d a b =
        let outside : f p ≤ f r = here.consistent r p d (f r) one q there here.there a b in
        let within : f r < length q.levels = slice_get_within q.levels (f r) b.level b.there in
        absurd (omega (arith, outside, within, here.present))

    on_same : (c : ℕ) (channel : Option Ends) → ((ends : Ends) → channel ≡ Some ends → ends.receiver ≡ p)
        → message_on (plain x) v c channel ≡ message_on (whole x) w c channel
    on_same c None by = refl
    on_same c (Some ends) by =
        ap (λ (o : Option (Process S P)). message_between (plain x) tt c (slice_get v.processes ends.sender) o)
        (ap (slice_get v.processes) (by ends refl) ∙ present_there x Known f p q w v here)
        ∙ (between_same c (f ends.sender) ends.sender q (slice_get w.processes ends.sender) (slice_get v.processes ends.sender)
        (both_shown x f ends.sender w.processes v.processes here.shows)
        (λ one e. (here.grounded ends.sender one e, apart_from_present ends.sender one e))
        ∙ sym (ap (λ (o : Option (Process S S)). message_between (whole x) tt c (slice_get w.processes ends.sender) o)
        (ap (slice_get w.processes) (by ends refl) ∙ here.there)))

    -- a present receiver has the same message
    pub message_there_shown : (c : ℕ) → ((ends : Ends) → slice_get x.channels c ≡ Some ends → ends.receiver ≡ p)
        → message_there (plain x) v c ≡ message_there (whole x) w c
    message_there_shown c by = on_same c (slice_get x.channels c) by

    -- where a message is there, it was sent in the state that is shown of the sender
    pub taken_less : (c : ℕ) (ends : Ends) (value : ℤ) (sender : Process S P) → slice_get x.channels c ≡ Some ends → ends.receiver ≡ p
        → message_there (whole x) w c ≡ Some value → slice_get v.processes ends.sender ≡ Some sender → x.taken q.state c < x.sent sender.state c
    taken_less c ends value sender channel by message there =
        let found = get_showing x f ends.sender w.processes v.processes sender here.shows there in
        let one : Process S S = found.process in
        let at : message_between (whole x) tt c (Some one) (Some q) ≡ Some value =
        sym (ap (λ (o : Option (Process S S)). message_between (whole x) tt c o (Some q)) found.there)
        ∙ (sym (ap (λ (o : Option (Process S S)). message_between (whole x) tt c (slice_get w.processes ends.sender) o)
        (ap (slice_get w.processes) by ∙ here.there))
        ∙ (sym (ap (message_on (whole x) w c) channel) ∙ message)) in
        first_less c one.state (seen_copy one.levels q.levels) sender.state
        (seen_copy sender.levels (plain_levels x q.levels)) (x.taken q.state c) value
        (sees_shown x Known laws c ends.sender (f ends.sender) one sender q.levels (here.grounded ends.sender one found.there)
        (apart_from_present ends.sender one found.there) found.shows) at
