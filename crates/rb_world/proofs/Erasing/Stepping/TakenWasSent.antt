-- After a step of a present process no more was taken in the plain world than was sent: what a receipt takes was there, and so it was
-- sent in the state in which the cut shows the sender.
use Rattle.std.proofs.Common.{◌≡◌, ◌≤◌, ◌<◌, ◌+◌, ℕ, ℤ, Bool, true, false, cond, slice_get, Option, Some, None, refl, sym, ap, ◌∙◌, subst, nat_eq, eqb-true, arith, le_trans, le_of_eq}
use Rattle.rb_world.specs.Kind.{Ends, Want, MayReceiveOn}
use Rattle.rb_world.specs.World.{Process, World, with_process}
use Rattle.rb_world.specs.Channels.{message_there}
use Rattle.rb_world.proofs.TurnFacts.{IsReady, ToSend, ToReceive, ToReceiveIfThere, ToStart, ToAct}
use Rattle.rb_world.proofs.Erasing.ErasableKinds.{IsErasable, Moves, Nothing, Parts, receives_on, takes_by, whole}
use Rattle.rb_world.proofs.Erasing.Showing.ErasureInvariant.{AreSent}
use Rattle.rb_world.proofs.Erasing.Stepping.PresentProcess.{IsPresent, as_is, present_there}
use Rattle.rb_world.proofs.Erasing.Stepping.SameMessageThere.{taken_less}
use Rattle.rb_world.proofs.Erasing.Showing.OneProcessChanged.{sent_after}

one_more : (b : Bool) (taken sent : ℕ) → taken ≤ sent → (b ≡ true → taken < sent) → taken + cond b 1 0 ≤ sent
one_more true taken sent most less = omega (arith, less refl)
one_more false taken sent most less = omega (arith, most)

module _ {S E P : Type 0} (x : Parts S E P) (Known : ℕ → Process S S → Type 0) (laws : IsErasable x Known) where
  module _ (f : ℕ → ℕ) (p : ℕ) (q : Process S S) (w : World S S Nothing) (v : World S P Nothing)
      (here : IsPresent x Known f p q w v) (before : AreSent x v) where
    -- what a receipt takes was sent
    takes_less : (c d : ℕ) (ends : Ends) (value : ℤ) (sender : Process S P) → receives_on (x.want q.state) ≡ Some c
        → message_there (whole x) w c ≡ Some value
        → slice_get x.channels d ≡ Some ends → slice_get v.processes ends.sender ≡ Some sender → nat_eq c d ≡ true
        → x.taken q.state d < x.sent sender.state d
    takes_less c d ends value sender wants message channel there same =
        let e : c ≡ d = eqb-true c d same in
        let channel_c : slice_get x.channels c ≡ Some ends = ap (slice_get x.channels) e ∙ channel in
        subst (λ (n : ℕ). x.taken q.state n < x.sent sender.state n) e
        (taken_less x Known laws f p q w v here c ends value sender channel_c
        (laws.receives p q c ends (here.grounded p q here.there).known wants channel_c) message there)

    takes_if_there : (c d : ℕ) (ends : Ends) (sender : Process S P) (message : Option ℤ)
        → receives_on (x.want q.state) ≡ Some c → message ≡ message_there (whole x) w c
        → slice_get x.channels d ≡ Some ends → slice_get v.processes ends.sender ≡ Some sender → x.taken q.state d ≤ x.sent sender.state d
        → x.taken q.state d + takes_by (MayReceiveOn c) message d ≤ x.sent sender.state d
    takes_if_there c d ends sender None wants e channel there most = omega (arith, most)
    takes_if_there c d ends sender (Some value) wants e channel there most =
        one_more (nat_eq c d) (x.taken q.state d) (x.sent sender.state d) most
        (takes_less c d ends value sender wants (sym e) channel there)

    -- after a step, too, no more was taken than was sent
    takes_within : (message : Option ℤ) → IsReady (whole x) q w message → (d : ℕ) (ends : Ends) (sender : Process S P)
        → slice_get x.channels d ≡ Some ends
        → slice_get v.processes ends.sender ≡ Some sender → x.taken q.state d ≤ x.sent sender.state d
        → x.taken q.state d + takes_by (x.want q.state) message d ≤ x.sent sender.state d
    takes_within message (ToSend c wants room none) d ends sender channel there most =
        subst (λ (want : Want). x.taken q.state d + takes_by want message d ≤ x.sent sender.state d) (sym wants) (omega (arith, most))
    takes_within message (ToReceive c value wants found same) d ends sender channel there most =
        subst (λ (want : Want). x.taken q.state d + takes_by want message d ≤ x.sent sender.state d) (sym wants)
        (takes_if_there c d ends sender message (ap receives_on wants) (same ∙ sym found) channel there most)
    takes_within message (ToReceiveIfThere c wants same) d ends sender channel there most =
        subst (λ (want : Want). x.taken q.state d + takes_by want message d ≤ x.sent sender.state d) (sym wants)
        (takes_if_there c d ends sender message (ap receives_on wants) same channel there most)
    takes_within message (ToStart wants none) d ends sender channel there most =
        subst (λ (want : Want). x.taken q.state d + takes_by want message d ≤ x.sent sender.state d) (sym wants) (omega (arith, most))
    takes_within message (ToAct wants none) d ends sender channel there most =
        subst (λ (want : Want). x.taken q.state d + takes_by want message d ≤ x.sent sender.state d) (sym wants) (omega (arith, most))

    -- in the plain world after the step of a present process no more was taken than was sent
    pub sent_after_step : (message : Option ℤ) (s next : S) (u : Process S P) → IsReady (whole x) q w message → Moves x message q.state s
        → ((c : ℕ) → x.sent next c ≡ x.sent s c) → ((c : ℕ) → x.taken next c ≡ x.taken s c) → u.state ≡ next
        → AreSent x (with_process p (λ _. u) v)
    sent_after_step message s next u ready moves sent taken same =
        sent_after x p (as_is x q) u v (present_there x Known f p q w v here) before
        (λ c ends channel. subst (λ (one : S). x.sent q.state c ≤ x.sent one c) (sym same)
        (le_trans (moves.front.shorter c) (le_of_eq (sym (sent c)))))
        (λ c ends sender channel at is_sender. subst (λ (one : S). x.taken one c ≤ x.sent sender.state c) (sym same)
        (le_trans (le_of_eq (taken c ∙ moves.taken c ends channel))
        (takes_within message ready c ends sender channel is_sender
        (before c ends sender (as_is x q) channel is_sender (ap (slice_get v.processes) at ∙ present_there x Known f p q w v here)))))
