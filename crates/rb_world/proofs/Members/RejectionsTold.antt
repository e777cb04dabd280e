-- What is told of a turn rejects what the turn rejected: errors, passes and completions reject nothing. So a turn that is undone changes no
-- other process than those inside the outermost conversation that is told to be rejected.
use Rattle.std.proofs.Common.{◌≡◌, ℕ, ◌+◌, List, [], ◌∷◌, ◌++◌, Option, Some, None, refl, ap, ◌∙◌, subst}
use Rattle.rb_base.specs.declared.event.Event.{Event}
use Rattle.rb_base.specs.declared.event.Event.TheVariants.{Reject, RejectAll, Error, Pass, Done}
use Rattle.rb_world.specs.Kind.{Kind}
use Rattle.rb_world.specs.Turn.{Moved, compared, done_at, error_at, move, told, turn}
use Rattle.rb_world.specs.World.{Process, Running, Finished, FailedWith, ProcessStatus, World}
use Rattle.rb_world.specs.Together.{IsOutside, LeavesOutsiders, further_out, outermost_rejected}
use Rattle.rb_world.proofs.Members.Cascade.{ArePrivate}
use Rattle.rb_world.proofs.Members.StaysInside.{IsOutermost, StaysInside, move-stays, turn-stays}
use Rattle.rb_world.proofs.Members.Together.{IsOrdered}

-- events that reject no conversation change nothing behind others
rejected_before : (events others : List Event) → outermost_rejected others ≡ None → outermost_rejected (events ++ others) ≡ outermost_rejected events
rejected_before [] others none = none
rejected_before (Reject p line a cause ∷ events) others none = rejected_before events others none
rejected_before (RejectAll d a p cause ∷ events) others none = ap (further_out (Some d)) (rejected_before events others none)
rejected_before (Error p cause ∷ events) others none = rejected_before events others none
rejected_before (Pass d a ∷ events) others none = rejected_before events others none
rejected_before (Done p ∷ events) others none = rejected_before events others none

-- rejections of private levels alone reject no conversation
private_rejected : (events : List Event) → ArePrivate events → outermost_rejected events ≡ None
private_rejected [] private = refl
private_rejected (Reject p line a cause ∷ events) private = private_rejected events private
private_rejected (RejectAll d a p cause ∷ events) private = absurd private
private_rejected (Error p cause ∷ events) private = absurd private
private_rejected (Pass d a ∷ events) private = absurd private
private_rejected (Done p ∷ events) private = absurd private

-- the last conversation that is rejected is the outermost
last_rejected : (inner : List Event) (last : Event) (d : ℕ) → outermost_rejected (last ∷ []) ≡ Some d
    → outermost_rejected (inner ++ last ∷ []) ≡ Some d
last_rejected [] last d is = is
last_rejected (Reject p line a cause ∷ events) last d is = last_rejected events last d is
last_rejected (RejectAll e a p cause ∷ events) last d is = ap (further_out (Some e)) (last_rejected events last d is)
last_rejected (Error p cause ∷ events) last d is = last_rejected events last d is
last_rejected (Pass e a ∷ events) last d is = last_rejected events last d is
last_rejected (Done p ∷ events) last d is = last_rejected events last d is

outermost_is : (p : ℕ) (conversation : Option ℕ) (events : List Event) → IsOutermost p conversation events
    → outermost_rejected events ≡ conversation
outermost_is p None events private = private_rejected events private
outermost_is p (Some d) events ends = ap outermost_rejected ends.is ∙ last_rejected ends.inner (RejectAll d ends.alternate p ends.cause) d refl

-- errors and completions reject nothing
error_rejects : (p : ℕ) (s t : ProcessStatus) → outermost_rejected (error_at p s t) ≡ None
error_rejects p Running Running = refl
error_rejects p Running Finished = refl
error_rejects p Running (FailedWith cause) = refl
error_rejects p Finished t = refl
error_rejects p (FailedWith cause) t = refl

done_rejects : (p : ℕ) (s t : ProcessStatus) → outermost_rejected (done_at p s t) ≡ None
done_rejects p Running Running = refl
done_rejects p Running Finished = refl
done_rejects p Running (FailedWith cause) = refl
done_rejects p Finished t = refl
done_rejects p (FailedWith cause) t = refl

compared_reject : {S C : Type 0} (f : ℕ → ProcessStatus → ProcessStatus → List Event) → ((p : ℕ) (s t : ProcessStatus) → outermost_rejected (f p s t) ≡ None)
    → (p : ℕ) (before after : List (Process S C)) → outermost_rejected (compared f p before after) ≡ None
compared_reject f one p [] after = refl
compared_reject f one p (q ∷ qs) [] = refl
compared_reject f one p (q ∷ qs) (r ∷ rs) =
    rejected_before (f p q.status r.status) (compared f (p + 1) qs rs) (compared_reject f one (p + 1) qs rs) ∙ one p q.status r.status

-- so what is told of a turn that passed no line rejects what the turn rejected
told_rejects : {S C M : Type 0} (k : Kind S C M) (before : World S C M) (moved : Moved S C M) → moved.passes ≡ []
    → outermost_rejected (told k before moved).events ≡ outermost_rejected moved.rejections
told_rejects k before moved none =
    let errors : List Event = compared error_at 0 before.processes moved.world.processes in
    let completions : List Event = compared done_at 0 before.processes moved.world.processes in
    rejected_before moved.rejections (errors ++ (moved.passes ++ completions))
    (rejected_before errors (moved.passes ++ completions)
    (ap (λ (passes : List Event). outermost_rejected (passes ++ completions)) none
    ∙ compared_reject done_at done_rejects 0 before.processes moved.world.processes)
    ∙ compared_reject error_at error_rejects 0 before.processes moved.world.processes)

-- an undone turn leaves everyone else alone
pub undone-inside : {S C M : Type 0} (k : Kind S C M) (t p : ℕ) (w : World S C M) → IsOrdered k w → LeavesOutsiders p w (turn k t p w)
undone-inside k t p w ordered undone r q here other outside =
    let stays : StaysInside p w (move k t p w) = move-stays k p w t ordered.nested undone in
    let same : outermost_rejected (told k w (move k t p w)).events ≡ stays.conversation =
    told_rejects k w (move k t p w) stays.no_pass ∙ outermost_is p stays.conversation (move k t p w).rejections stays.outermost in
    turn-stays k p w t ordered stays r q here other (subst (λ (o : Option ℕ). IsOutside o q) same outside)
