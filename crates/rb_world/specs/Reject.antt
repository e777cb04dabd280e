-- Rejections. An alternate that fails is undone and the next is tried; where none is left the block fails, which is a
-- failure of the alternate around it (Horning, Lauer, Melliar-Smith, Randell 1974). In a conversation all that are inside
-- go back together to the recovery line (Randell 1975). They do so at the first failure of a member, and a member which
-- enters later starts at the present alternate.
--
-- A level that has no alternate left stays, put back, until the level around it is put back or the process fails; no
-- printed byte tells that from a level that goes at once.
use Rattle.std.specs.Prelude.{ℕ, zero, suc, ◌+◌, nat_eq, nat_lt, Bool, true, false, cond, ◌||◌, List, [], ◌∷◌, length, take, position, slice_get, Option, Some, None}
use Rattle.rb_base.specs.declared.event.Cause.{Cause}
use Rattle.rb_base.specs.declared.event.Cause.TheVariants.{Inner}
use Rattle.rb_base.specs.declared.event.Event.{Event}
use Rattle.rb_base.specs.declared.event.Event.TheVariants.{Reject, RejectAll}
use Rattle.rb_world.specs.Kind.{Kind, Membership}
use Rattle.rb_world.specs.World.{Level, FailedWith, Process, Talk, World, change_at, is_of, is_inside, process_levels, with_process, with_each, with_talks}

-- a process that has failed has no open level
abbrev pub fallen : {S C M : Type 0} → Kind S C M → Cause → Process S C → Process S C
fallen k cause q = record { state = k.cut 0 q.state; levels = []; at_line = false; status = FailedWith cause }

-- the recovery point of a level is put back, and all levels inside it go (1974)
abbrev pub back_to : {S C M : Type 0} → Kind S C M → ℕ → Process S C → Option (Level C) → Process S C
back_to k j q None = q
back_to k j q (Some level) = record {
  state = k.restore (k.cut (j + 1) q.state) level.copy;
  levels = take (j + 1) q.levels;
  at_line = false;
  status = q.status;
}

-- the recovery point of level number j of a process is put back (1974)
abbrev pub put_back : {S C M : Type 0} → Kind S C M → ℕ → Process S C → Process S C
put_back k j q = back_to k j q (slice_get q.levels j)

-- the next alternate of a level, with no turns used (1974)
abbrev pub next_alternate : {C : Type 0} → Level C → Level C
next_alternate level = record { facts = level.facts; alternate = level.alternate + 1; used = 0; copy = level.copy }

-- level number j of a process goes on to its next alternate (1974)
abbrev pub raised : {S C : Type 0} → ℕ → Process S C → Process S C
raised j q = record { state = q.state; levels = change_at j next_alternate q.levels; at_line = q.at_line; status = q.status }

-- the same for whoever has a level of a conversation, each at its place
abbrev pub at_place : {S C : Type 0} → (ℕ → Process S C → Process S C) → Option ℕ → Process S C → Process S C
at_place f None q = q
at_place f (Some j) q = f j q

-- a process inside a conversation is changed at its level of it; any other stays as it is
abbrev pub where_inside : {S C : Type 0} → (ℕ → Process S C → Process S C) → ℕ → Process S C → Process S C
where_inside f c q = at_place f (position (is_of c) q.levels) q

-- the conversation right around one, if there is one (Randell 1975).
abbrev pub parent_of : Option Membership → Option ℕ
parent_of None = None
parent_of (Some group) = group.parent

-- this parent is conversation c, or lies below it
abbrev pub is_under : (ℕ → Bool) → ℕ → Option ℕ → Bool
is_under higher c None = false
is_under higher c (Some e) = nat_eq e c || higher e

-- conversation d lies below c, through at most n parents (nesting: Randell 1975)
abbrev pub is_below : List Membership → ℕ → ℕ → ℕ → Bool
is_below groups zero c d = false
is_below groups (suc n) c d = is_under (is_below groups n c) c (parent_of (slice_get groups d))

-- a conversation returns to alternate 1.
abbrev pub first_again : Talk → Talk
first_again talk = record { alternate = 1; is_broken = talk.is_broken }

-- of the conversations from number d on, those below another return to alternate 1
abbrev pub reset_from : (ℕ → Bool) → ℕ → List Talk → List Talk
reset_from below d [] = []
reset_from below d (talk ∷ talks) = cond (below d) (first_again talk) talk ∷ reset_from below (d + 1) talks

-- every conversation below c returns to alternate 1
abbrev pub reset_below : List Membership → ℕ → List Talk → List Talk
reset_below groups c talks = reset_from (is_below groups (length groups) c) 0 talks

-- a conversation goes on to its next alternate
abbrev pub next_talk : Talk → Talk
next_talk talk = record { alternate = talk.alternate + 1; is_broken = talk.is_broken }

-- a conversation without an alternate left and without a parent is broken for good
abbrev pub broken_talk : Talk → Talk
broken_talk talk = record { alternate = 1; is_broken = true }

-- a world with the events that led to it, the newest last
abbrev pub Happened : Type 0 → Type 0 → Type 0 → Type 0
Happened S C M = World S C M × List Event

-- an event, and after it what followed from it
abbrev pub after_event : {S C M : Type 0} → Event → Happened S C M → Happened S C M
after_event event (w, events) = (w, event ∷ events)

-- An `ensure` was put back: the next alternate, or the level around it. (1974)
abbrev pub private_next : {S C M : Type 0} → Bool → ℕ → ℕ → World S C M → (World S C M → Happened S C M) → Happened S C M
private_next true p j w outer = (with_process p (raised j) w, [])
private_next false p j w outer = outer w

-- an `ensure` is rejected: its state is put back, and then the next alternate is tried (1974)
abbrev pub reject_private : {S C M : Type 0} → Kind S C M → ℕ → ℕ → Cause → Level C → World S C M → (World S C M → Happened S C M) → Happened S C M
reject_private k p j cause level w outer =
    after_event (Reject p level.facts.line level.alternate cause)
    (private_next (nat_lt level.alternate level.facts.alternates) p j (with_process p (put_back k j) w) outer)

-- all that are inside a conversation go back to its recovery line (Randell 1975)
abbrev pub all_back : {S C M : Type 0} → Kind S C M → ℕ → World S C M → World S C M
all_back k c w = with_talks (reset_below k.groups c) (with_each (where_inside (put_back k) c) w)

-- all that are inside a conversation without a parent fail
abbrev pub fallen_inside : {S C M : Type 0} → Kind S C M → ℕ → Process S C → Process S C
fallen_inside k c q = cond (is_inside c q) (fallen k Inner q) q

-- A conversation has no alternate left: the conversation around it is rejected, or it is broken for good.
abbrev pub exhausted_next : {S C M : Type 0} → Kind S C M → Option ℕ → ℕ → World S C M → (World S C M → Happened S C M) → Happened S C M
exhausted_next k None c w outer = (with_talks (change_at c broken_talk) (with_each (fallen_inside k c) w), [])
exhausted_next k (Some parent) c w outer = outer (with_talks (change_at c first_again) w)

-- A conversation was put back: the next alternate for all, if one is left.
abbrev pub together_next : {S C M : Type 0} → Kind S C M → Bool → ℕ → World S C M → (World S C M → Happened S C M) → Happened S C M
together_next k true c w outer = (with_talks (change_at c next_talk) (with_each (where_inside raised c) w), [])
together_next k false c w outer = exhausted_next k (parent_of (slice_get k.groups c)) c w outer

-- a conversation is rejected for all that are inside: back to its recovery line (Randell 1975), and on
abbrev pub reject_together : {S C M : Type 0} → Kind S C M → ℕ → ℕ → Cause → Level C → World S C M → (World S C M → Happened S C M) → Happened S C M
reject_together k p c cause level w outer =
    after_event (RejectAll c level.alternate p cause)
    (together_next k (nat_lt level.alternate level.facts.alternates) c (all_back k c w) outer)

-- a level is rejected alone, or with all that are inside its conversation
abbrev pub reject_either : {S C M : Type 0} → Kind S C M → ℕ → ℕ → Cause → Level C → Option ℕ → World S C M
    → (World S C M → Happened S C M) → Happened S C M
reject_either k p j cause level None w outer = reject_private k p j cause level w outer
reject_either k p j cause level (Some c) w outer = reject_together k p c cause level w outer

-- level number j of process p is rejected; where there is none, nothing happens
abbrev pub reject_at : {S C M : Type 0} → Kind S C M → ℕ → ℕ → Cause → Option (Level C) → World S C M
    → (World S C M → Happened S C M) → Happened S C M
reject_at k p j cause None w outer = (w, [])
reject_at k p j cause (Some level) w outer = reject_either k p j cause level level.facts.conversation w outer

-- Of the levels of p take the first n, counted from the outside: the innermost of these is rejected. If it has no alternate left
-- its block fails, and so the next level out is rejected with the cause `inner`; where n is 0, p itself fails. (1974)
abbrev pub reject : {S C M : Type 0} → Kind S C M → ℕ → ℕ → Cause → World S C M → Happened S C M
reject k p zero cause w = (with_process p (fallen k cause) w, [])
reject k p (suc j) cause w =
    reject_at k p j cause (slice_get (process_levels w p) j) w (λ outer. reject k p j Inner outer)
