-- The rejection of one level, by what its parts ensure: the world has come to where it should, and the next level out can be rejected.
use Rattle.std.proofs.Common.{◌≡◌, ◌∷◌, ◌++◌, ◌<◌, ◌+◌, ℕ, Bool, true, false, not, ◌&&◌, [], List, IsTrue, length, map, nat_eq, nat_lt, get_or, set, slice_get, Some, None, refl, sym, ap, ◌∙◌, subst, true≢false, arith}
use Rattle.std.proofs.lemmas.Option.{slice_get-get_or}
use Rattle.rb_base.specs.declared.event.Cause.{Cause}
use Rattle.rb_base.specs.declared.event.Event.{Event}
use Rattle.rb_world.specs.Nested.{IsLevelOf}
use Rattle.rb_world.specs.Reject.{put_back, where_inside}
use Rattle.rb_world.specs.World.{change_at}
use Rattle.rb_conv.specs.Conversations.{Conversation, conversation_at}
use Rattle.rb_conv.specs.Reject.{has_next, rejected}
use Rattle.rb_conv.proofs.Places.{set-changes}
use Rattle.rb_conv.proofs.TalksAfterCalls.{members_stay}
use Rattle.rb_code.specs.Instructions.Plain.{Code}
use Rattle.rb_recoverable.specs.declared.level_view.LevelView.{LevelView}
use Rattle.rb_proc.specs.Process.{Seen, kind_of}
use Rattle.rb_recoverable.specs.Views.{IsViewOf}
use Rattle.rb_recovery.specs.Cascade.{AreQuiet, MayReject, MayRejectAt, SameGroups}
use Rattle.rb_recovery.specs.Rejections.{HasRejected, changed, rejection_of, tried_alone, tried_together}
use Rattle.rb_recovery.specs.Worlds.{NoneWaits, kind_with, world_of}
use Rattle.rb_recovery.proofs.Rejecting.NextLevelOut.{may_next_alone, may_next_together}
use Rattle.rb_recovery.proofs.Rejecting.OneRejection.{Viewed, happens_alone, happens_together, viewed}
use Rattle.rb_recovery.proofs.Rejecting.QuietProcesses.{quiet_at, quiet_each, rises_inside, rises_put_back, waits_at, waits_each}
use Rattle.rb_recovery.proofs.Rejecting.RejectedLevels.{same_rejection}
use Rattle.rb_recovery.proofs.Rejecting.RowsKept.{counts_rejected}
use Rattle.rb_recovery.proofs.Beginning.SomeCode.{some_code}

-- no alternate is left
none_left : (spent more : Bool) → spent ≡ not more → IsTrue spent → more ≡ false
none_left spent true e is = absurd (true≢false (sym is ∙ e))
none_left spent false e is = refl

-- and another level is around
both_left : (spent more lone : Bool) → spent ≡ (not more && not lone) → IsTrue spent → (more ≡ false) × (lone ≡ false)
both_left spent true lone e is = absurd (true≢false (sym is ∙ e))
both_left spent false true e is = absurd (true≢false (sym is ∙ e))
both_left spent false false e is = (refl, refl)

-- members, parents and numbers of alternates stay
pub same_groups : (table table' : List Conversation) (c : ℕ) → table' ≡ rejected c table → SameGroups table table'
same_groups table table' c same =
    subst (SameGroups table) (sym same) (record { members = (members_stay table c 0).rejection; counts = counts_rejected table c })

module _ (procs : List Seen) (table : List Conversation) (p j : ℕ) (d : Seen) (view : LevelView) (within : p < length procs)
    (may : MayRejectAt procs table p (j + 1)) (is : IsViewOf (slice_get (get_or procs p d).process.levels j) view) where
  there : slice_get procs p ≡ Some (get_or procs p d)
  there = slice_get-get_or procs p d within

  seen : Viewed (get_or procs p d).process.levels j view
  seen = viewed (get_or procs p d).process.levels j view is

  may_one : MayReject table (j + 1) (get_or procs p d).process.levels
  may_one = may (get_or procs p d) there

  at_level : (c : ℕ) → view.conversation ≡ Some c → IsLevelOf c (get_or procs p d).process.levels j
  at_level c of_c = record { level = seen.level; there = seen.there; of_it = seen.conversation ∙ of_c }

  -- the conversation is there
  pub conversation_there : (c : ℕ) → view.conversation ≡ Some c → c < length table
  conversation_there c of_c = (may_one.tries j c (at_level c of_c) (omega arith)).there

  -- a level alone
  module _ (new e : Seen) (more : Bool) (is_new : (c : Code) → new ≡ changed (tried_alone (kind_of c) more j) (get_or procs p e))
      (is_more : more ≡ nat_lt view.alternate view.alternates) where
    same_at : (c : Code) → set procs p new ≡ change_at p (changed (tried_alone (kind_of c) more j)) procs
    same_at c = ap (set procs p) (is_new c) ∙ set-changes (changed (tried_alone (kind_of c) more j)) procs p e within

    pub alone_rejected : (cause : Cause) (spent : Bool) (event : Event) (events events' : List Event) → view.conversation ≡ None → spent ≡ not more
        → event ≡ rejection_of p view cause → events' ≡ events ++ event ∷ []
        → HasRejected p j cause spent procs table events (set procs p new) table events'
    alone_rejected cause spent event events events' alone is_spent is_event added = record {
      event = event;
      told = added;
      worlds = λ c memory.
          same_rejection (kind_with c table) p j cause (world_of procs table memory) (sym (is_spent ∙ ap not is_more)) (sym is_event) refl
          (happens_alone procs table p j cause (get_or procs p d) view there seen c memory alone (set procs p new)
          (same_at c ∙ ap (λ (b : Bool). change_at p (changed (tried_alone (kind_of c) b j)) procs) is_more));
    }

    spent_at : (spent : Bool) → spent ≡ not more → IsTrue spent → change_at p (changed (put_back (kind_of some_code) j)) procs ≡ set procs p new
    spent_at spent is_spent holds =
        sym (same_at some_code
        ∙ ap (λ (b : Bool). change_at p (changed (tried_alone (kind_of some_code) b j)) procs) (none_left spent more is_spent holds))

    pub alone_may : (spent : Bool) → spent ≡ not more → IsTrue spent → MayRejectAt (set procs p new) table p j
    alone_may spent is_spent holds =
        subst (λ (later : List Seen). MayRejectAt later table p j) (spent_at spent is_spent holds)
        (may_next_alone (kind_of some_code) procs table p j (get_or procs p d) seen.level there seen.there may_one)

    pub alone_quiet : AreQuiet procs → (spent : Bool) → spent ≡ not more → IsTrue spent → AreQuiet (set procs p new)
    alone_quiet quiet spent is_spent holds =
        subst AreQuiet (spent_at spent is_spent holds)
        (quiet_at p (put_back (kind_of some_code) j) (rises_put_back (kind_of some_code) j) procs quiet)

    pub alone_waits : AreQuiet procs → NoneWaits (set procs p new)
    alone_waits quiet =
        subst NoneWaits (sym (same_at some_code)) (waits_at p (tried_alone (kind_of some_code) more j) procs quiet.lines)

  -- all that are inside a conversation
  module _ (c : ℕ) (of_c : view.conversation ≡ Some c) (procs' : List Seen) (table' : List Conversation) (is_table : table' ≡ rejected c table)
      (is_new : (code : Code) → procs' ≡ map (changed (tried_together (kind_of code) (has_next (conversation_at table c)) (nat_eq j 0) c)) procs)
      (spent : Bool) (is_spent : spent ≡ (not (has_next (conversation_at table c)) && not (nat_eq j 0))) where
    pub together_rejected : (cause : Cause) (event : Event) (events events' : List Event) → event ≡ rejection_of p view cause
        → events' ≡ events ++ event ∷ [] → HasRejected p j cause spent procs table events procs' table' events'
    together_rejected cause event events events' is_event added = record {
      event = event;
      told = added;
      worlds = λ code memory.
          same_rejection (kind_with code table) p j cause (world_of procs table memory) (sym is_spent) (sym is_event)
          (ap (λ (later : List Conversation). world_of procs' later memory) (sym is_table))
          (happens_together procs table p j cause (get_or procs p d) view there seen code memory c of_c may_one procs' (is_new code));
    }

    all_spent : IsTrue spent → map (changed (where_inside (put_back (kind_of some_code)) c)) procs ≡ procs'
    all_spent holds =
        let both = both_left spent (has_next (conversation_at table c)) (nat_eq j 0) is_spent holds in
        sym (is_new some_code
        ∙ ap (λ (b : Bool). map (changed (tried_together (kind_of some_code) b (nat_eq j 0) c)) procs) both.0
        ∙ ap (λ (b : Bool). map (changed (tried_together (kind_of some_code) false b c)) procs) both.1)

    pub together_may : IsTrue spent → MayRejectAt procs' table' p j
    together_may holds =
        subst (λ (later : List Conversation). MayRejectAt procs' later p j) (sym is_table)
        (subst (λ (later : List Seen). MayRejectAt later (rejected c table) p j) (all_spent holds)
        (may_next_together (kind_of some_code) procs table p j (get_or procs p d) seen.level there seen.there may_one c
        (conversation_there c of_c) (seen.conversation ∙ of_c)))

    pub together_quiet : AreQuiet procs → IsTrue spent → AreQuiet procs'
    together_quiet quiet holds =
        subst AreQuiet (all_spent holds)
        (quiet_each (where_inside (put_back (kind_of some_code)) c) (rises_inside (kind_of some_code) c) procs quiet)

    pub together_waits : AreQuiet procs → NoneWaits procs'
    together_waits quiet =
        subst NoneWaits (sym (is_new some_code))
        (waits_each (tried_together (kind_of some_code) (has_next (conversation_at table c)) (nat_eq j 0) c) procs quiet.lines)
