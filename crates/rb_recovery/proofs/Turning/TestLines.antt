-- Test lines, where they are passed and where not, in the world that the machine's parts stand for.
use Rattle.std.proofs.Common.{◌≡◌, ℕ, zero, suc, ◌<◌, Bool, true, false, cond, ◌&&◌, List, [], ◌∷◌, length, map, drop, slice_get, Option, Some, None, refl, ap, sym, ◌∙◌, subst, arith}
use Rattle.std.specs.List.{list_all}
use Rattle.rb_base.specs.declared.event.Event.{Event}
use Rattle.rb_base.specs.declared.event.Event.TheVariants.{Pass}
use Rattle.rb_world.specs.Reject.{first_again}
use Rattle.rb_world.specs.Standing.{Each}
use Rattle.rb_world.specs.Turn.{Moved, accepted, accepted_at, all_leave, all_stand, alternate_of, at_test_line, leaves, members_of, passed, took}
use Rattle.rb_world.specs.World.{Level, Process, change_at, last_of, talk_at}
use Rattle.rb_world.proofs.ListFacts.{none_some, some_same, Each-change_at, first_holds, second_holds}
use Rattle.rb_code.specs.Instructions.Plain.{Code}
use Rattle.rb_code.specs.WordMachine.Turn.{Common, Copy, Standing}
use Rattle.rb_conv.specs.Conversations.{Conversation, conversation_at, emptied, membership, memberships, talks}
use Rattle.rb_conv.proofs.TalksAfterCalls.{map_changed, map_same, members_stay, talks_are_the_worlds}
use Rattle.rb_proc.specs.Process.{Seen}
use Rattle.rb_recovery.specs.Cascade.{SameGroups}
use Rattle.rb_recovery.specs.Channels.{conversation_in}
use Rattle.rb_recovery.specs.TestLines.{HasTaken, HoldsTest, MayLeave, level_gone, line_left, stood}
use Rattle.rb_recovery.specs.Worlds.{NoneWaits, counts_of, kind_with, processes_of, world_of}
use Rattle.rb_recovery.proofs.Changed.{all_changed, all_mapped, change_there, none_last}

-- the members of a conversation that is there
pub members_there : (table : List Conversation) (d : ℕ) → d < length table
    → members_of (slice_get (memberships table) d) ≡ (membership (conversation_at table d)).members
members_there [] d h = absurd (omega (arith, h))
members_there (x ∷ xs) zero h = refl
members_there (x ∷ xs) (suc d) h = members_there xs d (omega (arith, h))

-- a test that held of the elements behind one, and holds of it, holds from it on
pub one_more : {A : Type 0} (f : A → Bool) (xs : List A) (k : ℕ) (x : A) → list_all f (drop (suc k) xs) ≡ true → slice_get xs k ≡ Some x
    → f x ≡ true → list_all f (drop k xs) ≡ true
one_more f [] k x all e one = absurd (none_some e)
one_more f (y ∷ ys) zero x all e one = ap (λ b. b && list_all f ys) (ap f (some_same e) ∙ one) ∙ all
one_more f (y ∷ ys) (suc k) x all e one = one_more f ys k x all e one

-- and fails of all where it fails of one
pub not_all : {A : Type 0} (f : A → Bool) (xs : List A) (k : ℕ) (x : A) → slice_get xs k ≡ Some x → f x ≡ false → list_all f xs ≡ false
not_all f [] k x e one = absurd (none_some e)
not_all f (y ∷ ys) zero x e one = ap (λ b. b && list_all f ys) (ap f (some_same e) ∙ one)
not_all f (y ∷ ys) (suc k) x e one = ap (λ b. f y && b) (not_all f ys k x e one) ∙ none_of (f y)
  where
    none_of : (b : Bool) → (b && false) ≡ false
    none_of true = refl
    none_of false = refl

-- all who stand at a line have left it
lines_left : (c : Code) (table : List Conversation) (d : ℕ) (procs : List Seen)
    → processes_of (map (line_left c d) procs) ≡ map (leaves (kind_with c table) d) (processes_of procs)
lines_left c table d [] = refl
lines_left c table d (one ∷ procs) =
    ap (λ (qs : List (Process Standing Copy)). leaves (kind_with c table) d one.process ∷ qs) (lines_left c table d procs)

-- the alternate of a conversation that is there
alternate_there : (table : List Conversation) (d : ℕ) → d < length table
    → (conversation_at table d).talk.alternate ≡ alternate_of (slice_get (talks table) d)
alternate_there [] d h = absurd (omega (arith, h))
alternate_there (x ∷ xs) zero h = refl
alternate_there (x ∷ xs) (suc d) h = alternate_there xs d (omega (arith, h))

-- members, parents and numbers of alternates stay where a line is passed
pub pass_same : (table table' : List Conversation) (d : ℕ) → table' ≡ change_at d emptied table → SameGroups table table'
pass_same table table' d e = record {
  members = ap memberships e ∙ (members_stay table d 0).passing;
  counts = ap counts_of e ∙ map_same (λ (x : Conversation). x.alternates) emptied d table (λ x. refl);
}

pub same_table : (table : List Conversation) → SameGroups table table
same_table table = record { members = refl; counts = refl }

-- nobody waits where no line waits is changed
pub gone_waits : (c : Code) (p : ℕ) (procs procs' : List Seen) → procs' ≡ change_at p (level_gone c) procs → NoneWaits procs → NoneWaits procs'
gone_waits c p procs procs' e h =
    subst NoneWaits (sym e) (all_changed (λ (one : Seen). one.waiting ≡ []) p (level_gone c) procs (λ one none. none) h)

pub stood_waits : (p : ℕ) (procs procs' : List Seen) → procs' ≡ change_at p stood procs → NoneWaits procs → NoneWaits procs'
stood_waits p procs procs' e h =
    subst NoneWaits (sym e) (all_changed (λ (one : Seen). one.waiting ≡ []) p stood procs (λ one none. none) h)

pub left_waits : (c : Code) (d : ℕ) (procs procs' : List Seen) → procs' ≡ map (line_left c d) procs → NoneWaits procs → NoneWaits procs'
left_waits c d procs procs' e h =
    subst NoneWaits (sym e) (all_mapped (λ (one : Seen). one.waiting ≡ []) (line_left c d) procs (λ one none. none) h)

-- the test line is not passed
pub line_waits : (c : Code) (memory : Common) (procs : List Seen) (table : List Conversation) (d : ℕ)
    → all_stand (kind_with c table) d (world_of procs table memory) ≡ false
    → HasTaken memory procs table None (at_test_line (kind_with c table) d (world_of procs table memory))
line_waits c memory procs table d e =
    subst (λ (b : Bool). HasTaken memory procs table None
    (cond b (passed (Pass d (alternate_of (talk_at (world_of procs table memory) d))) (all_leave (kind_with c table) d (world_of procs table memory)))
    (took (world_of procs table memory))))
    (sym e) (record { world = refl; kind = refl; rejections = refl; passes = refl })

-- it is passed
pub line_passed : (c : Code) (memory : Common) (procs procs' : List Seen) (table table' : List Conversation) (d alternate : ℕ) → d < length table
    → all_stand (kind_with c table) d (world_of procs table memory) ≡ true → procs' ≡ map (line_left c d) procs → table' ≡ change_at d emptied table
    → alternate ≡ (conversation_at table d).talk.alternate
    → HasTaken memory procs' table' (Some (Pass d alternate)) (at_test_line (kind_with c table) d (world_of procs table memory))
line_passed c memory procs procs' table table' d alternate h e left gone tries =
    let w = world_of procs table memory in
    let processes : processes_of procs' ≡ map (leaves (kind_with c table) d) (processes_of procs) =
    ap processes_of left ∙ lines_left c table d procs in
    let talks_after : talks table' ≡ change_at d first_again (talks table) = ap talks gone ∙ (talks_are_the_worlds.1 table d 0).passing in
    subst (λ (b : Bool). HasTaken memory procs' table' (Some (Pass d alternate))
    (cond b (passed (Pass d (alternate_of (talk_at w d))) (all_leave (kind_with c table) d w)) (took w)))
    (sym e) (record {
      world = ap (λ qs. record { processes = qs; talks = talks table'; memory = memory }) processes
          ∙ ap (λ ts. record { processes = map (leaves (kind_with c table) d) (processes_of procs); talks = ts; memory = memory }) talks_after;
      kind = refl;
      rejections = refl;
      passes = ap (λ n. Pass d n ∷ []) (tries ∙ alternate_there table d h);
    })

module _ (c : Code) (memory : Common) (procs : List Seen) (table : List Conversation) (p : ℕ) (one : Seen)
    (there : slice_get procs p ≡ Some one) where
  -- what an acceptance comes to, by the innermost level and by its conversation
  abbrev Comes : Option (Level Copy) → Moved Standing Copy Common
  Comes o = accepted (kind_with c table) p one.process.levels o (world_of procs table memory) (one.process.state, memory)

  abbrev ComesAt : Option ℕ → Moved Standing Copy Common
  ComesAt o = accepted_at (kind_with c table) p one.process.levels o (world_of procs table memory) (one.process.state, memory)

  -- a private level has gone
  pub alone_taken : (procs' : List Seen) → 0 < length one.process.levels → conversation_in (last_of one.process.levels) ≡ None
      → procs' ≡ change_at p (level_gone c) procs → HasTaken memory procs' table None (Comes (last_of one.process.levels))
  alone_taken procs' inside alone gone = by (last_of one.process.levels) refl alone
    where
      at_none : HasTaken memory procs' table None (ComesAt None)
      at_none = record {
        world = ap (λ (qs : List (Process Standing Copy)). record { processes = qs; talks = talks table; memory = memory })
            (ap processes_of (gone ∙ change_there p (level_gone c) one procs there)
            ∙ map_changed (λ (x : Seen). x.process) (λ _. level_gone c one) (λ _. (level_gone c one).process) p procs (λ x e. refl));
        kind = refl;
        rejections = refl;
        passes = refl;
      }

      by : (o : Option (Level Copy)) → last_of one.process.levels ≡ o → conversation_in o ≡ None → HasTaken memory procs' table None (Comes o)
      by None last alone = absurd (none_last one.process.levels inside last)
      by (Some level) last alone = subst (λ (o : Option ℕ). HasTaken memory procs' table None (ComesAt o)) (sym alone) at_none

  -- a member has come to its test line
  pub together_taken : (d : ℕ) (procs1 procs' : List Seen) (table' : List Conversation) (pass : Option Event)
      → Some d ≡ conversation_in (last_of one.process.levels) → procs1 ≡ change_at p stood procs
      → HasTaken memory procs' table' pass (at_test_line (kind_with c table) d (world_of procs1 table memory))
      → HasTaken memory procs' table' pass (Comes (last_of one.process.levels))
  together_taken d procs1 procs' table' pass of_it stands h = by (last_of one.process.levels) of_it
    where
      at_some : HasTaken memory procs' table' pass (ComesAt (Some d))
      at_some =
          subst (λ (qs : List (Process Standing Copy)). HasTaken memory procs' table' pass
          (at_test_line (kind_with c table) d (record { processes = qs; talks = talks table; memory = memory })))
          (ap processes_of (stands ∙ change_there p stood one procs there)
          ∙ map_changed (λ (x : Seen). x.process) (λ _. stood one) (λ _. (stood one).process) p procs (λ x e. refl))
          h

      by : (o : Option (Level Copy)) → Some d ≡ conversation_in o → HasTaken memory procs' table' pass (Comes o)
      by None of_it = absurd (none_some (sym of_it))
      by (Some level) of_it = subst (λ (o : Option ℕ). HasTaken memory procs' table' pass (ComesAt o)) of_it at_some

-- who stands may leave, and the others still may
pub stood_leave : (c : Code) (p : ℕ) (procs procs' : List Seen) → procs' ≡ change_at p stood procs
    → ((one : Seen) → slice_get procs p ≡ Some one → HoldsTest c one) → Each (MayLeave c) procs → Each (MayLeave c) procs'
stood_leave c p procs procs' e holds each =
    subst (Each (MayLeave c)) (sym e) (Each-change_at (MayLeave c) p stood procs each (λ one there at_line. (holds one there).settles))
