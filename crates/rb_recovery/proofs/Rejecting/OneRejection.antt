-- What the machine does at one rejection is what the world does: of a level alone, and of all that are inside a conversation.
use Rattle.std.proofs.Common.{◌≡◌, ◌+◌, ℕ, Bool, not, ◌&&◌, nat_eq, nat_lt, List, map, slice_get, Option, Some, None, refl, sym, ap, ◌∙◌, arith}
use Rattle.std.specs.Option.{is_none}
use Rattle.rb_base.specs.declared.event.Cause.{Cause}
use Rattle.rb_base.specs.declared.event.Event.TheVariants.{Reject, RejectAll}
use Rattle.rb_world.specs.Kind.{Facts}
use Rattle.rb_world.specs.Nested.{IsLevelOf}
use Rattle.rb_world.specs.Reject.{parent_of, reset_below}
use Rattle.rb_world.specs.World.{Level, Process, Talk, change_at, process_levels}
use Rattle.rb_conv.specs.Conversations.{Conversation, conversation_at, memberships, talks}
use Rattle.rb_conv.specs.Laws.{talk_after}
use Rattle.rb_conv.specs.Reject.{has_next, rejected}
use Rattle.rb_conv.proofs.TalksAfterCalls.{talks_are_the_worlds}
use Rattle.rb_code.specs.Instructions.Plain.{Code}
use Rattle.rb_code.specs.WordMachine.Turn.{Common, Copy, Standing}
use Rattle.rb_recoverable.specs.declared.level_view.LevelView.{LevelView}
use Rattle.rb_proc.specs.Process.{Seen, kind_of}
use Rattle.rb_recoverable.specs.Views.{IsViewOf}
use Rattle.rb_recovery.specs.Cascade.{MayReject, TriesWith}
use Rattle.rb_recovery.specs.Rejections.{IsRejection, changed, rejection_of, told_of, tried_alone, tried_together}
use Rattle.rb_recovery.specs.Worlds.{kind_with, processes_of, world_of}
use Rattle.rb_recovery.proofs.Rejecting.FurtherOut.{lone_outermost}
use Rattle.rb_recovery.proofs.Rejecting.RejectedLevels.{rejected_alone, rejected_together, same_rejection}
use Rattle.rb_recovery.proofs.SeenWorlds.{levels_there, processes_at, processes_each}

-- the level that a view tells of
pub record Viewed (levels : List (Level Copy)) (j : ℕ) (view : LevelView) : Type 0 where
  pub level : Level Copy
  pub there : slice_get levels j ≡ Some level
  pub conversation : level.facts.conversation ≡ view.conversation
  pub line : level.facts.line ≡ view.line
  pub alternates : level.facts.alternates ≡ view.alternates
  pub alternate : level.alternate ≡ view.alternate

viewed_at : (levels : List (Level Copy)) (j : ℕ) (view : LevelView) (o : Option (Level Copy)) → slice_get levels j ≡ o
    → IsViewOf o view → Viewed levels j view
viewed_at levels j view None e is = absurd is
viewed_at levels j view (Some level) e is = record {
  level = level;
  there = e;
  conversation = sym (ap (λ (f : Facts). f.conversation) is.0);
  line = sym (ap (λ (f : Facts). f.line) is.0);
  alternates = sym (ap (λ (f : Facts). f.alternates) is.0);
  alternate = sym is.1;
}

pub viewed : (levels : List (Level Copy)) (j : ℕ) (view : LevelView) → IsViewOf (slice_get levels j) view → Viewed levels j view
viewed levels j view is = viewed_at levels j view (slice_get levels j) refl is

-- whether an alternate is left
more_seen : (levels : List (Level Copy)) (j : ℕ) (view : LevelView) (seen : Viewed levels j view)
    → nat_lt seen.level.alternate seen.level.facts.alternates ≡ nat_lt view.alternate view.alternates
more_seen levels j view seen =
    ap (λ (n : ℕ). nat_lt n seen.level.facts.alternates) seen.alternate ∙ ap (nat_lt view.alternate) seen.alternates

module _ (procs : List Seen) (table : List Conversation) (p j : ℕ) (cause : Cause) (one : Seen) (view : LevelView)
    (there : slice_get procs p ≡ Some one)
    (seen : Viewed one.process.levels j view) (code : Code) (memory : Common) where
  level_seen : slice_get (process_levels (world_of procs table memory) p) j ≡ Some seen.level
  level_seen = ap (λ (levels : List (Level Copy)). slice_get levels j) (levels_there procs table memory p one there) ∙ seen.there

  -- a private level
  pub happens_alone : view.conversation ≡ None → (procs' : List Seen)
      → procs' ≡ change_at p (changed (tried_alone (kind_of code) (nat_lt view.alternate view.alternates) j)) procs
      → IsRejection (kind_with code table) p j cause (not (nat_lt view.alternate view.alternates)) (rejection_of p view cause)
      (world_of procs table memory) (world_of procs' table memory)
  happens_alone alone procs' same =
      let w = world_of procs table memory in
      let k = kind_with code table in
      let more = nat_lt view.alternate view.alternates in
      let told : Reject p seen.level.facts.line seen.level.alternate cause ≡ rejection_of p view cause =
      ap (λ (l : ℕ). Reject p l seen.level.alternate cause) seen.line
      ∙ ap (λ (a : ℕ). Reject p view.line a cause) seen.alternate
      ∙ ap (told_of p view cause) (sym alone) in
      let after : change_at p (tried_alone k more j) w.processes ≡ processes_of procs' =
      sym (ap processes_of same ∙ processes_at p (tried_alone k more j) procs) in
      same_rejection k p j cause w refl told
      (ap (λ (qs : List (Process Standing Copy)). record { processes = qs; talks = talks table; memory = memory }) after)
      (rejected_alone k p j cause w seen.level level_seen (seen.conversation ∙ alone) more (more_seen one.process.levels j view seen))

  -- a level of a conversation
  pub happens_together : (c : ℕ) → view.conversation ≡ Some c → MayReject table (j + 1) one.process.levels → (procs' : List Seen)
      → procs' ≡ map (changed (tried_together (kind_of code) (has_next (conversation_at table c)) (nat_eq j 0) c)) procs
      → IsRejection (kind_with code table) p j cause (not (has_next (conversation_at table c)) && not (nat_eq j 0)) (rejection_of p view cause)
      (world_of procs table memory) (world_of procs' (rejected c table) memory)
  happens_together c of_c may procs' same =
      let w = world_of procs table memory in
      let k = kind_with code table in
      let groups = memberships table in
      let more = has_next (conversation_at table c) in
      let parent = parent_of (slice_get groups c) in
      let at : IsLevelOf c one.process.levels j = record { level = seen.level; there = seen.there; of_it = seen.conversation ∙ of_c } in
      let tries : TriesWith table c seen.level = may.tries j c at (omega arith) in
      let left : nat_lt seen.level.alternate seen.level.facts.alternates ≡ more =
      ap (λ (n : ℕ). nat_lt n seen.level.facts.alternates) tries.present ∙ ap (nat_lt (conversation_at table c).talk.alternate) tries.as_many in
      let lone : is_none parent ≡ nat_eq j 0 = lone_outermost groups c j one.process.levels may.nested at in
      let told : RejectAll c seen.level.alternate p cause ≡ rejection_of p view cause =
      ap (λ (a : ℕ). RejectAll c a p cause) seen.alternate ∙ ap (told_of p view cause) (sym of_c) in
      let after : map (tried_together k more (is_none parent) c) w.processes ≡ processes_of procs' =
      ap (λ (b : Bool). map (tried_together k more b c) w.processes) lone
      ∙ sym (ap processes_of same ∙ processes_each (tried_together k more (nat_eq j 0) c) procs) in
      let reset : List Talk = change_at c (talk_after more parent) (reset_below groups c w.talks) in
      let talked : reset ≡ talks (rejected c table) = sym (talks_are_the_worlds.1 table c p).rejection in
      same_rejection k p j cause w (ap (λ (b : Bool). not more && not b) lone) told
      (ap (λ (qs : List (Process Standing Copy)). record { processes = qs; talks = reset; memory = memory }) after
      ∙ ap (λ (ts : List Talk). record { processes = processes_of procs'; talks = ts; memory = memory }) talked)
      (rejected_together k p j cause w seen.level level_seen c (seen.conversation ∙ of_c) more left parent refl)
