-- Once a level is spent, process p can be rejected from the next level out on.
use Rattle.std.proofs.Common.{◌≡◌, ◌<◌, ◌+◌, ℕ, List, length, map, option_map, slice_get, take, Option, Some, sym, ap, ◌∙◌, subst}
use Rattle.std.proofs.lemmas.Option.{slice_get-map}
use Rattle.rb_world.specs.Kind.{Kind}
use Rattle.rb_world.specs.Nested.{IsLevelOf}
use Rattle.rb_world.specs.Reject.{back_to, put_back, where_inside}
use Rattle.rb_world.specs.World.{Level, Process, change_at}
use Rattle.rb_world.proofs.ListFacts.{slice_get-change_at, some_same}
use Rattle.rb_world.proofs.Members.CascadeSteps.{changed_inside}
use Rattle.rb_conv.specs.Conversations.{Conversation, memberships}
use Rattle.rb_conv.specs.Reject.{rejected}
use Rattle.rb_code.specs.WordMachine.Turn.{Common, Copy, Standing}
use Rattle.rb_proc.specs.Process.{Seen}
use Rattle.rb_recovery.specs.Cascade.{MayReject, MayRejectAt}
use Rattle.rb_recovery.specs.Rejections.{changed}
use Rattle.rb_recovery.proofs.Rejecting.FurtherOut.{may_after_alone, may_after_together, place_of_level}

module _ (k : Kind Standing Copy Common) (procs : List Seen) (table : List Conversation) (p j : ℕ) (one : Seen) (level : Level Copy)
    (there : slice_get procs p ≡ Some one) (here : slice_get one.process.levels j ≡ Some level)
    (may : MayReject table (j + 1) one.process.levels) where
  levels_back : (put_back k j one.process).levels ≡ take (j + 1) one.process.levels
  levels_back = ap (λ (o : Option (Level Copy)). (back_to k j one.process o).levels) here

  -- a private level was spent
  pub may_next_alone : MayRejectAt (change_at p (changed (put_back k j)) procs) table p j
  may_next_alone later e =
      let same : changed (put_back k j) one ≡ later = some_same
      (sym (slice_get-change_at p (changed (put_back k j)) procs ∙ ap (option_map (changed (put_back k j))) there) ∙ e) in
      subst (MayReject table j) (sym levels_back ∙ ap (λ (seen : Seen). seen.process.levels) same) (may_after_alone table j one.process.levels may)

  -- a level of a conversation was spent
  pub may_next_together : (c : ℕ) → c < length table → level.facts.conversation ≡ Some c
      → MayRejectAt (map (changed (where_inside (put_back k) c)) procs) (rejected c table) p j
  may_next_together c within of_c later e =
      let f = changed (where_inside (put_back k) c) in
      let at : IsLevelOf c one.process.levels j = record { level = level; there = here; of_it = of_c } in
      let same : f one ≡ later = some_same (sym (slice_get-map f procs p ∙ ap (option_map f) there) ∙ e) in
      let back : where_inside (put_back k) c one.process ≡ put_back k j one.process =
      changed_inside (put_back k) c j one.process (place_of_level (memberships table) c j one.process.levels may.nested at) in
      subst (MayReject (rejected c table) j)
      (sym (ap (λ (q : Process Standing Copy). q.levels) back ∙ levels_back) ∙ ap (λ (seen : Seen). seen.process.levels) same)
      (may_after_together table c j one.process.levels within at may)
