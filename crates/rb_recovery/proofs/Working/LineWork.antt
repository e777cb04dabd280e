-- What is named on the way to the next turn, of a process whose innermost level goes, and of all who leave a test line.
use Rattle.std.proofs.Common.{◌≡◌, ℕ, ◌+◌, ◌*◌, ◌<◌, ◌≤◌, Bool, true, cond, List, length, take, get_or, slice_get, sum_by, Option, Some, None, refl, ap, sym, ◌∙◌, subst, arith}
use Rattle.std.proofs.lemmas.List.{get_or_default, take_all}
use Rattle.rb_world.specs.Turn.{all_stand, stands_at}
use Rattle.rb_world.specs.World.{Level, Process, change_at, last_of}
use Rattle.rb_world.proofs.ListFacts.{none_some}
use Rattle.rb_code.specs.Instructions.Plain.{Code}
use Rattle.rb_code.specs.WordMachine.Turn.{Common, Copy, Standing}
use Rattle.rb_conv.specs.Conversations.{Conversation, memberships, talks}
use Rattle.rb_conv.proofs.TalksAfterCalls.{map_changed}
use Rattle.rb_proc.specs.Process.{Seen}
use Rattle.rb_trace.proofs.Counted.{counted_more}
use Rattle.rb_recovery.specs.Channels.{conversation_in}
use Rattle.rb_recovery.specs.TestLines.{stood}
use Rattle.rb_recovery.specs.Work.{named_accepted, named_accepted_at, named_at_line, named_by_member, named_leaving}
use Rattle.rb_recovery.specs.Worlds.{kind_with, processes_of, world_of}
use Rattle.rb_recovery.proofs.Changed.{change_there, none_last}

-- one process more
pub one_more_named : (f : Process Standing Copy → ℕ) (old now : List Seen) (i : ℕ) (d : Seen) (start so_far after : ℕ) → i < length old
    → get_or now i d ≡ get_or old i d → so_far ≤ start + 3 * sum_by f (processes_of (take i old)) → after ≤ so_far + 3 * f (get_or now i d).process
    → after ≤ start + 3 * sum_by f (processes_of (take (i + 1) old))
one_more_named f old now i d start so_far after h same before more =
    let here = get_or_default old i d (get_or old i d) h in
    let next = counted_more f (λ (one : Seen). one.process) old i (get_or old i d) h here in
    let is = ap (λ (one : Seen). f one.process) same in
    omega (arith, before, more, is, next)

-- and all of them
pub all_named : (f : Process Standing Copy → ℕ) (procs : List Seen) (i start after : ℕ) → length procs ≤ i
    → after ≤ start + 3 * sum_by f (processes_of (take i procs)) → after ≤ start + 3 * sum_by f (processes_of procs)
all_named f procs i start after h before =
    subst (λ (xs : List Seen). after ≤ start + 3 * sum_by f (processes_of xs)) (take_all i procs h) before

module _ (c : Code) (start after : ℕ) where
  -- at most three ticks for each of so many words
  abbrev Within : ℕ → Type 0
  Within n = after ≤ start + 3 * n

  -- who stands at the line leaves
  pub member_leaves : (d : ℕ) (q : Process Standing Copy) → stands_at d q ≡ true → Within (named_leaving c q.state q.levels)
      → Within (named_by_member c d q)
  member_leaves d q e h = subst (λ (b : Bool). Within (cond b (named_leaving c q.state q.levels) 0)) (sym e) h

  -- the line is passed
  pub line_named : (memory : Common) (procs : List Seen) (table : List Conversation) (d : ℕ)
      → all_stand (kind_with c table) d (world_of procs table memory) ≡ true → Within (sum_by (named_by_member c d) (processes_of procs))
      → Within (named_at_line c (memberships table) d (world_of procs table memory))
  line_named memory procs table d e h =
      subst (λ (b : Bool). Within (cond b (sum_by (named_by_member c d) (processes_of procs)) 0)) (sym e) h

  module _ (memory : Common) (procs : List Seen) (table : List Conversation) (p : ℕ) (one : Seen) (there : slice_get procs p ≡ Some one) where
    -- what is named, by the innermost level and by its conversation
    abbrev Named : Option (Level Copy) → ℕ
    Named o = named_accepted c (memberships table) p one.process.levels o (world_of procs table memory) one.process.state

    abbrev NamedAt : Option ℕ → ℕ
    NamedAt o = named_accepted_at c (memberships table) p one.process.levels o (world_of procs table memory) one.process.state

    -- a private level has gone
    pub alone_named : 0 < length one.process.levels → conversation_in (last_of one.process.levels) ≡ None
        → Within (named_leaving c one.process.state one.process.levels) → Within (Named (last_of one.process.levels))
    alone_named inside alone h = by (last_of one.process.levels) (none_last one.process.levels inside) alone
      where
        by : (o : Option (Level Copy)) → (o ≡ None → ⊥) → conversation_in o ≡ None → Within (Named o)
        by None some alone = absurd (some refl)
        by (Some level) some alone = subst (λ (o : Option ℕ). Within (NamedAt o)) (sym alone) h

    -- a member has come to its test line
    pub together_named : (d : ℕ) (procs' : List Seen) → Some d ≡ conversation_in (last_of one.process.levels) → procs' ≡ change_at p stood procs
        → Within (named_at_line c (memberships table) d (world_of procs' table memory)) → Within (Named (last_of one.process.levels))
    together_named d procs' of_it stands h = by (last_of one.process.levels) of_it
      where
        at_some : Within (NamedAt (Some d))
        at_some =
            subst (λ (qs : List (Process Standing Copy)). Within
            (named_at_line c (memberships table) d (record { processes = qs; talks = talks table; memory = memory })))
            (ap processes_of (stands ∙ change_there p stood one procs there)
            ∙ map_changed (λ (x : Seen). x.process) (λ _. stood one) (λ _. (stood one).process) p procs (λ x e. refl))
            h

        by : (o : Option (Level Copy)) → Some d ≡ conversation_in o → Within (Named o)
        by None of_it = absurd (none_some (sym of_it))
        by (Some level) of_it = subst (λ (o : Option ℕ). Within (NamedAt o)) of_it at_some
