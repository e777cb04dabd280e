-- Whatever a turn does to a process that is placed, it is placed again.
use Rattle.std.proofs.Common.{◌≡◌, ℕ, ℤ, ◌+◌, ◌++◌, List, [], ◌∷◌, slice_get, Option, Some, None, refl, ◌∙◌, subst}
use Rattle.rb_cache.specs.Copies.{accepted}
use Rattle.rb_world.specs.Kind.{Kind, Membership, Went, Held}
use Rattle.rb_world.specs.World.{Level, Process, copy_of, goes_on, last_of, settled, without_last}
use Rattle.rb_world.specs.Reject.{back_to, fallen, put_back, raised}
use Rattle.rb_world.specs.Standing.{Each}
use Rattle.rb_world.specs.Turn.{freed, new_level, stands_now, state_freed, turn, turn_used}
use Rattle.rb_world.proofs.Keeping.EachProcess.{KeepsEach}
use Rattle.rb_code.specs.Instructions.Plain.{Code}
use Rattle.rb_code.specs.SoundCode.Sound.{HasTable, Table}
use Rattle.rb_code.specs.SoundCode.StandsInRuns.{ProcessStands}
use Rattle.rb_code.specs.WordMachine.Turn.{Common, Copy, Standing, step}
use Rattle.rb_code.specs.SoundCode.WellFormed.{ListsChannels}
use Rattle.rb_code.specs.WordMachine.WordKind.{entered_at, word_kind}
use Rattle.rb_code.specs.WordMachine.WordRun.{WordWorld}
use Rattle.rb_code.proofs.Executing.InsideOut.{raised_same, used_same}
use Rattle.rb_code.proofs.Executing.ProcessesStand.{processes_stand}
use Rattle.rb_code.proofs.WholeRuns.MachineSteps.{LeavesLinks, settle_same, step_leaves}
use Rattle.rb_recovery.specs.Known.{IsPlaced}
use Rattle.rb_machine.proofs.Knowing.Sizes.{turn-each}
use Rattle.rb_machine.proofs.Knowing.Placed.LikeLevels.{AreLike, AreOpen, like_none, like_open, like_opened, like_self, like_taken, like_without_last}
use Rattle.rb_machine.proofs.Knowing.Placed.NewLevel.{open_more}
use Rattle.rb_machine.proofs.Knowing.Placed.Wants.{enters_opens}

module _ (c : Code) (groups : List Membership) where
  abbrev Words : Kind Standing Copy Common
  Words = word_kind c groups

  -- a step is one of the same process
  step_went : (alternate : ℕ) (copy : Option Copy) (u v : Standing) (message : Option ℤ) (memory later : Common)
      → step c alternate copy u message memory ≡ Went v later → v.process ≡ u.process
  step_went alternate copy u v message memory later e =
      (subst (LeavesLinks u memory) e (step_leaves c alternate copy u message memory)).0.process

  step_held : (alternate : ℕ) (copy : Option Copy) (u v : Standing) (message : Option ℤ) (memory : Common)
      → step c alternate copy u message memory ≡ Held v → v.process ≡ u.process
  step_held alternate copy u v message memory e =
      (subst (LeavesLinks u memory) e (step_leaves c alternate copy u message memory)).process

  -- so is what settles, and what a recovery point is put back in
  settled_process : (u : Standing) (levels : List (Level Copy)) → (settled Words u levels).state.process ≡ u.process
  settled_process u levels = (settle_same c (copy_of (last_of levels)) u).process

  back_process : (j : ℕ) (q : Process Standing Copy) (level : Option (Level Copy)) → (back_to Words j q level).state.process ≡ q.state.process
  back_process j q None = refl
  back_process j q (Some level) = refl

  back_like : (j : ℕ) (q : Process Standing Copy) (level : Option (Level Copy)) → AreLike (back_to Words j q level).levels q.levels
  back_like j q None = like_self q.levels
  back_like j q (Some level) = like_taken (j + 1) q.levels

  freed_process : (u : Standing) (levels : List (Level Copy)) → (state_freed Words u levels).process ≡ u.process
  freed_process u [] = refl
  freed_process u (level ∷ levels) = refl

module _ (c : Code) (groups : List Membership) (t : Table) where
  placed_open : (p : ℕ) (q : Process Standing Copy) → IsPlaced c groups t p q → AreOpen c groups p q.levels
  placed_open p q h = record { nested = h.nested; members = h.members; blocks = h.blocks }

  with_levels : (p : ℕ) (q : Process Standing Copy) → q.state.process ≡ p → ProcessStands c t q → AreOpen c groups p q.levels
      → IsPlaced c groups t p q
  with_levels p q number stands levels =
      record { number = number; stands = stands; nested = levels.nested; members = levels.members; blocks = levels.blocks }

  -- a process with levels that come from those of a placed one
  later_placed : (p : ℕ) (q later : Process Standing Copy) → IsPlaced c groups t p q → later.state.process ≡ q.state.process
      → ProcessStands c t later → AreLike later.levels q.levels → IsPlaced c groups t p later
  later_placed p q later h same stands like =
      with_levels p later (same ∙ h.number) stands (like_open later.levels q.levels like c groups p (placed_open p q h))

module _ (c : Code) (groups : List Membership) (t : Table) (has : HasTable c groups t) (lists : ListsChannels c) where
  abbrev stand : KeepsEach (word_kind c groups) (λ p q. ProcessStands c t q)
  stand = processes_stand c groups t has lists

  pub placed_keeps : KeepsEach (word_kind c groups) (IsPlaced c groups t)
  placed_keeps = record {
    counts = λ p q h.
        later_placed c groups t p q (turn_used q) h refl (stand.counts p q h.stands)
        (like_opened (turn_used q).levels q.levels (used_same q.levels));
    goes = λ n p q w alternate message s m h at e.
        let u : Standing = record s { last_kept = n } in
        later_placed c groups t p q (settled (word_kind c groups) u q.levels) h
        (settled_process c groups u q.levels ∙ step_went c groups alternate (copy_of (last_of q.levels)) q.state s message w.memory m e)
        (stand.goes n p q w alternate message s m h.stands at e) (like_self q.levels);
    opens = λ n p q w facts alternate h at.
        let u : Standing = record (entered_at q.state) { last_kept = n } in
        let new : Level Copy = new_level (word_kind c groups) facts alternate u in
        with_levels c groups t p (goes_on (word_kind c groups) u (q.levels ++ new ∷ [])) h.number
        (stand.opens n p q w facts alternate h.stands at)
        (open_more c groups p q.levels new (placed_open c groups t p q h)
        (enters_opens c groups t has lists p q h at.acts.runs.running at.acts.away new at.wants));
    accepts = λ n p q w alternate message s h at e.
        let u : Standing = record s { last_kept = n; touched = accepted s.touched } in
        later_placed c groups t p q (settled (word_kind c groups) u (without_last q.levels)) h
        (settled_process c groups u (without_last q.levels)
        ∙ step_held c groups alternate (copy_of (last_of q.levels)) q.state s message w.memory e)
        (stand.accepts n p q w alternate message s h.stands at e) (like_without_last q.levels);
    stands = λ n p q w alternate message s h at e.
        later_placed c groups t p q (stands_now (record s { last_kept = n }) q.levels) h
        (step_held c groups alternate (copy_of (last_of q.levels)) q.state s message w.memory e)
        (stand.stands n p q w alternate message s h.stands at e) (like_self q.levels);
    leaves = λ p d q h e.
        let u : Standing = record q.state { touched = accepted q.state.touched } in
        later_placed c groups t p q (settled (word_kind c groups) u (without_last q.levels)) h
        (settled_process c groups u (without_last q.levels)) (stand.leaves p d q h.stands e) (like_without_last q.levels);
    falls = λ p q cause h.
        later_placed c groups t p q (fallen (word_kind c groups) cause q) h refl (stand.falls p q cause h.stands) (like_none q.levels);
    goes_back = λ p j q h.
        later_placed c groups t p q (put_back (word_kind c groups) j q) h (back_process c groups j q (slice_get q.levels j))
        (stand.goes_back p j q h.stands) (back_like c groups j q (slice_get q.levels j));
    rises = λ p j q h.
        later_placed c groups t p q (raised j q) h refl (stand.rises p j q h.stands)
        (like_opened (raised j q).levels q.levels (raised_same j q.levels));
    is_freed = λ p q h.
        later_placed c groups t p q (freed (word_kind c groups) q) h (freed_process c groups q.state q.levels)
        (stand.is_freed p q h.stands) (like_self q.levels);
  }

  -- so every turn keeps it
  pub turn-placed : (n p : ℕ) (w : WordWorld) → Each (IsPlaced c groups t) w.processes
      → Each (IsPlaced c groups t) (turn (word_kind c groups) n p w).0.processes
  turn-placed n p w = turn-each (word_kind c groups) n p w (IsPlaced c groups t) placed_keeps
