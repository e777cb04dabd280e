-- In related worlds a step, an entry and a test that holds leave related worlds.
use Rattle.std.proofs.Common.{◌≡◌, ◌⊎◌, ℕ, ℤ, Bool, true, false, List, [], ◌∷◌, ◌++◌, length, slice_get, Option, Some, None, refl, sym, ap, ap₂, ◌∙◌, subst, nat_le, ◌&&◌, subst₂}
use Rattle.std.specs.List.{list_all}
use Rattle.rb_base.specs.declared.event.Cause.{Cause}
use Rattle.rb_base.specs.declared.event.Cause.TheVariants.{Broken, Depth}
use Rattle.rb_base.specs.declared.event.Event.TheVariants.{Pass}
use Rattle.rb_world.specs.Kind.{Facts, Kind, Membership, Enters, Starts, Stepped, Trapped, Went, Held}
use Rattle.rb_world.specs.World.{Level, Process, Talk, World, change_at, last_of, process_levels, talk_at, with_each, with_process, with_memory, goes_on}
use Rattle.rb_world.specs.Reject.{Happened, first_again, reject}
use Rattle.rb_world.specs.Turn.{Moved, accepted, accepted_at, all_leave, all_stand, alternate_of, at_test_line, enter_either, enters, join, leaves, members_of, most_levels, moved_to, new_level, open_at, stands_there, stepped, steps, took, trapped, undone}
use Rattle.rb_world.proofs.TurnFacts.{IsReady, come_to_stand}
use Rattle.rb_world.proofs.ListFacts.{some_same}
use Rattle.rb_world.proofs.Relating.Simulation.{Shared, Related, Knowing, copies_of, IsActing, StillMeets, StepsMeet, IsPlainSimulation, IsSimulation}
use Rattle.rb_world.proofs.Relating.MarksMeet.{OptionsMeet, SameMark, SameMarks, same_length, last_marks, more_marks, copies-last, copies-more}
use Rattle.rb_world.proofs.Relating.ProcessesMeet.{ProcessesMeet, WorldsMeet, cond_meets, get_meets, change_meets, goes_on_meets, leaves_meets, left_meets, rewritten, same_stand, stands_now_meets}
use Rattle.rb_world.proofs.Keeping.AwayOnceBack.{StandsAway}
use Rattle.rb_world.proofs.Relating.CascadeMeets.{HappenedMeet, falls_meets, process_levels_meet, with_each_meets, with_talks_meets, reject_meets}

-- related worlds, and the same to tell
pub record MovesMeet {S C M T D N : Type 0} (shared : Shared M N) (related : Related S C M T D N) (x : Moved S C M) (y : Moved T D N) : Type 0 where
  pub worlds : WorldsMeet shared related x.world y.world
  pub kinds : x.kind ≡ y.kind
  pub rejections : x.rejections ≡ y.rejections
  pub passes : x.passes ≡ y.passes

module _ {S C M T D N : Type 0} {shared : Shared M N} {related : Related S C M T D N} where
  -- one process changes, and the memory
  pub changed_world : (p : ℕ) (w : World S C M) (v : World T D N) (line : Bool) (m : M) (n : N) (cs : List C) (s : S)
      (ds : List D) (u : T) (q : Process S C) (r : Process T D)
      → StillMeets shared related p w v.memory line m n cs s ds u → ProcessesMeet related m n q r → WorldsMeet shared related w v
      → WorldsMeet shared related (with_memory m (with_process p (λ _. q) w)) (with_memory n (with_process p (λ _. r) v))
  changed_world p w v line m n cs s ds u q r still new meets = record {
    memories = still.memories;
    processes = change_meets related w.memory v.memory m n p (λ _. q) (λ _. r) w.processes v.processes
        (λ i x y ne e both. record {
          states = still.others i x (copies_of y.levels) y.state ne e both.states;
          marks = both.marks;
          lines = both.lines;
          statuses = both.statuses;
        })
        (λ _ _ _ _ _. new) meets.processes;
    talks = meets.talks;
  }

  pub undone_meets : (x : Happened S C M) (y : Happened T D N) → HappenedMeet shared related x y → MovesMeet shared related (undone x) (undone y)
  undone_meets x y meets = record { worlds = meets.worlds; kinds = refl; rejections = meets.events; passes = refl }

  pub took_meets : (w : World S C M) (v : World T D N) → WorldsMeet shared related w v → MovesMeet shared related (took w) (took v)
  took_meets w v meets = record { worlds = meets; kinds = refl; rejections = refl; passes = refl }

-- under the laws of plain runs
module _ {S C M T D N : Type 0} {k : Kind S C M} {l : Kind T D N} {shared : Shared M N} {related : Related S C M T D N} {known : Knowing S C M}
    (laws : IsPlainSimulation k l shared related known) where
  -- the test line of a conversation
  stand_there_same : (m : M) (n : N) (c : ℕ) (q : Option (Process S C)) (r : Option (Process T D)) → OptionsMeet (ProcessesMeet related m n) q r
      → stands_there c q ≡ stands_there c r
  stand_there_same m n c None None e = refl
  stand_there_same m n c None (Some r) e = absurd e
  stand_there_same m n c (Some q) None e = absurd e
  stand_there_same m n c (Some q) (Some r) e = same_stand related m n c q r e

  all_stand_among : (c : ℕ) (w : World S C M) (v : World T D N) (members : List ℕ) → WorldsMeet shared related w v
      → list_all (λ i. stands_there c (slice_get w.processes i)) members ≡ list_all (λ i. stands_there c (slice_get v.processes i)) members
  all_stand_among c w v [] meets = refl
  all_stand_among c w v (i ∷ is) meets =
      ap₂ ◌&&◌ (stand_there_same w.memory v.memory c (slice_get w.processes i) (slice_get v.processes i)
      (get_meets related w.memory v.memory w.processes v.processes i meets.processes))
      (all_stand_among c w v is meets)

  all_stand_same : (c : ℕ) (w : World S C M) (v : World T D N) → WorldsMeet shared related w v → all_stand k c w ≡ all_stand l c v
  all_stand_same c w v meets =
      all_stand_among c w v (members_of (slice_get k.groups c)) meets
      ∙ ap (λ (groups : List Membership). list_all (λ i. stands_there c (slice_get v.processes i)) (members_of (slice_get groups c))) laws.groups

  all_leave_meets : (c : ℕ) (w : World S C M) (v : World T D N) → WorldsMeet shared related w v
      → WorldsMeet shared related (all_leave k c w) (all_leave l c v)
  all_leave_meets c w v meets =
      with_talks_meets (with_each (leaves k c) w) (with_each (leaves l c) v) (change_at c first_again)
      (with_each_meets w v (leaves k c) (leaves l c) (leaves_meets laws w.memory v.memory c) meets)

  at_test_line_meets : (c : ℕ) (w : World S C M) (v : World T D N) → WorldsMeet shared related w v
      → MovesMeet shared related (at_test_line k c w) (at_test_line l c v)
  at_test_line_meets c w v meets =
      cond_meets (MovesMeet shared related) (all_stand k c w) (all_stand l c v) (all_stand_same c w v meets)
      (λ _. record {
        worlds = all_leave_meets c w v meets;
        kinds = refl;
        rejections = refl;
        passes = ap (λ (talks : List Talk). Pass c (alternate_of (slice_get talks c)) ∷ []) meets.talks;
      })
      (λ _. took_meets w v meets)

  -- a test that held
  accepted_at_meets : (p : ℕ) (w : World S C M) (v : World T D N) (m : M) (n : N) (s : S) (ls : List (Level C)) (u : T)
      (ms : List (Level D)) (conversation : Option ℕ)
      → StillMeets shared related p w v.memory true m n (copies_of ls) s (copies_of ms) u → SameMarks ls ms → WorldsMeet shared related w v
      → MovesMeet shared related (accepted_at k p ls conversation w (s, m)) (accepted_at l p ms conversation v (u, n))
  accepted_at_meets p w v m n s ls u ms None still same meets =
      took_meets _ _
      (changed_world p w v true m n (copies_of ls) s (copies_of ms) u _ _ still (left_meets laws m n s ls u ms same still.states) meets)
  accepted_at_meets p w v m n s ls u ms (Some c) still same meets =
      at_test_line_meets c (come_to_stand p ls w (s, m)) (come_to_stand p ms v (u, n))
      (changed_world p w v true m n (copies_of ls) s (copies_of ms) u _ _ still (stands_now_meets related m n s ls u ms same still.states) meets)

  pub accepted_meets : (p : ℕ) (w : World S C M) (v : World T D N) (m : M) (n : N) (s : S) (ls : List (Level C)) (u : T)
      (ms : List (Level D)) (x : Option (Level C)) (y : Option (Level D))
      → StillMeets shared related p w v.memory true m n (copies_of ls) s (copies_of ms) u → SameMarks ls ms
      → OptionsMeet SameMark x y → WorldsMeet shared related w v
      → MovesMeet shared related (accepted k p ls x w (s, m)) (accepted l p ms y v (u, n))
  accepted_meets p w v m n s ls u ms None None still same last meets = record { worlds = meets; kinds = refl; rejections = refl; passes = refl }
  accepted_meets p w v m n s ls u ms None (Some y) still same last meets = absurd last
  accepted_meets p w v m n s ls u ms (Some x) None still same last meets = absurd last
  accepted_meets p w v m n s ls u ms (Some x) (Some y) still same last meets =
      subst (λ (conversation : Option ℕ). MovesMeet shared related (accepted k p ls (Some x) w (s, m)) (accepted_at l p ms conversation v (u, n)))
      (ap (λ (facts : Facts). facts.conversation) last.facts)
      (accepted_at_meets p w v m n s ls u ms x.facts.conversation still same meets)

  -- what a step comes to
  pub moved_to_meets : (p : ℕ) (w : World S C M) (v : World T D N) (m : M) (n : N) (s : S) (ls : List (Level C)) (u : T) (ms : List (Level D))
      → StillMeets shared related p w v.memory false m n (copies_of ls) (k.settle (last_of (copies_of ls)) s) (copies_of ms)
      (l.settle (last_of (copies_of ms)) u)
      → SameMarks ls ms → WorldsMeet shared related w v
      → WorldsMeet shared related (moved_to k p ls w (s, m)) (moved_to l p ms v (u, n))
  moved_to_meets p w v m n s ls u ms still same meets =
      subst₂ (λ (x : Option C) (y : Option D). WorldsMeet shared related
      (with_memory m (with_process p (λ _. goes_on k (k.settle x s) ls) w))
      (with_memory n (with_process p (λ _. goes_on l (l.settle y u) ms) v)))
      (sym (copies-last ls)) (sym (copies-last ms))
      (changed_world p w v false m n (copies_of ls) (k.settle (last_of (copies_of ls)) s) (copies_of ms)
      (l.settle (last_of (copies_of ms)) u) _ _ still
      (goes_on_meets laws m n (k.settle (last_of (copies_of ls)) s) ls (l.settle (last_of (copies_of ms)) u) ms same still.states) meets)

  -- q acts, and r is the same process on the right
  module _ (t p : ℕ) (q : Process S C) (w : World S C M) (r : Process T D) (v : World T D N) (acts : IsActing known t p q w)
      (both : ProcessesMeet related w.memory v.memory q r) (meets : WorldsMeet shared related w v) where
    pub away_states : related false w.memory v.memory (copies_of q.levels) q.state (copies_of r.levels) r.state
    away_states =
        subst (λ (line : Bool). related line w.memory v.memory (copies_of q.levels) q.state (copies_of r.levels) r.state) acts.away both.states

    -- an entry at the same alternate
    pub open_at_meets : (facts : Facts) (alternate : ℕ) → k.want q.state ≡ Enters facts
        → MovesMeet shared related (open_at k t p facts alternate q w) (open_at l t p facts alternate r v)
    open_at_meets facts alternate wants =
        let a = k.keep t 0 (k.enter q.state) w.memory in
        let b = l.keep t 0 (l.enter r.state) v.memory in
        let still = laws.enter t p q w facts v.memory (copies_of r.levels) r.state acts wants meets.memories away_states in
        let x = new_level k facts alternate a.0 in
        let y = new_level l facts alternate b.0 in
        took_meets _ _ (changed_world p w v false a.1 b.1 (copies_of q.levels ++ x.copy ∷ []) a.0 (copies_of r.levels ++ y.copy ∷ []) b.0 _ _ still
        (goes_on_meets laws a.1 b.1 a.0 (q.levels ++ x ∷ []) b.0 (r.levels ++ y ∷ [])
        (more_marks q.levels r.levels x y both.marks (record { facts = refl; alternate = refl; used = refl }))
        (rewritten related (sym (copies-more q.levels x)) (sym (copies-more r.levels y)) still.states)) meets)

-- with rejections
module _ {S C M T D N : Type 0} {k : Kind S C M} {l : Kind T D N} {shared : Shared M N} {related : Related S C M T D N} {known : Knowing S C M}
    (laws : IsSimulation k l shared related known) where
  pub trapped_meets : (p : ℕ) (cause : Cause) (w : World S C M) (v : World T D N) → StandsAway p w → WorldsMeet shared related w v
      → MovesMeet shared related (trapped k p cause w) (trapped l p cause v)
  trapped_meets p cause w v away meets =
      subst (λ (n : ℕ). MovesMeet shared related (trapped k p cause w) (undone (reject l p n cause v)))
      (same_length (process_levels w p) (process_levels v p) (process_levels_meet w v p meets))
      (undone_meets _ _ (reject_meets laws p (length (process_levels w p)) cause w v (λ _. away) meets))

  stepped_meets : (t p alternate : ℕ) (w : World S C M) (v : World T D N) (ls : List (Level C)) (ms : List (Level D))
      (x : Stepped S M) (y : Stepped T N)
      → StepsMeet k l shared related t p alternate w v.memory (copies_of ls) (copies_of ms) x y → StandsAway p w
      → SameMarks ls ms → WorldsMeet shared related w v
      → MovesMeet shared related (stepped k t p alternate ls w x) (stepped l t p alternate ms v y)
  stepped_meets t p alternate w v ls ms (Trapped c) (Trapped d) e away same meets =
      subst (λ (cause : Cause). MovesMeet shared related (trapped k p c w) (trapped l p cause v)) e (trapped_meets p c w v away meets)
  stepped_meets t p alternate w v ls ms (Trapped c) (Went u n) e away same meets = absurd e
  stepped_meets t p alternate w v ls ms (Trapped c) (Held u) e away same meets = absurd e
  stepped_meets t p alternate w v ls ms (Went s m) (Trapped d) e away same meets = absurd e
  stepped_meets t p alternate w v ls ms (Went s m) (Went u n) e away same meets =
      let a = k.keep t alternate s m in
      let b = l.keep t alternate u n in
      took_meets _ _ (moved_to_meets laws.plain p w v a.1 b.1 a.0 ls b.0 ms e same meets)
  stepped_meets t p alternate w v ls ms (Went s m) (Held u) e away same meets = absurd e
  stepped_meets t p alternate w v ls ms (Held s) (Trapped d) e away same meets = absurd e
  stepped_meets t p alternate w v ls ms (Held s) (Went u n) e away same meets = absurd e
  stepped_meets t p alternate w v ls ms (Held s) (Held u) e away same meets =
      let a = k.keep t alternate s w.memory in
      let b = l.keep t alternate u v.memory in
      accepted_meets laws.plain p w v a.1 b.1 a.0 ls b.0 ms (last_of ls) (last_of ms) e same (last_marks ls ms same) meets

  -- q acts, and r is the same process on the right
  module _ (t p : ℕ) (q : Process S C) (w : World S C M) (r : Process T D) (v : World T D N) (acts : IsActing known t p q w)
      (both : ProcessesMeet related w.memory v.memory q r) (meets : WorldsMeet shared related w v) where
    acts_away : StandsAway p w
    acts_away z there = ap (λ (y : Process S C). y.at_line) (some_same (sym there ∙ acts.runs.there)) ∙ acts.away

    pub steps_meet : (alternate : ℕ) (message : Option ℤ) → IsReady k q w message → (k.want q.state ≡ Starts) ⊎ (alternate ≡ 0)
        → MovesMeet shared related (steps k t p alternate message q w) (steps l t p alternate message r v)
    steps_meet alternate message ready at =
        subst (λ (x : Option C). MovesMeet shared related
        (stepped k t p alternate q.levels w (k.step alternate x q.state message w.memory))
        (steps l t p alternate message r v))
        (sym (copies-last q.levels))
        (subst (λ (y : Option D). MovesMeet shared related
        (stepped k t p alternate q.levels w (k.step alternate (last_of (copies_of q.levels)) q.state message w.memory))
        (stepped l t p alternate r.levels v (l.step alternate y r.state message v.memory)))
        (sym (copies-last r.levels))
        (stepped_meets t p alternate w v q.levels r.levels _ _
        (laws.step t p q w alternate message v.memory (copies_of r.levels) r.state acts ready at meets.memories
        (away_states laws.plain t p q w r v acts both meets)) acts_away both.marks meets))

    join_meets : (facts : Facts) (talk : Option Talk) → k.want q.state ≡ Enters facts
        → MovesMeet shared related (join k t p facts q w talk) (join l t p facts r v talk)
    join_meets facts None wants = record { worlds = meets; kinds = refl; rejections = refl; passes = refl }
    join_meets facts (Some talk) wants =
        cond_meets (MovesMeet shared related) talk.is_broken talk.is_broken refl
        (λ _. record {
          worlds = falls_meets laws p Broken w v acts_away meets;
          kinds = refl;
          rejections = refl;
          passes = refl;
        })
        (λ _. open_at_meets laws.plain t p q w r v acts both meets facts talk.alternate wants)

    enter_either_meets : (facts : Facts) (conversation : Option ℕ) → k.want q.state ≡ Enters facts
        → MovesMeet shared related (enter_either k t p facts conversation q w) (enter_either l t p facts conversation r v)
    enter_either_meets facts None wants = open_at_meets laws.plain t p q w r v acts both meets facts 1 wants
    enter_either_meets facts (Some c) wants =
        subst (λ (talks : List Talk). MovesMeet shared related (join k t p facts q w (talk_at w c)) (join l t p facts r v (slice_get talks c)))
        meets.talks (join_meets facts (talk_at w c) wants)

    pub enters_meet : (facts : Facts) → k.want q.state ≡ Enters facts → MovesMeet shared related (enters k t p facts q w) (enters l t p facts r v)
    enters_meet facts wants =
        cond_meets (MovesMeet shared related) (nat_le most_levels (length q.levels)) (nat_le most_levels (length r.levels))
        (ap (nat_le most_levels) (same_length q.levels r.levels both.marks))
        (λ _. trapped_meets p Depth w v acts_away meets) (λ _. enter_either_meets facts facts.conversation wants)
