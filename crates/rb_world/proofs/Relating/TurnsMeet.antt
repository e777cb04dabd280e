-- Related worlds take turns to related worlds and tell the same, turn by turn and over whole runs.
use Rattle.std.proofs.Common.{◌≡◌, ℕ, ℤ, ◌+◌, List, [], ◌∷◌, ◌++◌, option_map, position, slice_get, Option, Some, None, refl, ap, ap₂, ◌∙◌, subst, inl, inr, arith}
use Rattle.rb_base.specs.declared.event.Cause.TheVariants.{Overrun}
use Rattle.rb_base.specs.declared.event.Event.{Event}
use Rattle.rb_world.specs.Kind.{Kind, Want, NothingLeft, SendsOn, ReceivesOn, MayReceiveOn, Enters, Starts, Acts}
use Rattle.rb_world.specs.World.{ProcessStatus, Running, Finished, FailedWith, Process, World, last_of, with_process}
use Rattle.rb_world.specs.Channels.{has_room, message_there}
use Rattle.rb_world.specs.Turn.{Moved, Told, acts, bounded, by_status, compared, done_at, error_at, finishes, freed, is_over, move, moves, receives, steps, told, tried_at, turn, turn_used, waits}
use Rattle.rb_world.proofs.TurnFacts.{RunsAt, MayAct, ToSend, ToReceive, ToReceiveIfThere, ToStart, ToAct}
use Rattle.rb_world.proofs.ListFacts.{slice_get-change_at}
use Rattle.rb_world.proofs.Relating.Simulation.{Shared, Related, Knowing, IsActing, IsPlainSimulation, IsSimulation}
use Rattle.rb_world.proofs.Relating.MarksMeet.{OptionsMeet, same_over, same_position, same_tried, last_marks}
use Rattle.rb_world.proofs.Relating.ProcessesMeet.{ProcessesMeet, AllMeet, WorldsMeet, all_freed, cond_meets, freed_meets, get_meets, used_meets}
use Rattle.rb_world.proofs.Relating.ChannelsMeet.{has_room-same, message_there-same}
use Rattle.rb_world.proofs.Relating.CascadeMeets.{reject_meets, with_each_meets, with_process_meets}
use Rattle.rb_world.proofs.Relating.StepsMeetWorlds.{MovesMeet, away_states, enters_meet, steps_meet, undone_meets}

-- what is known of process p in the turn that it takes
abbrev pub KnowsTurn : {S C M : Type 0} → Knowing S C M → ℕ → ℕ → World S C M → Type 0
KnowsTurn {S} {C} known t p w =
    (q : Process S C) → RunsAt p q w → MayAct p (turn_used q) (with_process p (λ _. turn_used q) w)
    → known t p (turn_used q) (with_process p (λ _. turn_used q) w)

-- related worlds, and the same told
pub record TurnsMeet {S C M T D N : Type 0} (shared : Shared M N) (related : Related S C M T D N) (x : World S C M × Told)
    (y : World T D N × Told) : Type 0 where
  pub worlds : WorldsMeet shared related x.0 y.0
  pub same_told : x.1 ≡ y.1

-- who failed and who is done is the same
same_compared : {S C M T D N : Type 0} (related : Related S C M T D N) (m : M) (n : N) (m' : M) (n' : N)
    (f : ℕ → ProcessStatus → ProcessStatus → List Event) (p : ℕ)
    (qs qs' : List (Process S C)) (rs rs' : List (Process T D)) → AllMeet related m n qs rs → AllMeet related m' n' qs' rs'
    → compared f p qs qs' ≡ compared f p rs rs'
same_compared related m n m' n' f p [] qs' [] rs' e e' = refl
same_compared related m n m' n' f p [] qs' (r ∷ rs) rs' e e' = absurd e
same_compared related m n m' n' f p (q ∷ qs) qs' [] rs' e e' = absurd e
same_compared related m n m' n' f p (q ∷ qs) [] (r ∷ rs) [] e e' = refl
same_compared related m n m' n' f p (q ∷ qs) [] (r ∷ rs) (r' ∷ rs') e e' = absurd e'
same_compared related m n m' n' f p (q ∷ qs) (q' ∷ qs') (r ∷ rs) [] e e' = absurd e'
same_compared related m n m' n' f p (q ∷ qs) (q' ∷ qs') (r ∷ rs) (r' ∷ rs') e e' =
    ap₂ ◌++◌ (ap₂ (f p) e.0.statuses e'.0.statuses) (same_compared related m n m' n' f (p + 1) qs qs' rs rs' e.1 e'.1)

-- what is told
module _ {S C M T D N : Type 0} {k : Kind S C M} {l : Kind T D N} {shared : Shared M N} {related : Related S C M T D N} {known : Knowing S C M}
    (laws : IsPlainSimulation k l shared related known) where
  same_of_all : (f : ℕ → ProcessStatus → ProcessStatus → List Event) (w : World S C M) (v : World T D N) (x : Moved S C M) (y : Moved T D N)
      → WorldsMeet shared related w v → MovesMeet shared related x y
      → compared f 0 w.processes x.world.processes ≡ compared f 0 v.processes y.world.processes
  same_of_all f w v x y meets moves =
      same_compared related w.memory v.memory x.world.memory y.world.memory f 0 w.processes x.world.processes v.processes y.world.processes
      meets.processes moves.worlds.processes

  same_told_of : (w : World S C M) (v : World T D N) (x : Moved S C M) (y : Moved T D N) → WorldsMeet shared related w v
      → MovesMeet shared related x y
      → told k w x ≡ told l v y
  same_told_of w v x y meets moves = λ i. record {
    kind = moves.kinds i;
    events = moves.rejections i ++ (same_of_all error_at w v x y meets moves i ++ (moves.passes i ++ same_of_all done_at w v x y meets moves i));
    released = all_freed laws x.world.memory y.world.memory x.world.processes y.world.processes moves.worlds.processes i;
  }

  pub finishes_meet : (w : World S C M) (v : World T D N) (x : Moved S C M) (y : Moved T D N)
      → WorldsMeet shared related w v → MovesMeet shared related x y
      → TurnsMeet shared related (finishes k w x) (finishes l v y)
  finishes_meet w v x y meets moves = record {
    worlds = with_each_meets x.world y.world (freed k) (freed l) (freed_meets laws x.world.memory y.world.memory) moves.worlds;
    same_told = same_told_of w v x y meets moves;
  }

module _ {S C M T D N : Type 0} {k : Kind S C M} {l : Kind T D N} {shared : Shared M N} {related : Related S C M T D N} {known : Knowing S C M}
    (laws : IsSimulation k l shared related known) where
  -- q acts, and r is the same process on the right
  module _ (t p : ℕ) (q : Process S C) (w : World S C M) (r : Process T D) (v : World T D N) (may : IsActing known t p q w)
      (both : ProcessesMeet related w.memory v.memory q r) (meets : WorldsMeet shared related w v) where
    waits_meet : MovesMeet shared related (waits w) (waits v)
    waits_meet = record { worlds = meets; kinds = refl; rejections = refl; passes = refl }

    receives_meet : (c : ℕ) → k.want q.state ≡ ReceivesOn c → (message : Option ℤ) → message_there k w c ≡ message
        → MovesMeet shared related (receives k t p q w message) (receives l t p r v message)
    receives_meet c wants None there = waits_meet
    receives_meet c wants (Some x) there =
        steps_meet laws t p q w r v may both meets 0 (Some x) (ToReceive c x wants there refl) (inr refl)

    acts_meet : (want : Want) → k.want q.state ≡ want → MovesMeet shared related (acts k t p q w want) (acts l t p r v want)
    acts_meet NothingLeft wants = record { worlds = meets; kinds = refl; rejections = refl; passes = refl }
    acts_meet (SendsOn c) wants =
        cond_meets (MovesMeet shared related) (has_room k w c) (has_room l v c) (has_room-same laws.plain w v c meets)
        (λ room. steps_meet laws t p q w r v may both meets 0 None (ToSend c wants room refl) (inr refl))
        (λ _. waits_meet)
    acts_meet (ReceivesOn c) wants =
        subst (λ (message : Option ℤ). MovesMeet shared related (receives k t p q w (message_there k w c)) (receives l t p r v message))
        (message_there-same laws.plain t p q w c may (inl wants) v meets) (receives_meet c wants (message_there k w c) refl)
    acts_meet (MayReceiveOn c) wants =
        subst (λ (message : Option ℤ). MovesMeet shared related (steps k t p 0 (message_there k w c) q w) (steps l t p 0 message r v))
        (message_there-same laws.plain t p q w c may (inr wants) v meets)
        (steps_meet laws t p q w r v may both meets 0 (message_there k w c) (ToReceiveIfThere c wants refl) (inr refl))
    acts_meet (Enters facts) wants = enters_meet laws t p q w r v may both meets facts wants
    acts_meet Starts wants =
        subst (λ (a : ℕ). MovesMeet shared related (steps k t p (tried_at (last_of q.levels)) None q w) (steps l t p a None r v))
        (same_tried (last_of q.levels) (last_of r.levels) (last_marks q.levels r.levels both.marks))
        (steps_meet laws t p q w r v may both meets (tried_at (last_of q.levels)) None (ToStart wants refl) (inl wants))
    acts_meet Acts wants = steps_meet laws t p q w r v may both meets 0 None (ToAct wants refl) (inr refl)

    same_want : k.want q.state ≡ l.want r.state
    same_want = laws.want w.memory v.memory _ q.state _ r.state (away_states laws.plain t p q w r v may both meets)

    acts_meet_both : MovesMeet shared related (acts k t p q w (k.want q.state)) (acts l t p r v (l.want r.state))
    acts_meet_both =
        subst (λ (want : Want). MovesMeet shared related (acts k t p q w (k.want q.state)) (acts l t p r v want)) same_want
        (acts_meet (k.want q.state) refl)

  bounded_meets : (t p : ℕ) (q : Process S C) (w : World S C M) (r : Process T D) (v : World T D N) → RunsAt p q w → (MayAct p q w → known t p q w)
      → ProcessesMeet related w.memory v.memory q r → WorldsMeet shared related w v → (over : Option ℕ) → position is_over q.levels ≡ over
      → MovesMeet shared related (bounded k t p q w over) (bounded l t p r v over)
  bounded_meets t p q w r v at knows both meets (Some j) e =
      undone_meets _ _ (reject_meets laws p (j + 1) Overrun w v (λ none. absurd (omega arith)) meets)
  bounded_meets t p q w r v at knows both meets None e =
      cond_meets (MovesMeet shared related) q.at_line r.at_line both.lines
      (λ _. record { worlds = meets; kinds = refl; rejections = refl; passes = refl })
      (λ away. acts_meet_both t p q w r v
      (record { knows = knows (record { runs = at; away = away; none_over = e }); runs = at; away = away }) both meets)

  runs_meet : (t p : ℕ) (q : Process S C) (w : World S C M) (r : Process T D) (v : World T D N) → RunsAt p q w → (MayAct p q w → known t p q w)
      → ProcessesMeet related w.memory v.memory q r → WorldsMeet shared related w v
      → MovesMeet shared related (bounded k t p q w (position is_over q.levels)) (bounded l t p r v (position is_over r.levels))
  runs_meet t p q w r v at knows both meets =
      subst (λ (over : Option ℕ). MovesMeet shared related (bounded k t p q w (position is_over q.levels)) (bounded l t p r v over))
      (same_position is_over is_over same_over q.levels r.levels both.marks)
      (bounded_meets t p q w r v at knows both meets (position is_over q.levels) refl)

  by_status_meets : (t p : ℕ) (q : Process S C) (w : World S C M) (r : Process T D) (v : World T D N)
      → KnowsTurn known t p w → slice_get w.processes p ≡ Some q
      → ProcessesMeet related w.memory v.memory q r → WorldsMeet shared related w v → (status : ProcessStatus) → q.status ≡ status
      → MovesMeet shared related (by_status k t p q w status) (by_status l t p r v status)
  by_status_meets t p q w r v knows there both meets Running e =
      runs_meet t p (turn_used q) (with_process p (λ _. turn_used q) w) (turn_used r) (with_process p (λ _. turn_used r) v)
      (record { there = slice_get-change_at p (λ _. turn_used q) w.processes ∙ ap (option_map (λ _. turn_used q)) there; running = e })
      (knows q (record { there = there; running = e }))
      (used_meets related w.memory v.memory q r both)
      (with_process_meets w v p (λ _. turn_used q) (λ _. turn_used r) (λ _ _ _. used_meets related w.memory v.memory q r both) meets)
  by_status_meets t p q w r v knows there both meets Finished e = record { worlds = meets; kinds = refl; rejections = refl; passes = refl }
  by_status_meets t p q w r v knows there both meets (FailedWith cause) e = record { worlds = meets; kinds = refl; rejections = refl; passes = refl }

  moves_meet : (t p : ℕ) (w : World S C M) (v : World T D N) → KnowsTurn known t p w → WorldsMeet shared related w v
      → (q : Option (Process S C)) (r : Option (Process T D)) → slice_get w.processes p ≡ q
      → OptionsMeet (ProcessesMeet related w.memory v.memory) q r
      → MovesMeet shared related (moves k t p w q) (moves l t p v r)
  moves_meet t p w v knows meets None None e both = record { worlds = meets; kinds = refl; rejections = refl; passes = refl }
  moves_meet t p w v knows meets None (Some r) e both = absurd both
  moves_meet t p w v knows meets (Some q) None e both = absurd both
  moves_meet t p w v knows meets (Some q) (Some r) e both =
      subst (λ (status : ProcessStatus). MovesMeet shared related (by_status k t p q w q.status) (by_status l t p r v status)) both.statuses
      (by_status_meets t p q w r v knows e both meets q.status refl)

  -- what a turn comes to, before lines are released
  pub move_meets : (t p : ℕ) (w : World S C M) (v : World T D N) → KnowsTurn known t p w → WorldsMeet shared related w v
      → MovesMeet shared related (move k t p w) (move l t p v)
  move_meets t p w v knows meets =
      moves_meet t p w v knows meets (slice_get w.processes p) (slice_get v.processes p) refl
      (get_meets related w.memory v.memory w.processes v.processes p meets.processes)

  -- one turn
  pub turn_meets : (t p : ℕ) (w : World S C M) (v : World T D N) → KnowsTurn known t p w → WorldsMeet shared related w v
      → TurnsMeet shared related (turn k t p w) (turn l t p v)
  turn_meets t p w v knows meets = finishes_meet laws.plain w v (move k t p w) (move l t p v) meets (move_meets t p w v knows meets)
