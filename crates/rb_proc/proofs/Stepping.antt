-- A step by what its instructions came to.
use Rattle.std.proofs.Common.{◌≡◌, ℕ, zero, suc, ◌+◌, ℤ, Bool, false, List, [], map, Option, None, refl, ap, sym, ◌∙◌, subst, arith}
use Rattle.std.specs.Prelude.{slice_get}
use Rattle.rb_base.specs.declared.event.Cause.{Cause}
use Rattle.rb_world.specs.Kind.{Want, NothingLeft, SendsOn, ReceivesOn, MayReceiveOn, Enters, Starts, Acts}
use Rattle.rb_world.specs.Slots.{Slots}
use Rattle.rb_world.specs.World.{Level, Process, ProcessStatus as Stands, copy_of, goes_on, last_of, settled, status_at}
use Rattle.rb_code.specs.Instructions.Plain.{Code}
use Rattle.rb_code.specs.WordMachine.Workspace.{Counting, Workspace, no_counters}
use Rattle.rb_code.specs.WordMachine.Act.{Accepts, Going, Outcome as Came, Sight as Seen, Stopped, Trapped, Unfinished, execute, move}
use Rattle.rb_code.specs.WordMachine.Turn.{Copy, Standing, came_to, memory_of, most_steps, prior_words, settled_by, sight, standing_at, want, wants_there}
use Rattle.rb_world.specs.Kind.{Membership}
use Rattle.rb_code.specs.SoundCode.Safe.{IsUnchanged, Safe, SafeOn}
use Rattle.rb_code.specs.SoundCode.Stands.{Serves, SettlesSoundly, StandsSoundly}
use Rattle.rb_code.specs.SoundCode.Stays.{Stays, entry_calls}
use Rattle.rb_code.proofs.Executing.SoundSteps.{settling_is_safe, steps_are_safe}
use Rattle.rb_code.proofs.Executing.Staying.{settling_stays, steps_stay}
use Rattle.rb_recoverable.specs.Contents.{Contents}
use Rattle.rb_operands.specs.Outcomes.{ended_of, stop_at}
use Rattle.rb_proc.specs.Outcomes.{mem, whole}
use Rattle.rb_proc.specs.Runs.{CursorsRise, KeepsEnded}
use Rattle.rb_proc.specs.Statuses.{status_of}
use Rattle.rb_operands.specs.declared.next.Ended.{Ended}
use Rattle.rb_operands.specs.declared.next.Ended.TheVariants as ended
use Rattle.rb_operands.specs.Pieces.{piece_text}
use Rattle.rb_proc.specs.ProcessInside.{seen, standing}
use Rattle.rb_proc.specs.Sees.{see_of}
use Rattle.rb_proc.specs.declared.answers.ProcessStatus.{ProcessStatus}
use Rattle.rb_proc.specs.declared.answers.Wanted.{Wanted}
use Rattle.rb_operands.specs.declared.bench.Bench.{Bench}
use Rattle.rb_operands.specs.declared.line.Piece.{Piece}
use Rattle.rb_proc.specs.declared.sight.Sight.{Sight}
use Rattle.rb_proc.specs.Given.{alternate_by}
use Rattle.rb_proc.specs.Process.{StepsTo, alternate_for, kind_of, step_of, wanted_by}
use Rattle.rb_proc.specs.Work.{named_along, named_in_step, named_settling}
use Rattle.rb_proc.specs.declared.answers.Outcome.TheVariants as outcome

pub alternate_is : (w : Want) (levels : List (Level Copy)) → alternate_by (wanted_by w) levels ≡ alternate_for w levels
alternate_is NothingLeft levels = refl
alternate_is (SendsOn channel) levels = refl
alternate_is (ReceivesOn channel) levels = refl
alternate_is (MayReceiveOn channel) levels = refl
alternate_is (Enters facts) levels = refl
alternate_is Starts levels = refl
alternate_is Acts levels = refl

module _ (c : Code) (q : Process Standing Copy) (slots : Slots) (message : Option ℤ) where
  -- what the instructions of a step come to
  abbrev pub whole_step : Came
  whole_step =
      execute c (sight q.state (alternate_for (want c q.state) q.levels) (copy_of (last_of q.levels)) message)
      (most_steps c) (q.state.at + 1) [] (memory_of q.state slots)

  pub stop_comes : (at : ℕ) (w : Workspace) (r : Process Standing Copy) (after : Slots) → Stopped at w ≡ whole_step
      → r ≡ goes_on (kind_of c) (standing_at at w q.state) q.levels → after ≡ w.slots
      → StepsTo c q slots (step_of c q slots message) outcome.Went r after
  stop_comes at w r after e r_is after_is =
      subst (λ (o : Came). StepsTo c q slots (came_to q.state (record { slots = slots; links = [] }) o) outcome.Went r after) e (r_is, after_is)

  pub accept_comes : (at : ℕ) (w : Workspace) (r : Process Standing Copy) (after : Slots) → Accepts at w ≡ whole_step
      → r ≡ record q { state = standing_at at w q.state } → after ≡ slots
      → StepsTo c q slots (step_of c q slots message) outcome.Accepts r after
  accept_comes at w r after e r_is after_is =
      subst (λ (o : Came). StepsTo c q slots (came_to q.state (record { slots = slots; links = [] }) o) outcome.Accepts r after) e (r_is, after_is)

  pub trap_comes : (cause : Cause) (r : Process Standing Copy) (after : Slots) → Trapped cause ≡ whole_step → r ≡ q → after ≡ slots
      → StepsTo c q slots (step_of c q slots message) (outcome.Trap cause) r after
  trap_comes cause r after e r_is after_is =
      subst
      (λ (o : Came). StepsTo c q slots (came_to q.state (record { slots = slots; links = [] }) o) (outcome.Trap cause) r after) e
      (refl, r_is, after_is)

-- A step of a process by its parts: what it is given is what the word machine is given.
module _ (c : Code) (r : Contents) (process at kept : ℕ) (at_line : Bool) (status : ProcessStatus) (slots : Slots) (message : Option ℤ)
    (bench : Bench) (operands : List ℤ) (sg : Sight)
    (w : Wanted) (alt : ℕ) (want_ok : w ≡ wanted_by (want c (standing r process at kept))) (alt_ok : alt ≡ alternate_by w r.levels)
    (process_ok : sg.process ≡ process) (message_ok : sg.message ≡ message)
    (alternate_ok : alternate_by sg.wanted r.levels ≡ alt) (operands_ok : operands ≡ []) (pieces_ok : bench.line.pieces ≡ [])
    (counters_ok : bench.counters ≡ no_counters) where
  abbrev pub now : Process Standing Copy
  now = (seen r process at kept at_line status).process

  abbrev pub alternate_now : ℕ
  alternate_now = alternate_for (want c now.state) now.levels

  sight_is : see_of sg r.levels ≡ sight now.state alternate_now (copy_of (last_of now.levels)) message
  sight_is =
      ap (λ (p : ℕ). record {
        process = p;
        prior = prior_words (copy_of (last_of r.levels));
        message =
            sg.message;
        alternate = alternate_by sg.wanted r.levels;
      }) process_ok
      ∙ ap (λ (m : Option ℤ). record { process = process; prior = prior_words (copy_of (last_of r.levels)); message = m; alternate = alternate_by sg.wanted r.levels })
      message_ok
      ∙ ap (λ (a : ℕ). record { process = process; prior = prior_words (copy_of (last_of r.levels)); message = message; alternate = a })
      (alternate_ok ∙ alt_ok ∙ ap (λ (x : Wanted). alternate_by x r.levels) want_ok ∙ alternate_is (want c now.state) r.levels)

  memory_is : whole c.texts bench r slots ≡ memory_of now.state slots
  memory_is =
      ap (λ (ps : List Piece). mem r (map (piece_text c.texts) ps) bench.counters slots) pieces_ok
      ∙ ap (λ (cs : List (Option Counting)). mem r [] cs slots) counters_ok

  pub step_safe : (groups : List Membership) → StandsSoundly c groups now.state now.levels
      → Serves (want c now.state) alternate_now message now.levels
      → Safe c (see_of sg r.levels) (IsUnchanged (whole c.texts bench r slots)) (most_steps c) (at + 1) operands (whole c.texts bench r slots)
  step_safe groups stands serves =
      subst
      (λ (see : Seen). Safe c see (IsUnchanged (whole c.texts bench r slots)) (most_steps c) (at + 1) operands
      (whole c.texts bench r slots))
      (sym sight_is)
      (subst
      (λ (m : Workspace). Safe c (sight now.state alternate_now (copy_of (last_of now.levels)) message) (IsUnchanged m)
      (most_steps c) (at + 1) operands m)
      (sym memory_is)
      (subst
      (λ (xs : List ℤ). Safe c (sight now.state alternate_now (copy_of (last_of now.levels)) message)
      (IsUnchanged (memory_of now.state slots)) (most_steps c) (at + 1) xs (memory_of now.state slots))
      (sym operands_ok)
      (steps_are_safe c groups now.state now.levels alternate_now message slots stands serves)))

  pub step_stays : (groups : List Membership) → StandsSoundly c groups now.state now.levels
      → Serves (want c now.state) alternate_now message now.levels
      → Stays c (see_of sg r.levels) (entry_calls (copy_of (last_of r.levels))) r.words (most_steps c)
      (at + 1) operands (whole c.texts bench r slots)
  step_stays groups stands serves =
      subst
      (λ (see : Seen). Stays c see (entry_calls (copy_of (last_of r.levels))) r.words (most_steps c)
      (at + 1) operands (whole c.texts bench r slots))
      (sym sight_is)
      (subst
      (λ (m : Workspace). Stays c (sight now.state alternate_now (copy_of (last_of now.levels)) message)
      (entry_calls (copy_of (last_of r.levels))) r.words (most_steps c) (at + 1) operands m)
      (sym memory_is)
      (subst
      (λ (xs : List ℤ). Stays c (sight now.state alternate_now (copy_of (last_of now.levels)) message)
      (entry_calls (copy_of (last_of r.levels))) r.words (most_steps c) (at + 1) xs (memory_of now.state slots))
      (sym operands_ok)
      (steps_stay c groups now.state now.levels alternate_now message slots stands serves)))

  -- so whatever is made of it is what is made of that
  as_given : {A : Type 0} (f : Seen → Workspace → List ℤ → A) → f (see_of sg r.levels) (whole c.texts bench r slots) operands
      ≡ f (sight now.state alternate_now (copy_of (last_of now.levels)) message) (memory_of now.state slots) []
  as_given f =
      ap (λ (see : Seen). f see (whole c.texts bench r slots) operands) sight_is
      ∙ ap (λ (m : Workspace). f (sight now.state alternate_now (copy_of (last_of now.levels)) message) m operands) memory_is
      ∙ ap (λ (xs : List ℤ). f (sight now.state alternate_now (copy_of (last_of now.levels)) message) (memory_of now.state slots) xs) operands_ok

  pub executes : execute c (see_of sg r.levels) (most_steps c) (at + 1) operands (whole c.texts bench r slots) ≡ whole_step c now slots message
  executes = as_given (λ see m xs. execute c see (most_steps c) (at + 1) xs m)

  pub step_named : named_along c (see_of sg r.levels) (most_steps c) (at + 1) operands (whole c.texts bench r slots)
      ≡ named_in_step c now slots message
  step_named = as_given (λ see m xs. named_along c see (most_steps c) (at + 1) xs m)

-- what is safe stays so where less is asked
safe_weaker : (c : Code) (see : Seen) (P Q : Workspace → Type 0) → ((m : Workspace) → P m → Q m)
    → (n a : ℕ) (xs : List ℤ) (m : Workspace) → Safe c see P n a xs m
    → Safe c see Q n a xs m
safe_weaker c see P Q f zero a xs m s = absurd s
safe_weaker c see P Q f (suc n) a xs m s = (s.0, on (λ b ys later k. safe_weaker c see P Q f n b ys later k) (move c see a xs m) s.1)
  where
    on : ((b : ℕ) (ys : List ℤ) (later : Workspace) → Safe c see P n b ys later → Safe c see Q n b ys later)
        → (o : Came) → SafeOn c see P m o (Safe c see P n) → SafeOn c see Q m o (Safe c see Q n)
    on next (Going b ys later) k = next b ys later k
    on next (Stopped b later) k = tt
    on next (Accepts b later) k = f m k
    on next (Trapped cause) k = f m k
    on next Unfinished k = absurd k

-- Settling by its parts, with no slots.
module _ (c : Code) (r : Contents) (process at kept : ℕ) (bench : Bench) (operands : List ℤ) (sg : Sight) (process_ok : sg.process ≡ process)
    (message_ok : sg.message ≡ None)
    (alternate_ok : alternate_by sg.wanted r.levels ≡ 0) (operands_ok : operands ≡ []) (pieces_ok : bench.line.pieces ≡ [])
    (counters_ok : bench.counters ≡ no_counters) (slots : Slots) (none : slots ≡ []) where
  abbrev pub state_now : Standing
  state_now = standing r process at kept

  abbrev pub sees : Seen
  sees = sight state_now 0 (copy_of (last_of r.levels)) None

  settling_sight : see_of sg r.levels ≡ sees
  settling_sight =
      ap (λ (p : ℕ). record {
        process = p;
        prior = prior_words (copy_of (last_of r.levels));
        message =
            sg.message;
        alternate = alternate_by sg.wanted r.levels;
      }) process_ok
      ∙ ap (λ (m : Option ℤ). record {
        process = process;
        prior = prior_words (copy_of (last_of r.levels));
        message =
            m;
        alternate = alternate_by sg.wanted r.levels;
      }) message_ok
      ∙ ap (λ (a : ℕ). record { process = process; prior = prior_words (copy_of (last_of r.levels)); message = None; alternate = a }) alternate_ok

  settling_memory : whole c.texts bench r slots ≡ memory_of state_now []
  settling_memory =
      ap (λ (ps : List Piece). mem r (map (piece_text c.texts) ps) bench.counters slots) pieces_ok
      ∙ ap (λ (cs : List (Option Counting)). mem r [] cs slots) counters_ok
      ∙ ap (λ (ss : Slots). mem r [] no_counters ss) none

  settling_given : {A : Type 0} (f : Seen → Workspace → List ℤ → A)
      → f (see_of sg r.levels) (whole c.texts bench r slots) operands ≡ f sees (memory_of state_now []) []
  settling_given f =
      ap (λ (see : Seen). f see (whole c.texts bench r slots) operands) settling_sight
      ∙ ap (λ (m : Workspace). f sees m operands) settling_memory ∙ ap (λ (xs : List ℤ). f sees (memory_of state_now []) xs) operands_ok

  pub settle_named : named_along c (see_of sg r.levels) (most_steps c) at operands (whole c.texts bench r slots)
      ≡ named_settling c state_now r.levels
  settle_named = settling_given (λ see m xs. named_along c see (most_steps c) at xs m)

  pub settle_safe : (groups : List Membership) → SettlesSoundly c groups state_now r.levels
      → Safe c (see_of sg r.levels) (IsUnchanged (whole c.texts bench r slots)) (most_steps c) at operands (whole c.texts bench r slots)
  settle_safe groups settles =
      subst
      (λ (see : Seen). Safe c see (IsUnchanged (whole c.texts bench r slots)) (most_steps c) at operands (whole c.texts bench r slots))
      (sym settling_sight)
      (subst (λ (m : Workspace). Safe c sees (IsUnchanged m) (most_steps c) at operands m) (sym settling_memory)
      (subst (λ (xs : List ℤ). Safe c sees (IsUnchanged (memory_of state_now [])) (most_steps c) at xs (memory_of state_now [])) (sym operands_ok)
      (safe_weaker c sees (λ m. ⊥) (IsUnchanged (memory_of state_now [])) (λ m k. absurd k) (most_steps c) at [] (memory_of state_now [])
      (settling_is_safe c groups state_now r.levels settles))))

  pub settle_stays : (groups : List Membership) → SettlesSoundly c groups state_now r.levels
      → Stays c (see_of sg r.levels) (entry_calls (copy_of (last_of r.levels))) [] (most_steps c) at operands (whole c.texts bench r slots)
  settle_stays groups settles =
      subst
      (λ (see : Seen). Stays c see (entry_calls (copy_of (last_of r.levels))) [] (most_steps c) at operands
      (whole c.texts bench r slots))
      (sym settling_sight)
      (subst (λ (m : Workspace). Stays c sees (entry_calls (copy_of (last_of r.levels))) [] (most_steps c) at operands m) (sym settling_memory)
      (subst
      (λ (xs : List ℤ). Stays c sees (entry_calls (copy_of (last_of r.levels))) [] (most_steps c) at xs (memory_of state_now []))
      (sym operands_ok)
      (settling_stays c groups state_now r.levels [] settles)))

  pub settle_comes : (came : Ended) (after : Contents) (pieces : List (List ℕ)) (counters : List (Option Counting))
      (slots' : Slots) (st : ProcessStatus) (waiting : List (List ℕ))
      → ended_of came (mem after pieces counters slots') ≡ execute c (see_of sg r.levels) (most_steps c) at operands (whole c.texts bench r slots)
      → KeepsEnded came r after slots slots'
      → status_of st ≡ status_at (wants_there c (slice_get c.instrs (stop_at came at)) (slice_get c.instrs (stop_at came at + 1)))
      → record { state = standing after process (stop_at came at) kept; levels = after.levels; at_line = false; status = status_of st }
      ≡ settled (kind_of c) state_now r.levels
  settle_comes came after pieces counters slots' st waiting e keeps status_ok =
      by came keeps status_ok
      ∙ ap (λ (o : Came). goes_on (kind_of c) (settled_by state_now o) r.levels)
      (e ∙ settling_given (λ see m xs. execute c see (most_steps c) at xs m))
    where
      same : (to : ℕ) → after ≡ r → status_of st ≡ status_at (wants_there c (slice_get c.instrs at) (slice_get c.instrs (at + 1)))
          → record { state = standing after process at kept; levels = after.levels; at_line = false; status = status_of st }
          ≡ goes_on (kind_of c) state_now r.levels
      same to k q =
          ap (λ (x : Contents). record { state = standing x process at kept; levels = x.levels; at_line = false; status = status_of st }) k
          ∙ ap (λ (x : Stands). record { state = state_now; levels = r.levels; at_line = false; status = x }) q

      by : (one : Ended) → KeepsEnded one r after slots slots'
          → status_of st ≡ status_at (wants_there c (slice_get c.instrs (stop_at one at)) (slice_get c.instrs (stop_at one at + 1)))
          → record { state = standing after process (stop_at one at) kept; levels = after.levels; at_line = false; status = status_of st }
          ≡ goes_on (kind_of c) (settled_by state_now (ended_of one (mem after pieces counters slots'))) r.levels
      by (ended.Stop a done) k q =
          ap (λ (ls : List (Level Copy)). record { state = standing after process a kept; levels = ls; at_line = false; status = status_of st }) k.0
          ∙ ap (λ (x : Stands). record { state = standing after process a kept; levels = r.levels; at_line = false; status = x }) q
      by (ended.Accepts a) k q = same a k.0 q
      by (ended.Trap cause) k q = same 0 k.0 q

  pub settle_seen : (came : Ended) (after : Contents) (pieces : List (List ℕ)) (counters : List (Option Counting))
      (slots' : Slots) (st : ProcessStatus) (to : ℕ)
      → ended_of came (mem after pieces counters slots') ≡ execute c (see_of sg r.levels) (most_steps c) at operands (whole c.texts bench r slots)
      → KeepsEnded came r after slots slots' → to ≡ stop_at came at
      → status_of st ≡ status_at (wants_there c (slice_get c.instrs to) (slice_get c.instrs (to + 1)))
      → seen after process to kept false st ≡ record { process = settled (kind_of c) state_now r.levels; waiting = r.waiting }
  settle_seen came after pieces counters slots' st to e keeps to_is status_ok =
      ap (λ (a : ℕ). seen after process a kept false st) to_is
      ∙ ap (λ (q : Process Standing Copy). record { process = q; waiting = after.waiting })
      (settle_comes came after pieces counters slots' st [] e keeps
      (subst (λ (a : ℕ). status_of st ≡ status_at (wants_there c (slice_get c.instrs a) (slice_get c.instrs (a + 1)))) to_is status_ok))
      ∙ ap (λ (ws : List (List ℕ)). record { process = settled (kind_of c) state_now r.levels; waiting = ws }) (waits came keeps)
    where
      waits : (one : Ended) → KeepsEnded one r after slots slots' → after.waiting ≡ r.waiting
      waits (ended.Stop a done) k = k.1
      waits (ended.Accepts a) k = ap (λ (x : Contents). x.waiting) k.0
      waits (ended.Trap cause) k = ap (λ (x : Contents). x.waiting) k.0

-- without words no cursor is too high
pub none_rise : (c : Code) (p : ℕ) → CursorsRise c p []
none_rise c p channel h = omega arith
