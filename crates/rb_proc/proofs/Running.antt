-- One step of a safe run.
use Rattle.std.proofs.Common.{◌≡◌, ℕ, zero, suc, ◌+◌, ◌-◌, ◌<◌, ◌≤◌, ◌^◌, ℤ, Bool, true, false, cond, List, ◌∷◌, length, Option, Some, None, refl, ap, sym, ◌∙◌, subst, arith}
use Rattle.std.specs.Prelude.{slice_get, get_or}
use Rattle.std.proofs.lemmas.Option.{slice_get_within, slice_get_read}
use Rattle.rb_base.specs.declared.limits.TheConstants.{MOST_OPERANDS}
use Rattle.rb_meaning.specs.Environment.{natural}
use Rattle.rb_meaning.specs.Value.{truth}
use Rattle.rb_world.specs.Slots.{Slots}
use Rattle.rb_world.specs.World.{Level}
use Rattle.rb_cache.specs.Copies.{Level as Touched}
use Rattle.rb_code.specs.Instructions.Plain.{Code}
use Rattle.rb_code.specs.WordMachine.Workspace.{Counting, Workspace, OpenCall, cursor_place, word_at}
use Rattle.rb_code.specs.WordMachine.Act.{Accepts, Going, Outcome, Sight, Stopped, Trapped, Unfinished, act, act_at, execute, here, then_go}
use Rattle.rb_code.specs.SoundCode.Safe.{IsUnchanged, Ready, ReadyAt, Safe, SafeOn, counted, steps_left}
use Rattle.rb_code.specs.SoundCode.Stays.{CursorStays, HasEnough, Stays, StaysOn}
use Rattle.rb_code.specs.SoundCode.Stands.{IsAmong}
use Rattle.rb_code.specs.WordMachine.Turn.{Copy}
use Rattle.rb_code.specs.declared.instr.Instr.{Instr}
use Rattle.rb_code.specs.declared.instr.Instr.TheVariants.{JumpZero, Put, Take}
use Rattle.rb_proc.specs.Acts.{CursorRises, LeavesEnough}
use Rattle.rb_recoverable.specs.Contents.{Contents}
use Rattle.rb_proc.specs.Outcomes.{mem}
use Rattle.rb_operands.specs.Comparing.{decided}
use Rattle.rb_proc.specs.Work.{named, named_along, named_at, named_from}
use Rattle.rb_proc.proofs.FewOperands.{LeavesFew, leaves_few}

module _ (c : Code) (see : Sight) (P : Workspace → Type 0) (calls : ℕ) (start : List ℤ) where
  -- a run of at most so many instructions that is safe from here, and comes to what the whole comes to
  pub record Runs (most : ℕ) (end : Outcome) (a : ℕ) (xs : List ℤ) (m : Workspace) : Type 0 where
    pub n : ℕ
    pub within : n ≤ most
    pub safe : Safe c see P n a xs m
    pub stays : Stays c see calls start n a xs m
    pub comes : execute c see n a xs m ≡ end

  -- a safe run has so many instructions left, whatever more it is given
  count_same : (n k a : ℕ) (xs : List ℤ) (m : Workspace) → n ≤ k → Safe c see P n a xs m → steps_left c see k a xs m ≡ steps_left c see n a xs m
  count_same zero k a xs m le safe = absurd safe
  count_same (suc n) zero a xs m le safe = absurd (omega arith)
  count_same (suc n) (suc k) a xs m le safe =
      by (λ b ys later s. count_same n k b ys later (omega arith) s) (act_at c see (slice_get c.instrs a) a xs m) safe.1
    where
      by : ((b : ℕ) (ys : List ℤ) (later : Workspace) → Safe c see P n b ys later → steps_left c see k b ys later ≡ steps_left c see n b ys later)
          → (o : Outcome) → SafeOn c see P m o (Safe c see P n) → counted c see o (steps_left c see k) ≡ counted c see o (steps_left c see n)
      by next (Going b ys later) s = ap suc (next b ys later s)
      by next (Stopped b later) s = refl
      by next (Accepts b later) s = refl
      by next (Trapped cause) s = refl
      by next Unfinished s = absurd s

  module _ (most a : ℕ) (xs : List ℤ) (m : Workspace) (end : Outcome) (runs : Runs most end a xs m) where
    pub in_code : a < length c.instrs
    in_code = at runs.n runs.safe
      where
        by : (o : Option Instr) → slice_get c.instrs a ≡ o → ReadyAt c see o xs m → a < length c.instrs
        by None q h = absurd h
        by (Some i) q h = slice_get_within c.instrs a i q

        at : (n : ℕ) → Safe c see P n a xs m → a < length c.instrs
        at zero s = absurd s
        at (suc n) s = by (slice_get c.instrs a) refl s.0

    -- what is read there is the instruction that is there
    pub fetched : (i : Instr) → i ≡ get_or c.instrs a i → slice_get c.instrs a ≡ Some i
    fetched i e = slice_get_read c.instrs (length c.instrs) a i refl in_code e

    module _ (i : Instr) (q : slice_get c.instrs a ≡ Some i) where
      pub ready_here : Ready c see i xs m
      ready_here = at runs.n runs.safe
        where
          at : (n : ℕ) → Safe c see P n a xs m → Ready c see i xs m
          at zero s = absurd s
          at (suc n) s = subst (λ o. ReadyAt c see o xs m) q s.0

      cursor_here : CursorStays c see calls start (Some i) m.words
      cursor_here = at runs.n runs.stays
        where
          at : (n : ℕ) → Stays c see calls start n a xs m → CursorStays c see calls start (Some i) m.words
          at zero s = subst (λ o. CursorStays c see calls start o m.words) q s.1
          at (suc n) s = subst (λ o. CursorStays c see calls start o m.words) q s.0.1

      pub rises : ((channel : ℕ) → IsAmong channel (here c see).channels → natural (word_at start (cursor_place (here c see) channel)) < 2 ^ 32 - 1)
          → CursorRises c see m.words i
      rises low = by i cursor_here
        where
          by : (i : Instr) → CursorStays c see calls start (Some i) m.words → CursorRises c see m.words i
          by (Put channel) s =
              subst (λ (ws : List ℤ). natural (word_at ws (cursor_place (here c see) channel)) < 2 ^ 32 - 1) (sym s.1) (low channel s.0)
          by (Take channel) s =
              subst (λ (ws : List ℤ). natural (word_at ws (cursor_place (here c see) channel)) < 2 ^ 32 - 1) (sym s.1) (low channel s.0)
          by i s = tt

      stays_on : (o : Outcome) → o ≡ act c see i a xs m → (n : ℕ) → Stays c see calls start (suc n) a xs m
          → StaysOn c see calls start o (Stays c see calls start n)
      stays_on o e n s =
          subst (λ x. StaysOn c see calls start x (Stays c see calls start n)) (sym e)
          (subst (λ x. StaysOn c see calls start (act_at c see x a xs m) (Stays c see calls start n)) q s.1)

      safe_on : (o : Outcome) → o ≡ act c see i a xs m → (n : ℕ) → Safe c see P (suc n) a xs m → SafeOn c see P m o (Safe c see P n)
      safe_on o e n s =
          subst (λ x. SafeOn c see P m x (Safe c see P n)) (sym e) (subst (λ x. SafeOn c see P m (act_at c see x a xs m) (Safe c see P n)) q s.1)

      pub leaves : LeavesEnough calls (act c see i a xs m)
      leaves = at runs.n runs.safe runs.stays
        where
          enough : (n : ℕ) (b : ℕ) (ys : List ℤ) (later : Workspace) → Stays c see calls start n b ys later → HasEnough calls later
          enough zero b ys later s = s.0
          enough (suc n) b ys later s = s.0.0

          by : (n : ℕ) (o : Outcome) → StaysOn c see calls start o (Stays c see calls start n) → LeavesEnough calls o
          by n (Going b ys later) s = enough n b ys later s
          by n (Stopped b later) s = tt
          by n (Accepts b later) s = tt
          by n (Trapped cause) s = tt
          by n Unfinished s = tt

          at : (n : ℕ) → Safe c see P n a xs m → Stays c see calls start n a xs m → LeavesEnough calls (act c see i a xs m)
          at zero safe s = absurd safe
          at (suc n) safe s = by n (act c see i a xs m) (stays_on (act c see i a xs m) refl n s)

      comes_to : (o : Outcome) → o ≡ act c see i a xs m → (n : ℕ) → execute c see (suc n) a xs m ≡ then_go o (execute c see n)
      comes_to o e n = ap (λ x. then_go (act_at c see x a xs m) (execute c see n)) q ∙ ap (λ x. then_go x (execute c see n)) (sym e)

      -- what is named from here on
      names : (o : Outcome) → o ≡ act c see i a xs m → (n : ℕ) → named_along c see (suc n) a xs m ≡ named i + named_from o (named_along c see n)
      names o e n =
          ap (λ x. named_at x + named_from (act_at c see x a xs m) (named_along c see n)) q
          ∙ ap (λ x. named i + named_from x (named_along c see n)) (sym e)

      pub names_here : named i ≤ named_along c see runs.n a xs m
      names_here = at runs.n runs.safe
        where
          at : (n : ℕ) → Safe c see P n a xs m → named i ≤ named_along c see n a xs m
          at zero safe = absurd safe
          at (suc n) safe = omega (arith, names (act c see i a xs m) refl n)

      -- it goes on, and names what this instruction does and what the rest does
      module _ (b : ℕ) (ys : List ℤ) (later : Workspace) (e : Going b ys later ≡ act c see i a xs m) where
        pub onward : (rest : Runs most end b ys later) × (named_along c see runs.n a xs m ≡ named i + named_along c see rest.n b ys later)
        onward = at runs.n runs.within runs.safe runs.stays runs.comes
          where
            at : (n : ℕ) → n ≤ most → Safe c see P n a xs m → Stays c see calls start n a xs m → execute c see n a xs m ≡ end
                → (rest : Runs most end b ys later) × (named_along c see n a xs m ≡ named i + named_along c see rest.n b ys later)
            at zero le safe s x = absurd safe
            at (suc n) le safe s x = (
              record {
                n = n;
                within = omega arith;
                safe = safe_on (Going b ys later) e n safe;
                stays = stays_on (Going b ys later) e n s;
                comes = sym (comes_to (Going b ys later) e n) ∙ x;
              },
              names (Going b ys later) e n,
            )

        pub falls : steps_left c see most b ys later < steps_left c see most a xs m
        falls = at runs.n runs.within runs.safe
          where
            at : (n : ℕ) → n ≤ most → Safe c see P n a xs m → steps_left c see most b ys later < steps_left c see most a xs m
            at zero le safe = absurd safe
            at (suc n) le safe =
                let here_count = count_same (suc n) most a xs m le safe in
                let there = count_same n most b ys later (omega arith) (safe_on (Going b ys later) e n safe) in
                let step : steps_left c see (suc n) a xs m ≡ suc (steps_left c see n b ys later) =
                ap (λ x. counted c see (act_at c see x a xs m) (steps_left c see n)) q ∙ ap (λ x. counted c see x (steps_left c see n)) (sym e) in
                omega arith

      -- an end
      abbrev pub IsOver : Outcome → Type 0
      IsOver (Going b ys later) = ⊥
      IsOver o = Unit {0}

      pub over : (o : Outcome) → o ≡ act c see i a xs m → IsOver o → o ≡ end
      over o e h = at runs.n runs.safe runs.comes
        where
          stays_over : (o : Outcome) (next : ℕ → List ℤ → Workspace → Outcome) → IsOver o → then_go o next ≡ o
          stays_over (Going b ys later) next h = absurd h
          stays_over (Stopped b later) next h = refl
          stays_over (Accepts b later) next h = refl
          stays_over (Trapped cause) next h = refl
          stays_over Unfinished next h = refl

          at : (n : ℕ) → Safe c see P n a xs m → execute c see n a xs m ≡ end → o ≡ end
          at zero safe x = absurd safe
          at (suc n) safe x = sym (stays_over o (execute c see n) h) ∙ sym (comes_to o e n) ∙ x

      -- an end that changes nothing
      abbrev pub IsNothing : Outcome → Type 0
      IsNothing (Accepts b later) = Unit {0}
      IsNothing (Trapped cause) = Unit {0}
      IsNothing o = ⊥

      pub unchanged : (o : Outcome) → o ≡ act c see i a xs m → IsNothing o → P m
      unchanged o e h = at runs.n runs.safe
        where
          on : (o : Outcome) (next : ℕ → List ℤ → Workspace → Type 0) → IsNothing o → SafeOn c see P m o next → P m
          on (Going b ys later) next h s = absurd h
          on (Stopped b later) next h s = absurd h
          on (Accepts b later) next h s = s
          on (Trapped cause) next h s = s
          on Unfinished next h s = absurd h

          at : (n : ℕ) → Safe c see P n a xs m → P m
          at zero safe = absurd safe
          at (suc n) safe = on o (Safe c see P n) h (safe_on o e n safe)

  -- a comparison of which it is known whether it holds leads on, and so does a jump right behind it
  module _ (most a : ℕ) (xs : List ℤ) (m : Workspace) (end : Outcome) (runs : Runs most end a xs m) (i : Instr) (q : slice_get c.instrs a ≡ Some i)
      (holds : Bool) (ys : List ℤ) (later : Workspace) (e : Going (a + 1) (truth holds ∷ ys) later ≡ act c see i a xs m) where
    abbrev pub pushed : List ℤ
    pushed = truth holds ∷ ys

    -- the run with the truth on top
    first : (rest : Runs most end (a + 1) pushed later) × (named_along c see runs.n a xs m ≡ named i + named_along c see rest.n (a + 1) pushed later)
    first = onward most a xs m end runs i q (a + 1) pushed later e

    pub is_behind : a + 1 < length c.instrs
    is_behind = in_code most (a + 1) pushed later end first.0

    pub is_room : length xs ≤ MOST_OPERANDS → length ys < MOST_OPERANDS
    is_room few = subst LeavesFew (sym e) (leaves_few c see a xs m few i (ready_here most a xs m end runs i q))

    pub record LeadsOn (b : ℕ) (zs : List ℤ) : Type 0 where
      pub rest : Runs most end b zs later
      pub names : named_along c see runs.n a xs m ≡ named i + named_along c see rest.n b zs later
      pub fewer : steps_left c see most b zs later < steps_left c see most a xs m

    pub decides : (b : ℕ) (zs : List ℤ) → Going b zs later ≡ decided (slice_get c.instrs (a + 1)) (a + 1) holds ys later → LeadsOn b zs
    decides b zs = by (slice_get c.instrs (a + 1)) refl
      where
        jumped : (to : ℕ) (holds : Bool) → Going (cond holds (a + 1 + 1) to) ys later ≡ act c see (JumpZero to) (a + 1) (truth holds ∷ ys) later
        jumped to true = refl
        jumped to false = refl

        by : (o : Option Instr) → slice_get c.instrs (a + 1) ≡ o → Going b zs later ≡ decided o (a + 1) holds ys later → LeadsOn b zs
        by (Some (JumpZero to)) there d =
            let jump = onward most (a + 1) pushed later end first.0 (JumpZero to) there b zs later (d ∙ jumped to holds) in
            let fewer = falls most (a + 1) pushed later end first.0 (JumpZero to) there b zs later (d ∙ jumped to holds) in
            let before = falls most a xs m end runs i q (a + 1) pushed later e in
            record { rest = jump.0; names = (let one = first.1 in let other = jump.1 in omega arith); fewer = omega arith }
        by o there d =
            let next = onward most a xs m end runs i q b zs later (d ∙ e) in
            record { rest = next.0; names = next.1; fewer = falls most a xs m end runs i q b zs later (d ∙ e) }

-- where a memory is unchanged, so is what the process can recover
pub same_contents : (old new : Contents) (pieces later_pieces : List (List ℕ))
    (counters later_counters : List (Option Counting)) (slots later_slots : Slots)
    → IsUnchanged (mem old pieces counters slots) (mem new later_pieces later_counters later_slots)
    → new.levels ≡ old.levels → new.waiting ≡ old.waiting
    → new ≡ old
same_contents old new pieces later_pieces counters later_counters slots later_slots h levels waiting =
    ap (λ (ws : List ℤ). record new { words = ws }) h.words
    ∙ ap (λ (cs : List OpenCall). record new { words = old.words; calls = cs }) h.calls
    ∙ ap (λ (hs : List (List ℕ)). record new { words = old.words; calls = old.calls; held = hs }) h.held
    ∙ ap (λ (ts : List Touched). record new { words = old.words; calls = old.calls; held = old.held; touched = ts }) h.touched
    ∙ ap (λ (ls : List (Level Copy)). record {
      words = old.words;
      calls = old.calls;
      held = old.held;
      touched =
          old.touched;
      levels = ls;
      waiting = new.waiting;
    }) levels
    ∙ ap (λ (ws : List (List ℕ)). record old { waiting = ws }) waiting
