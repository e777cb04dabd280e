-- A turn of sound code finds what it needs at each instruction, and ends where the process stands in the table again.
use Rattle.std.proofs.Common.{◌≡◌, ℕ, zero, suc, ◌+◌, ◌*◌, ◌<◌, ◌≤◌, ℤ, List, length, slice_get, Option, Some, None, refl, ap, subst, arith}
use Rattle.std.proofs.lemmas.Option.{slice_get_within}
use Rattle.std.proofs.Math.Nat.{mul-le-mul_right}
use Rattle.rb_base.specs.declared.limits.TheConstants.{MOST_QUANTIFIED}
use Rattle.rb_world.specs.Kind.{Membership}
use Rattle.rb_meaning.specs.Step.{most_calls}
use Rattle.rb_code.specs.Instructions.Plain.{Code}
use Rattle.rb_code.specs.WordMachine.Workspace.{Counting, Workspace}
use Rattle.rb_code.specs.WordMachine.Act.{Accepts, Going, Outcome, Sight, Stopped, Trapped, Unfinished, act, act_at, execute, then_go}
use Rattle.rb_code.specs.WordMachine.Turn.{most_places, most_steps}
use Rattle.rb_code.specs.SoundCode.Sound.{Entry, Fine, FineAt, HasTable, Table}
use Rattle.rb_code.specs.SoundCode.Safe.{IsThere, ReadyAt, Safe, SafeOn}
use Rattle.rb_code.specs.SoundCode.Stands.{Fits, Levels}
use Rattle.rb_code.specs.SoundCode.WellFormed.{ListsChannels}
use Rattle.rb_code.specs.declared.instr.Instr.{Instr}
use Rattle.rb_code.specs.declared.instr.Instr.TheVariants.{Turn}
use Rattle.rb_code.proofs.InWords.Channels.{receives, sends}
use Rattle.rb_code.proofs.Looping.FallingNumbers.{bounded}
use Rattle.rb_code.proofs.Looping.OpenLoops.{began_here, few_open, open_loops, some_times}
use Rattle.rb_code.proofs.Looping.LoopSteps.{left_at}
use Rattle.rb_code.proofs.Executing.Needs.{former_words, ready}
use Rattle.rb_code.proofs.Executing.Weaker.{rank, rank_most}
use Rattle.rb_code.proofs.Executing.Progress.{AcceptsAt, Progress, StopsAt, distance, left_from, left_from_most, places, potential}
use Rattle.rb_code.proofs.Executing.Steps.{goes}

module _ (c : Code) (groups : List Membership) (t : Table) (see : Sight) (levels : Levels) (P : Workspace → Type 0)
    (keeps : (m : Workspace) (pieces : List (List ℕ)) (counters : List (Option Counting)) → P m → P (record m { pieces = pieces; counters = counters }))
    (has : HasTable c groups t) (lists : ListsChannels c) (exists : IsThere (slice_get c.processes see.process))
    (former : see.prior ≡ former_words levels) where
  -- from where the process stands with less than n left to do, R
  abbrev pub From : (ℕ → List ℤ → Workspace → Type 0) → ℕ → Type 0
  From R n = (b : ℕ) (g : Entry) (xs : List ℤ) (m : Workspace) → t b ≡ Some g → Fits c t see levels b g xs m → (2 ≤ rank g.mode → P m)
      → potential c groups t see levels P (rank g.mode) m.calls (distance c groups t see levels P m g.loops b) < n → R b xs m

  -- where one instruction leads
  step_goes : (a : ℕ) (e : Entry) (xs : List ℤ) (m : Workspace) (i : Instr) (known : t a ≡ Some e) (fits : Fits c t see levels a e xs m)
      → (clean : 2 ≤ rank e.mode → P m) (at : slice_get c.instrs a ≡ Some i) → Fine c groups t i a e
      → Progress c groups t see levels P m
      (potential c groups t see levels P (rank e.mode) m.calls (left_at (length c.instrs) m e.loops a)) (act c see i a xs m)
  step_goes a e xs m i known fits clean at fine =
      goes c groups t see levels P keeps (sends c lists see.process exists) (receives c lists see.process exists) a e xs m
      (slice_get_within c.instrs a i at) known fits (began_here a e.loops (has.each a e known).around) clean i at fine

  on_safe : (n most : ℕ) (m : Workspace) (o : Outcome) → most < suc n → Progress c groups t see levels P m most o → From (Safe c see P n) n
      → SafeOn c see P m o (Safe c see P n)
  on_safe n most m (Going b xs later) lt p next = next b p.entry xs later p.there p.fits p.clean (let d = p.less in omega arith)
  on_safe n most m (Stopped b later) lt p next = tt
  on_safe n most m (Accepts b later) lt p next = p.0
  on_safe n most m (Trapped cause) lt p next = p
  on_safe n most m Unfinished lt p next = absurd p

  pub safe : (n : ℕ) → From (Safe c see P n) n
  safe zero a e xs m q fits clean lt = absurd (omega arith)
  safe (suc n) a e xs m q fits clean lt = by (safe n) (slice_get c.instrs a) refl (has.each a e q).fine lt
    where
      by : From (Safe c see P n) n → (o : Option Instr) → slice_get c.instrs a ≡ o → FineAt c groups t o a e
          → potential c groups t see levels P (rank e.mode) m.calls (left_from o (left_at (length c.instrs) m e.loops a)) < suc n
          → ReadyAt c see o xs m × SafeOn c see P m (act_at c see o a xs m) (Safe c see P n)
      by next None at fine low = absurd fine
      by next (Some Turn) at fine low = (tt, tt)
      by next (Some i) at fine low = (
        ready c groups t has see levels former a e xs m fits (has.each a e q).above i at fine,
        on_safe n _ m (act c see i a xs m) low (step_goes a e xs m i q fits clean at fine) next,
      )

  -- what a turn comes to
  abbrev pub Finishes : Outcome → Type 0
  Finishes (Going b xs later) = ⊥
  Finishes (Stopped b later) = StopsAt c groups t see levels P b later
  Finishes (Accepts b later) = P later × AcceptsAt c groups t see levels P b later
  Finishes (Trapped cause) = (later : Workspace) × P later
  Finishes Unfinished = ⊥

  then_finishes : (n most : ℕ) (m : Workspace) (o : Outcome) → most < suc n → Progress c groups t see levels P m most o
      → From (λ b xs later. Finishes (execute c see n b xs later)) n → Finishes (then_go o (execute c see n))
  then_finishes n most m (Going b xs later) lt p next = next b p.entry xs later p.there p.fits p.clean (let d = p.less in omega arith)
  then_finishes n most m (Stopped b later) lt p next = p
  then_finishes n most m (Accepts b later) lt p next = (p.1, p.2)
  then_finishes n most m (Trapped cause) lt p next = (m, p)
  then_finishes n most m Unfinished lt p next = absurd p

  pub finishes : (n : ℕ) → From (λ b xs later. Finishes (execute c see n b xs later)) n
  finishes zero a e xs m q fits clean lt = absurd (omega arith)
  finishes (suc n) a e xs m q fits clean lt = by (finishes n) (slice_get c.instrs a) refl (has.each a e q).fine lt
    where
      by : From (λ b xs later. Finishes (execute c see n b xs later)) n → (o : Option Instr) → slice_get c.instrs a ≡ o → FineAt c groups t o a e
          → potential c groups t see levels P (rank e.mode) m.calls (left_from o (left_at (length c.instrs) m e.loops a)) < suc n
          → Finishes (then_go (act_at c see o a xs m) (execute c see n))
      by next None at fine low = absurd fine
      by next (Some Turn) at fine low = step_goes a e xs m Turn q fits clean at fine
      by next (Some i) at fine low = then_finishes n _ m (act c see i a xs m) low (step_goes a e xs m i q fits clean at fine) next

  -- the most steps are more than any turn has
  pub low_enough : (a : ℕ) (e : Entry) (xs : List ℤ) (m : Workspace) → Fits c t see levels a e xs m
      → potential c groups t see levels P (rank e.mode) m.calls (distance c groups t see levels P m e.loops a) < most_steps c
  low_enough a e xs m fits =
      let n = length c.instrs in
      let all = places c groups t see levels P in
      let d = left_from_most (slice_get c.instrs a) (left_at n m e.loops a) in
      let l = bounded n MOST_QUANTIFIED some_times 2 (open_loops m e.loops) a (few_open n m e.loops fits.loops_fit) in
      let r = rank_most e.mode in
      let k = fits.layout.calls_few in
      let most : (rank e.mode + length m.calls) * all ≤ (most_calls + 3) * all = mul-le-mul_right all (omega arith) in
      let one : (n + 1) * 1 ≡ n + 1 = omega arith in
      let is : all ≡ most_places (n + 1) = ap (λ x. (n + 1) * (MOST_QUANTIFIED * ((n + 1) * (MOST_QUANTIFIED * x)))) one in
      subst (λ x. potential c groups t see levels P (rank e.mode) m.calls (distance c groups t see levels P m e.loops a) < (most_calls + 4) * x)
      is (let two : (most_calls + 3) * all + all ≤ (most_calls + 4) * all = omega arith in omega arith)

  -- so from wherever the process stands
  pub from_here : (R : ℕ → List ℤ → Workspace → Type 0) → From R (most_steps c) → (a : ℕ) (e : Entry) (xs : List ℤ) (m : Workspace)
      → t a ≡ Some e → Fits c t see levels a e xs m → (2 ≤ rank e.mode → P m) → R a xs m
  from_here R from a e xs m q fits clean = from a e xs m q fits clean (low_enough a e xs m fits)
