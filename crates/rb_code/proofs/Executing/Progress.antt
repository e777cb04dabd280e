-- Where one instruction of sound code leads, a process stands again, with less left to do; and how that is shown of an instruction.
use Rattle.std.proofs.Common.{◌≡◌, inl, inr, ℕ, ◌+◌, ◌*◌, ◌<◌, ◌≤◌, ℤ, Bool, true, false, cond, List, [], ◌∷◌, length, filter, slice_get, Option, Some, None, Result, Ok, Err, refl, ap, sym, ◌∙◌, subst, arith}
use Rattle.rb_base.specs.declared.event.Cause.{Cause}
use Rattle.rb_base.specs.declared.limits.TheConstants.{MOST_QUANTIFIED}
use Rattle.rb_world.specs.Kind.{Membership}
use Rattle.rb_world.specs.Slots.{Slots}
use Rattle.rb_cache.specs.Copies.{Level as Touched, accepted}
use Rattle.rb_code.specs.Instructions.Plain.{Code}
use Rattle.rb_code.specs.WordMachine.Workspace.{Workspace, OpenCall, base_of}
use Rattle.rb_code.specs.WordMachine.Act.{Accepts, Going, Outcome, Sight, Stopped, Trapped, Unfinished, here, on_top, or_trap}
use Rattle.rb_code.specs.SoundCode.Sound.{Mode, Changed, Entry, Has, IsAhead, LeadsTo, Loop, Table, TopIs, at_address, freed, is_in, with_operands}
use Rattle.rb_code.specs.SoundCode.Stands.{BeganBefore, Fits, IsLaidOut, Levels, LoopsFit, Opened, ModeFits, OperandFits, OperandsFit, RestsAt}
use Rattle.rb_code.specs.declared.instr.Instr.{Instr}
use Rattle.rb_code.specs.declared.instr.Instr.TheVariants.{Turn}
use Rattle.rb_code.proofs.Looping.FallingNumbers.{bounded, high_falls, left, low_falls, worth}
use Rattle.rb_code.proofs.Looping.OpenLoops.{few_open, fit_less, open_loops, same_fit, same_open, some_times}
use Rattle.rb_code.proofs.Looping.LoopSteps.{ahead, left_at}
use Rattle.rb_code.proofs.Executing.Weaker.{arrives, mode_freed, rank, rank_freed}
use Rattle.rb_code.proofs.Executing.OpenLevels.{heights_of}

-- nothing is left at a `turn`
abbrev pub left_from : Option Instr → ℕ → ℕ
left_from (Some Turn) n = 0
left_from instr n = n

pub left_from_most : (instr : Option Instr) (n : ℕ) → left_from instr n ≤ n
left_from_most None n = omega arith
left_from_most (Some Turn) n = omega arith
left_from_most (Some instr) n = omega arith

module _ (c : Code) (groups : List Membership) (t : Table) (see : Sight) (levels : Levels) (P : Workspace → Type 0) where
  -- how much may be left to do in one body
  abbrev pub places : ℕ
  places = (length c.instrs + 1) * worth (length c.instrs) MOST_QUANTIFIED 2

  -- how much is left to do in the running one
  abbrev pub distance : Workspace → List Loop → ℕ → ℕ
  distance m loops a = left_from (slice_get c.instrs a) (left_at (length c.instrs) m loops a)

  -- how much is left to do in the turn: a call is open, or can be opened where nothing was changed
  abbrev pub potential : ℕ → List OpenCall → ℕ → ℕ
  potential r calls d = (r + length calls) * places + d

  -- in one body less is left to do than there are places
  pub in_body : (later : Workspace) (loops : List Loop) (b : ℕ) → LoopsFit later loops → distance later loops b < places
  in_body later loops b fit =
      let most = left_from_most (slice_get c.instrs b) (left_at (length c.instrs) later loops b) in
      let h = bounded (length c.instrs) MOST_QUANTIFIED some_times 2 (open_loops later loops) b (few_open (length c.instrs) later loops fit) in
      omega arith

  -- it goes on where less is left to do, and stands there; until something was changed P holds
  pub record GoesOn (most b : ℕ) (operands : List ℤ) (later : Workspace) : Type 0 where
    pub entry : Entry
    pub there : t b ≡ Some entry
    pub fits : Fits c t see levels b entry operands later
    pub less : potential (rank entry.mode) later.calls (distance later entry.loops b) < most
    pub clean : 2 ≤ rank entry.mode → P later

  -- it rests at a `turn` or where it is done
  pub record StopsAt (b : ℕ) (later : Workspace) : Type 0 where
    pub entry : Entry
    pub there : t b ≡ Some entry
    pub rests : RestsAt (slice_get c.instrs b)
    pub layout : IsLaidOut c t see.process levels entry later.words later.calls later.touched

  -- its innermost level may go, and then it stands where it settles
  pub record AcceptsAt (b : ℕ) (later : Workspace) : Type 0 where
    pub level : Opened
    pub others : Levels
    pub levels_are : levels ≡ level ∷ others
    pub entry : Entry
    pub there : t b ≡ Some entry
    pub operands_none : entry.operands ≡ []
    pub pieces_none : entry.pieces ≡ 0
    pub loops_none : entry.loops ≡ []
    pub mode_is : entry.mode ≡ Changed
    pub layout : IsLaidOut c t see.process others entry later.words later.calls (accepted later.touched)

  abbrev pub Progress : Workspace → ℕ → Outcome → Type 0
  Progress m most (Going b operands later) = GoesOn most b operands later
  Progress m most (Stopped b later) = StopsAt b later
  Progress m most (Accepts b later) = P m × P later × AcceptsAt b later
  Progress m most (Trapped cause) = P m
  Progress m most Unfinished = ⊥

  pub or_trap_goes : {A : Type 0} → (m : Workspace) (most : ℕ) (r : Result A Cause) (go : A → Outcome) → P m
      → ((z : A) → r ≡ Ok z → Progress m most (go z)) → Progress m most (or_trap r go)
  or_trap_goes m most (Ok z) go same h = h z refl
  or_trap_goes m most (Err cause) go same h = same

  pub cond_goes : (m : Workspace) (most : ℕ) (b : Bool) (x y : Outcome) → (b ≡ true → Progress m most x) → (b ≡ false → Progress m most y)
      → Progress m most (cond b x y)
  cond_goes m most true x y p q = p refl
  cond_goes m most false x y p q = q refl

  pub top_goes : (m : Workspace) (most : ℕ) (os : List (Option ℕ)) (xs : List ℤ) (Q : Option ℕ → List (Option ℕ) → Type 0)
      (go : ℤ → List ℤ → Outcome) → TopIs os Q → OperandsFit os xs
      → ((o : Option ℕ) (ps : List (Option ℕ)) (x : ℤ) (rest : List ℤ) → Q o ps → OperandFits o x → OperandsFit ps rest → Progress m most (go x rest))
      → Progress m most (on_top xs go)
  top_goes m most [] xs Q go p h k = absurd p
  top_goes m most (o ∷ os) [] Q go p h k = absurd h
  top_goes m most (o ∷ os) (x ∷ xs) Q go p h k = k o os x xs p h.0 h.1

  pub two_go : (m : Workspace) (most : ℕ) (os : List (Option ℕ)) (xs : List ℤ)
      (Q : Option ℕ → List (Option ℕ) → Option ℕ → List (Option ℕ) → Type 0) (go : ℤ → ℤ → List ℤ → Outcome)
      → TopIs os (λ o ps. TopIs ps (Q o ps)) → OperandsFit os xs
      → ((o : Option ℕ) (os1 : List (Option ℕ)) (p : Option ℕ) (ps : List (Option ℕ)) (y x : ℤ) (rest : List ℤ) → Q o os1 p ps
      → OperandFits p x → OperandsFit ps rest → Progress m most (go y x rest))
      → Progress m most (on_top xs (λ y others. on_top others (λ x rest. go y x rest)))
  two_go m most os xs Q go fine fit k =
      top_goes m most os xs (λ o ps. TopIs ps (Q o ps)) (λ y others. on_top others (λ x rest. go y x rest)) fine fit
      (λ o os1 y others q h1 h2. top_goes m most os1 others (Q o os1) (λ x rest. go y x rest) q h2
      (λ p ps x rest r h3 h4. k o os1 p ps y x rest r h3 h4))

  -- one instruction, at an address where it is known what is left to do
  module _ (a : ℕ) (e : Entry) (operands : List ℤ) (m : Workspace) (in_code : a < length c.instrs)
      (fits : Fits c t see levels a e operands m) (began : BeganBefore (a + 1) e.loops) where
    abbrev pub Most : ℕ
    Most = potential (rank e.mode) m.calls (left_at (length c.instrs) m e.loops a)

    -- on to an entry of no higher rank, with as many calls
    pub goes_on : (b : ℕ) (e1 : Entry) (xs : List ℤ) (later : Workspace) → Has (t b) e1 → Fits c t see levels b e1 xs later
        → rank e1.mode ≤ rank e.mode → length later.calls ≡ length m.calls
        → distance later e1.loops b < left_at (length c.instrs) m e.loops a → (2 ≤ rank e1.mode → P later) → GoesOn Most b xs later
    goes_on b e1 xs later leads fit low same near clean =
        let x = arrives c t see levels b e1 xs later leads fit in
        let p : rank x.entry.mode + length later.calls ≤ rank e.mode + length m.calls = omega (arith, x.low) in
        record {
          entry = x.entry;
          there = x.there;
          fits = x.fits;
          less = low_falls (rank e.mode + length m.calls) (rank x.entry.mode + length later.calls) places
              (left_at (length c.instrs) m e.loops a) (distance later x.entry.loops b) p
              (subst (λ loops. distance later loops b < left_at (length c.instrs) m e.loops a) (sym x.loops_are) near);
          clean = λ k. clean (omega (arith, x.low, k));
        }

    -- to an entry of lower rank, wherever it stands
    pub falls : (b : ℕ) (e1 : Entry) (xs : List ℤ) (later : Workspace) → Has (t b) e1 → Fits c t see levels b e1 xs later
        → rank e1.mode < rank e.mode → length later.calls ≡ length m.calls → (2 ≤ rank e1.mode → P later) → GoesOn Most b xs later
    falls b e1 xs later leads fit low same clean =
        let x = arrives c t see levels b e1 xs later leads fit in
        let p : rank x.entry.mode + length later.calls < rank e.mode + length m.calls = omega (arith, x.low) in
        record {
          entry = x.entry;
          there = x.there;
          fits = x.fits;
          less = high_falls (rank e.mode + length m.calls) (rank x.entry.mode + length later.calls) places
              (left_at (length c.instrs) m e.loops a) (distance later x.entry.loops b) p (in_body later x.entry.loops b x.fits.loops_fit);
          clean = λ k. clean (omega (arith, x.low, k));
        }

    -- an address ahead is nearer to the end, with the same counters
    pub nearer : (b : ℕ) (later : Workspace) → later.counters ≡ m.counters → IsAhead c groups t a b
        → distance later (filter (is_in b) e.loops) b < left_at (length c.instrs) m e.loops a
    nearer b later same (inl lt) =
        let most = left_from_most (slice_get c.instrs b) (left_at (length c.instrs) later (filter (is_in b) e.loops) b) in
        let is = ap (λ l. left (length c.instrs) MOST_QUANTIFIED 2 l b) (same_open m later (filter (is_in b) e.loops) same) in
        let near = ahead (length c.instrs) m e.loops a b fits.loops_fit began lt in_code in
        omega arith
    nearer b later same (inr turn) =
        let near = ahead (length c.instrs) m e.loops a (a + 1) fits.loops_fit began (omega arith) in_code in
        let is = ap (λ o. left_from o (left_at (length c.instrs) later (filter (is_in b) e.loops) b)) turn in
        omega arith

    -- on ahead in the same body and loops, with what is known there
    pub moves : (b : ℕ) (os : List (Option ℕ)) (w k : ℕ) (mode : Mode) (xs ws : List ℤ) (ts : List Touched) (hs : List (List ℕ))
        (ss : Slots) (ps : List (List ℕ)) → IsAhead c groups t a b
        → LeadsTo c groups t b (record e { operands = os; words = w; pieces = k; mode = mode }) → OperandsFit os xs
        → length ws ≡ base_of (here c see) m.calls + w → heights_of ts ≡ heights_of m.touched → length ps ≡ k → ModeFits c see b mode
        → rank mode ≤ rank e.mode
        → (2 ≤ rank mode → P (record m { words = ws; touched = ts; held = hs; slots = ss; pieces = ps }))
        → GoesOn Most b xs (record m { words = ws; touched = ts; held = hs; slots = ss; pieces = ps })
    moves b os w k mode xs ws ts hs ss ps is_ahead leads fit words heights pieces mode_fits low clean =
        let later : Workspace = record m { words = ws; touched = ts; held = hs; slots = ss; pieces = ps } in
        let e1 : Entry = record e { operands = os; words = w; pieces = k; mode = mode } in
        let stands : Fits c t see levels b (at_address b e1) xs later = record {
          operands_fit = fit;
          layout = record {
            words_are = words;
            calls_few = fits.layout.calls_few;
            body = fits.layout.body;
            heights = heights ∙ fits.layout.heights;
          };
          pieces_are = pieces;
          counters_two = fits.counters_two;
          loops_fit = fit_less (is_in b) later e.loops (same_fit m later e.loops refl fits.loops_fit);
          mode_fits = mode_fits;
        } in
        goes_on b (at_address b e1) xs later leads stands low refl (nearer b later refl is_ahead) clean

    module _ (clean : 2 ≤ rank e.mode → P m) where
      -- with other operands, and nothing else
      pub onward : (b : ℕ) (os : List (Option ℕ)) (xs : List ℤ) → IsAhead c groups t a b → LeadsTo c groups t b (with_operands os e)
          → OperandsFit os xs → GoesOn Most b xs m
      onward b os xs is_ahead leads fit =
          moves b os e.words e.pieces (freed e.mode) xs m.words m.touched m.held m.slots m.pieces is_ahead leads fit fits.layout.words_are
          refl fits.pieces_are (mode_freed c see a b e.mode fits.mode_fits) (rank_freed e.mode)
          (λ k. clean (omega (arith, rank_freed e.mode, k)))

      pub next : (os : List (Option ℕ)) (xs : List ℤ) → LeadsTo c groups t (a + 1) (with_operands os e) → OperandsFit os xs
          → GoesOn Most (a + 1) xs m
      next os xs leads fit = onward (a + 1) os xs (inl (omega arith)) leads fit

    -- something was changed
    pub changes : (os : List (Option ℕ)) (w k : ℕ) (xs ws : List ℤ) (ts : List Touched) (hs : List (List ℕ)) (ss : Slots)
        (ps : List (List ℕ)) → LeadsTo c groups t (a + 1) (record e { operands = os; words = w; pieces = k; mode = Changed })
        → OperandsFit os xs → length ws ≡ base_of (here c see) m.calls + w → heights_of ts ≡ heights_of m.touched → length ps ≡ k
        → GoesOn Most (a + 1) xs (record m { words = ws; touched = ts; held = hs; slots = ss; pieces = ps })
    changes os w k xs ws ts hs ss ps leads fit words heights pieces =
        moves (a + 1) os w k Changed xs ws ts hs ss ps (inl (omega arith)) leads fit words heights pieces tt (omega arith)
        (λ r. absurd (omega arith))
