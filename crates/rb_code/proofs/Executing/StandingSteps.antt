-- A step of a process that stands in the table of sound code is safe, comes to an end, and leaves it standing; and so does settling.
use Rattle.std.proofs.Common.{◌≡◌, ℕ, ◌+◌, ◌≤◌, ℤ, List, [], filter, slice_get, Option, Some, None, refl, ap, sym, ◌∙◌, subst, arith}
use Rattle.rb_cache.specs.Copies.{accepted}
use Rattle.rb_world.specs.Kind.{Membership}
use Rattle.rb_world.specs.Slots.{Slots}
use Rattle.rb_world.specs.World.{Level, copy_of, last_of}
use Rattle.rb_code.specs.Instructions.Plain.{Code}
use Rattle.rb_code.specs.WordMachine.Workspace.{Counting, Workspace}
use Rattle.rb_code.specs.WordMachine.Act.{Accepts, Going, Outcome, Sight, Stopped, Trapped as Trap, Unfinished, execute}
use Rattle.rb_code.specs.WordMachine.Turn.{Common, Copy, Standing, came_to, memory_of, most_steps, settle, settled_by, sight, standing_at, step}
use Rattle.rb_code.specs.SoundCode.Sound.{Fresh, Fine, FineAt, HasTable, Table, at_address, is_in}
use Rattle.rb_code.specs.SoundCode.Safe.{IsUnchanged, Safe}
use Rattle.rb_code.specs.SoundCode.Stands.{Fits, IsLaidOut, IsMet, inside_out, LoopsFit, ModeFits, OperandsFit, Settles, Stands, StandsAfter}
use Rattle.rb_code.specs.SoundCode.WellFormed.{ListsChannels}
use Rattle.rb_code.specs.declared.instr.Instr.TheVariants.{Turn}
use Rattle.rb_code.proofs.Executing.LastOf.{former_is, without_innermost}
use Rattle.rb_code.proofs.Executing.Weaker.{Arrives, arrives, rank}
use Rattle.rb_code.proofs.Executing.Safety.{Finishes, finishes, from_here, safe}

-- pieces and counters are not what a turn leaves as it was
pub unchanged_keeps : (m later : Workspace) (pieces : List (List ℕ)) (counters : List (Option Counting)) → IsUnchanged m later
    → IsUnchanged m (record later { pieces = pieces; counters = counters })
unchanged_keeps m later pieces counters h =
    record { words = h.words; calls = h.calls; held = h.held; touched = h.touched; slots = h.slots }

unchanged_same : (m : Workspace) → IsUnchanged m m
unchanged_same m = record { words = refl; calls = refl; held = refl; touched = refl; slots = refl }

module _ (c : Code) (groups : List Membership) (t : Table) (has : HasTable c groups t) (lists : ListsChannels c) where
  module _ (s : Standing) (levels : List (Level Copy)) (stands : Stands c t s levels) (turn : slice_get c.instrs s.at ≡ Some Turn) where
    -- what is known of a process at a `turn`
    abbrev fine_here : Type 0
    fine_here = Fine c groups t Turn s.at stands.entry

    pub at_turn : fine_here
    at_turn = subst (λ o. FineAt c groups t o s.at stands.entry) turn (has.each s.at stands.entry stands.there).fine

    -- behind the `turn`
    pub behind : (slots : Slots) (see : Sight) → see.process ≡ s.process → IsMet c see (slice_get c.instrs (s.at + 1))
        → Arrives c t see (inside_out levels) (at_address (s.at + 1) (record stands.entry { mode = Fresh })) (s.at + 1) [] (memory_of s slots)
    behind slots see same met =
        let e1 = at_address (s.at + 1) (record stands.entry { mode = Fresh }) in
        let fits : Fits c t see (inside_out levels) (s.at + 1) e1 [] (memory_of s slots) = record {
          operands_fit = subst (λ os. OperandsFit os []) (sym at_turn.0) tt;
          layout = subst (λ p. IsLaidOut c t p (inside_out levels) e1 s.words s.calls s.touched) (sym same) (record {
            words_are = stands.layout.words_are;
            calls_few = stands.layout.calls_few;
            body = stands.layout.body;
            heights = stands.layout.heights;
          });
          pieces_are = sym at_turn.1;
          counters_two = refl;
          loops_fit = subst (λ ls. LoopsFit (memory_of s slots) (filter (is_in (s.at + 1)) ls)) (sym at_turn.2) tt;
          mode_fits = met;
        } in
        arrives c t see (inside_out levels) (s.at + 1) e1 [] (memory_of s slots) at_turn.3 fits

  -- a step of a process at a `turn`, where the instruction behind it gets what it asks for
  module _ (s : Standing) (levels : List (Level Copy)) (stands : Stands c t s levels) (turn : slice_get c.instrs s.at ≡ Some Turn)
      (alternate : ℕ) (message : Option ℤ)
      (met : IsMet c (sight s alternate (copy_of (last_of levels)) message) (slice_get c.instrs (s.at + 1))) where
    abbrev pub see_of : Sight
    see_of = sight s alternate (copy_of (last_of levels)) message

    -- the step is safe: it finds what it needs, and where it may trap or accept it has changed nothing
    pub step_safe : (slots : Slots) → Safe c see_of (IsUnchanged (memory_of s slots)) (most_steps c) (s.at + 1) [] (memory_of s slots)
    step_safe slots =
        let m = memory_of s slots in
        let x = behind s levels stands turn slots see_of refl met in
        from_here c groups t see_of (inside_out levels) (IsUnchanged m) (unchanged_keeps m) has lists stands.exists (former_is levels)
        (Safe c see_of (IsUnchanged m) (most_steps c))
        (safe c groups t see_of (inside_out levels) (IsUnchanged m) (unchanged_keeps m) has lists stands.exists (former_is levels) (most_steps c))
        (s.at + 1) x.entry [] m x.there x.fits (λ k. unchanged_same m)

    pub step_finishes : (slots : Slots) → Finishes c groups t see_of (inside_out levels) (IsUnchanged (memory_of s slots))
        (unchanged_keeps (memory_of s slots)) has lists stands.exists (former_is levels)
        (execute c see_of (most_steps c) (s.at + 1) [] (memory_of s slots))
    step_finishes slots =
        let m = memory_of s slots in
        let x = behind s levels stands turn slots see_of refl met in
        from_here c groups t see_of (inside_out levels) (IsUnchanged m) (unchanged_keeps m) has lists stands.exists (former_is levels)
        (λ b xs later. Finishes c groups t see_of (inside_out levels) (IsUnchanged m) (unchanged_keeps m) has lists stands.exists
        (former_is levels) (execute c see_of (most_steps c) b xs later))
        (finishes c groups t see_of (inside_out levels) (IsUnchanged m) (unchanged_keeps m) has lists stands.exists (former_is levels)
        (most_steps c))
        (s.at + 1) x.entry [] m x.there x.fits (λ k. unchanged_same m)

    -- where nothing was changed only the address is another
    same_standing : (slots : Slots) (at : ℕ) (later : Workspace) → IsUnchanged (memory_of s slots) later
        → standing_at at later s ≡ record s { at = at }
    same_standing slots at later u =
        ap (λ ws. record s { at = at; words = ws; calls = later.calls; held = later.held; touched = later.touched }) u.words
        ∙ (ap (λ cs. record s { at = at; calls = cs; held = later.held; touched = later.touched }) u.calls
        ∙ (ap (λ hs. record s { at = at; held = hs; touched = later.touched }) u.held
        ∙ ap (λ ts. record s { at = at; touched = ts }) u.touched))

    pub step_stands : (memory : Common) → StandsAfter c t s levels (step c alternate (copy_of (last_of levels)) s message memory)
    step_stands memory =
        by (execute c see_of (most_steps c) (s.at + 1) [] (memory_of s memory.slots)) (step_finishes memory.slots)
      where
        by : (o : Outcome) → Finishes c groups t see_of (inside_out levels) (IsUnchanged (memory_of s memory.slots))
            (unchanged_keeps (memory_of s memory.slots)) has lists stands.exists (former_is levels) o
            → StandsAfter c t s levels (came_to s memory o)
        by (Stopped at later) h =
            record { exists = stands.exists; rests = h.rests; entry = h.entry; there = h.there; layout = h.layout }
        by (Accepts at later) h = (
          same_standing memory.slots at later h.0,
          record {
            exists = stands.exists;
            entry = h.1.entry;
            there = h.1.there;
            operands_none = h.1.operands_none;
            pieces_none = h.1.pieces_none;
            loops_none = h.1.loops_none;
            mode_is = h.1.mode_is;
            layout = subst (λ ls. IsLaidOut c t s.process ls h.1.entry later.words later.calls (accepted later.touched))
                (sym (without_innermost levels h.1.level h.1.others h.1.levels_are)) h.1.layout;
          },
        )
        by (Trap cause) h = tt
        by (Going at xs later) h = absurd h
        by Unfinished h = absurd h

  -- settling
  module _ (s : Standing) (levels : List (Level Copy)) (settles : Settles c t s levels) where
    abbrev pub see_settling : Sight
    see_settling = sight s 0 (copy_of (last_of levels)) None

    abbrev pub Nothing : Workspace → Type 0
    Nothing m = ⊥

    nothing_keeps : (m : Workspace) (pieces : List (List ℕ)) (counters : List (Option Counting)) → Nothing m
        → Nothing (record m { pieces = pieces; counters = counters })
    nothing_keeps m pieces counters h = h

    here_fits : Fits c t see_settling (inside_out levels) s.at settles.entry [] (memory_of s [])
    here_fits = record {
      operands_fit = subst (λ os. OperandsFit os []) (sym settles.operands_none) tt;
      layout = settles.layout;
      pieces_are = sym settles.pieces_none;
      counters_two = refl;
      loops_fit = subst (LoopsFit (memory_of s [])) (sym settles.loops_none) tt;
      mode_fits = subst (ModeFits c see_settling s.at) (sym settles.mode_is) tt;
    }

    changed_here : 2 ≤ rank settles.entry.mode → ⊥
    changed_here k = absurd (let e = ap rank settles.mode_is in omega arith)

    -- it is safe, and never traps
    pub settle_safe : Safe c see_settling Nothing (most_steps c) s.at [] (memory_of s [])
    settle_safe =
        from_here c groups t see_settling (inside_out levels) Nothing nothing_keeps has lists settles.exists (former_is levels)
        (Safe c see_settling Nothing (most_steps c))
        (safe c groups t see_settling (inside_out levels) Nothing nothing_keeps has lists settles.exists (former_is levels) (most_steps c))
        s.at settles.entry [] (memory_of s []) settles.there here_fits changed_here

    settle_finishes : Finishes c groups t see_settling (inside_out levels) Nothing nothing_keeps has lists settles.exists (former_is levels)
        (execute c see_settling (most_steps c) s.at [] (memory_of s []))
    settle_finishes =
        from_here c groups t see_settling (inside_out levels) Nothing nothing_keeps has lists settles.exists (former_is levels)
        (λ b xs later. Finishes c groups t see_settling (inside_out levels) Nothing nothing_keeps has lists settles.exists (former_is levels)
        (execute c see_settling (most_steps c) b xs later))
        (finishes c groups t see_settling (inside_out levels) Nothing nothing_keeps has lists settles.exists (former_is levels) (most_steps c))
        s.at settles.entry [] (memory_of s []) settles.there here_fits changed_here

    pub settle_stands : Stands c t (settle c (copy_of (last_of levels)) s) levels
    settle_stands = by (execute c see_settling (most_steps c) s.at [] (memory_of s [])) settle_finishes
      where
        by : (o : Outcome) → Finishes c groups t see_settling (inside_out levels) Nothing nothing_keeps has lists settles.exists (former_is levels) o
            → Stands c t (settled_by s o) levels
        by (Stopped at later) h =
            record { exists = settles.exists; rests = h.rests; entry = h.entry; there = h.there; layout = h.layout }
        by (Accepts at later) h = absurd h.0
        by (Trap cause) h = absurd h.1
        by (Going at xs later) h = absurd h
        by Unfinished h = absurd h
