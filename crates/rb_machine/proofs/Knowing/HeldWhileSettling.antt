-- While a process of sound code settles nothing is printed: its held lines stay, and so does the held length, which is word 0.
use Rattle.std.proofs.Common.{◌≡◌, ℕ, zero, suc, ◌+◌, ◌-◌, ◌<◌, ◌≤◌, ℤ, pos, ◌+ℤ◌, neg_ℤ, int_lt, nat_le, Bool, true, false, cond, List, [], ◌∷◌, ◌++◌, length, slice_get, slice_set, replicate, take, Option, Some, None, Result, Ok, Err, refl, ap, ◌∙◌, arith}
use Rattle.std.proofs.lemmas.Option.{slice_get_within}
use Rattle.rb_base.specs.declared.event.Cause.{Cause}
use Rattle.rb_base.specs.declared.event.Cause.TheVariants.{Calls, Index, Stack, Test as TestCause}
use Rattle.rb_syntax.specs.declared.expression.Op.TheVariants as op
use Rattle.rb_world.specs.Kind.{Membership}
use Rattle.rb_world.specs.World.{Level, copy_of, last_of}
use Rattle.rb_meaning.specs.Environment.{natural}
use Rattle.rb_meaning.specs.Step.{most_calls}
use Rattle.rb_meaning.specs.Value.{applied, fitting, is_zero, span}
use Rattle.rb_code.specs.Instructions.Plain.{Code}
use Rattle.rb_code.specs.WordMachine.Workspace.{Counting, Workspace, OpenCall, base_of, body_place, called, framed, held_place, word_at}
use Rattle.rb_code.specs.WordMachine.Act.{Accepts, Going, Outcome, Sight, Stopped, Trapped, Unfinished, act, act_at, alternate_address, arguments, below, counted_on, counter_at, counting, execute, has_words_for, here, if_there, on_top, operate, or_trap, place, ranged, returned, then_go, within}
use Rattle.rb_code.specs.WordMachine.Turn.{Copy, Standing, memory_of, most_steps, settle, settled_by, sight}
use Rattle.rb_code.specs.SoundCode.Sound.{Entry, Fine, FineAt, HasTable, Table}
use Rattle.rb_code.specs.SoundCode.Safe.{IsThere}
use Rattle.rb_code.specs.SoundCode.Stands.{Fits, Levels, Settles, inside_out}
use Rattle.rb_code.specs.SoundCode.WellFormed.{ListsChannels}
use Rattle.rb_code.specs.declared.instr.Spot.{Spot}
use Rattle.rb_code.specs.declared.instr.Spot.TheVariants.{Global, Local}
use Rattle.rb_code.specs.declared.instr.Instr.{Instr}
use Rattle.rb_code.specs.declared.instr.Instr.TheVariants.{Turn, Push, Load, Prior, Bound, LoadAt, PriorAt, Store, StoreAt, Add, Sub, Mul, Div, Rem, Eq, Ne, Lt, Le, Gt, Ge, Neg, Not, Bool as ToBool, Jump, JumpZero, Frame, Drop, Text, Item, Print, Room, Put, There, Take, Call, Return, Fail, Enter, Start, Test, Done, Range, Again, Counter, Absent}
use Rattle.rb_code.proofs.InWords.Channels.{receives, sends}
use Rattle.rb_code.proofs.Executing.LastOf.{former_is}
use Rattle.rb_code.proofs.Looping.LoopSteps.{left_at}
use Rattle.rb_code.proofs.Executing.Needs.{former_words}
use Rattle.rb_code.proofs.Executing.OpenLevels.{bases_rise}
use Rattle.rb_code.proofs.Looping.OpenLoops.{began_here}
use Rattle.rb_code.proofs.Executing.Progress.{Progress, left_from, potential}
use Rattle.rb_code.proofs.Executing.Safety.{From, from_here}
use Rattle.rb_code.proofs.Executing.Steps.{goes}
use Rattle.rb_code.proofs.Executing.Weaker.{may_trap, rank}
use Rattle.rb_code.proofs.Executing.Staying.{settling_fits}
use Rattle.rb_code.proofs.InWords.Fronts.{word_other}
use Rattle.rb_machine.proofs.WordsKept.{word_front, word_left}

-- these lines are held, and word 0 is this
abbrev pub Holds : List (List ℕ) → ℤ → List (List ℕ) → List ℤ → Type 0
Holds lines size held words = (held ≡ lines) × (word_at words held_place ≡ size)

module _ (lines : List (List ℕ)) (size : ℤ) where
  abbrev HoldsIn : Workspace → Type 0
  HoldsIn m = Holds lines size m.held m.words

  -- the same of what instructions come to
  abbrev Held : Outcome → Type 0
  Held (Going b xs later) = HoldsIn later
  Held (Stopped b later) = HoldsIn later
  Held (Accepts b later) = HoldsIn later
  Held (Trapped cause) = Unit {0}
  Held Unfinished = Unit {0}

  both_held : (b : Bool) (x y : Outcome) → Held x → Held y → Held (cond b x y)
  both_held true x y h k = h
  both_held false x y h k = k

  top_held : (xs : List ℤ) (go : ℤ → List ℤ → Outcome) → ((x : ℤ) (rest : List ℤ) → Held (go x rest)) → Held (on_top xs go)
  top_held [] go h = tt
  top_held (x ∷ xs) go h = h x xs

  two_held : (xs : List ℤ) (go : ℤ → ℤ → List ℤ → Outcome) → ((y x : ℤ) (rest : List ℤ) → Held (go y x rest))
      → Held (on_top xs (λ y others. on_top others (λ x rest. go y x rest)))
  two_held xs go h = top_held xs _ (λ y others. top_held others _ (λ x rest. h y x rest))

  result_held : {A : Type 0} (r : Result A Cause) (go : A → Outcome) → ((z : A) → Held (go z)) → Held (or_trap r go)
  result_held (Ok z) go h = h z
  result_held (Err cause) go h = tt

  there_held : {A : Type 0} (o : Option A) (go : A → Outcome) → ((z : A) → Held (go z)) → Held (if_there o go)
  there_held None go h = tt
  there_held (Some z) go h = h z

  module _ (c : Code) (see : Sight) (groups : List Membership) (t : Table) (levels : Levels) (a : ℕ) (e : Entry) (operands : List ℤ) (m : Workspace)
      (fits : Fits c t see levels a e operands m) (settling : 2 ≤ rank e.mode → ⊥) (held : HoldsIn m) where
    up : body_place (here c see) ≤ base_of (here c see) m.calls
    up = bases_rise c t see.process m.calls e.within e.blocks levels fits.layout.body

    -- a word is written that is not the first
    above_held : (at : ℕ) (x : ℤ) → 0 < at → Holds lines size m.held (slice_set m.words at x)
    above_held at x high = (held.0, word_other m.words at held_place x (λ e. omega (arith, e)) ∙ held.1)

    -- words come behind, or go
    more_held : (more : List ℤ) → Holds lines size m.held (m.words ++ more)
    more_held more =
        let long = fits.layout.words_are in
        let high = up in
        (held.0, word_front m.words more held_place (omega arith) ∙ held.1)

    fewer_held : (n : ℕ) → 0 < n → Holds lines size m.held (take n m.words)
    fewer_held n high = (held.0, word_left m.words n held_place high ∙ held.1)

    -- a variable lies above
    lies_above : (v : Spot) (k : ℕ) → 0 < place c see m.calls v + k
    lies_above (Global j) k = omega arith
    lies_above (Local j) k = let high = up in omega arith

    operate_held : (f : ℤ → ℤ → Result ℤ Cause) → Held (operate c see f a operands m)
    operate_held f = two_held operands _ (λ y x rest. result_held (f x y) (λ z. Going (a + 1) (z ∷ rest) m) (λ z. held))

    ranged_held : (k b next : ℕ) (x y : ℤ) (rest : List ℤ) (n : ℕ) → Held (ranged k b next x y rest m n)
    ranged_held k b next x y rest zero = held
    ranged_held k b next x y rest (suc n) = held

    counted_held : (k loop next : ℕ) (counter : Counting) → Held (counted_on k loop next counter operands m)
    counted_held k loop next counter =
        both_held (int_lt counter.now counter.end)
        (Going loop operands (counting k (Some (record { now = counter.now +ℤ pos 1; end = counter.end })) m))
        (Going next operands (counting k None m)) held held

    call_held : (b p n : ℕ) → Held (act c see (Call b p n) a operands m)
    call_held b p n =
        let later = called (a + 1) (arguments p operands) n m in
        let goes_on = cond (has_words_for c (here c see) (length m.words + (p + n))) (Going b (below p operands) later) (Trapped Stack) in
        both_held (nat_le most_calls (length m.calls)) (Trapped Calls) goes_on tt
        (both_held (has_words_for c (here c see) (length m.words + (p + n))) (Going b (below p operands) later) (Trapped Stack)
        (more_held (arguments p operands ++ replicate n (pos 0))) tt)

    absent_held : (channel b : ℕ) → Held (act c see (Absent channel b) a operands m)
    absent_held channel b = by see.message
      where
        by : (o : Option ℤ) → Held (act c (record see { message = o }) (Absent channel b) a operands m)
        by None = held
        by (Some v) = held

    drop_held : (n : ℕ) → Fine c groups t (Drop n) a e → Held (act c see (Drop n) a operands m)
    drop_held n fine =
        let long = fits.layout.words_are in
        let high = up in
        let few = fine.0 in
        fewer_held (length m.words - n) (omega arith)

    return_held : (calls : List OpenCall) → body_place (here c see) ≤ base_of (here c see) calls → Held (returned c see calls operands m)
    return_held [] high = tt
    return_held (call ∷ calls) high = fewer_held call.base (omega (arith, high))

    -- One instruction; a line is not printed, nor is a cursor used, once something was changed.
    act_held : (i : Instr) → Fine c groups t i a e → Held (act c see i a operands m)
    act_held Turn fine = held
    act_held Done fine = held
    act_held (Push n) fine = held
    act_held (Load v) fine = held
    act_held (Prior v) fine = held
    act_held (Bound n) fine =
        top_held operands _ (λ x rest. both_held (within n x) (Going (a + 1) (x ∷ rest) m) (Trapped Index) held tt)
    act_held (LoadAt v) fine = top_held operands _ (λ x rest. held)
    act_held (PriorAt v) fine = top_held operands _ (λ x rest. held)
    act_held (Store v) fine =
        top_held operands _ (λ x rest. above_held (place c see m.calls v) x (let high = lies_above v 0 in omega arith))
    act_held (StoreAt v) fine =
        two_held operands _ (λ y x rest. above_held (place c see m.calls v + natural x) y (lies_above v (natural x)))
    act_held Add fine = operate_held (applied op.Add)
    act_held Sub fine = operate_held (applied op.Sub)
    act_held Mul fine = operate_held (applied op.Mul)
    act_held Div fine = operate_held (applied op.Div)
    act_held Rem fine = operate_held (applied op.Rem)
    act_held Eq fine = operate_held (applied op.Eq)
    act_held Ne fine = operate_held (applied op.Ne)
    act_held Lt fine = operate_held (applied op.Lt)
    act_held Le fine = operate_held (applied op.Le)
    act_held Gt fine = operate_held (applied op.Gt)
    act_held Ge fine = operate_held (applied op.Ge)
    act_held Neg fine =
        top_held operands _ (λ x rest. result_held (fitting (neg_ℤ x)) (λ z. Going (a + 1) (z ∷ rest) m) (λ z. held))
    act_held Not fine = top_held operands _ (λ x rest. held)
    act_held ToBool fine = top_held operands _ (λ x rest. held)
    act_held (Jump b) fine = held
    act_held (JumpZero b) fine =
        top_held operands _ (λ x rest. both_held (is_zero x) (Going b rest m) (Going (a + 1) rest m) held held)
    act_held (Frame n) fine =
        both_held (has_words_for c (here c see) (length m.words + n)) (Going (a + 1) operands (framed n m)) (Trapped Stack)
        (more_held (replicate n (pos 0))) tt
    act_held (Drop n) fine = drop_held n fine
    act_held (Text k) fine = there_held (slice_get c.texts k) _ (λ text. held)
    act_held Item fine = top_held operands _ (λ x rest. held)
    act_held Print fine = absurd (settling (may_trap e.mode fine.0))
    act_held (Room channel) fine = held
    act_held (Put channel) fine = absurd (settling (let r = ap rank fine.0 in omega arith))
    act_held (There channel) fine = held
    act_held (Take channel) fine = absurd (settling (let r = ap rank fine.0 in omega arith))
    act_held (Call b p n) fine = call_held b p n
    act_held Return fine = return_held m.calls up
    act_held Fail fine = tt
    act_held (Enter b) fine = tt
    act_held (Start b) fine = there_held (alternate_address (slice_get c.blocks b) see.alternate) _ (λ x. held)
    act_held (Test b) fine = top_held operands _ (λ x rest. both_held (is_zero x) (Trapped TestCause) (Accepts (a + 1) m) tt held)
    act_held (Range k b) fine =
        two_held operands _ (λ y x rest. result_held (span x y) (ranged k b (a + 1) x y rest m) (ranged_held k b (a + 1) x y rest))
    act_held (Again k b) fine = there_held (counter_at k m) _ (counted_held k b (a + 1))
    act_held (Counter k) fine = there_held (counter_at k m) _ (λ counter. held)
    act_held (Absent channel b) fine = absent_held channel b

  -- so through all instructions
  module _ (c : Code) (groups : List Membership) (t : Table) (see : Sight) (levels : Levels) (has : HasTable c groups t) (lists : ListsChannels c)
      (exists : IsThere (slice_get c.processes see.process)) (former : see.prior ≡ former_words levels) where
    abbrev Nothing : Workspace → Type 0
    Nothing m = ⊥

    nothing_keeps : (m : Workspace) (pieces : List (List ℕ)) (counters : List (Option Counting)) → Nothing m
        → Nothing (record m { pieces = pieces; counters = counters })
    nothing_keeps m pieces counters h = h

    abbrev Comes : ℕ → ℕ → List ℤ → Workspace → Type 0
    Comes n b xs m = HoldsIn m → Held (execute c see n b xs m)

    abbrev FromHere : ℕ → Type 0
    FromHere n = From c groups t see levels Nothing nothing_keeps has lists exists former (Comes n) n

    then_comes : (n most : ℕ) (m : Workspace) (o : Outcome) → most < suc n → Progress c groups t see levels Nothing m most o → FromHere n
        → Held o → Held (then_go o (execute c see n))
    then_comes n most m (Going b xs later) lt p next held =
        next b p.entry xs later p.there p.fits p.clean (let d = p.less in omega arith) held
    then_comes n most m (Stopped b later) lt p next held = held
    then_comes n most m (Accepts b later) lt p next held = held
    then_comes n most m (Trapped cause) lt p next held = tt
    then_comes n most m Unfinished lt p next held = tt

    comes : (n : ℕ) → FromHere n
    comes zero a e xs m q fits clean lt = absurd (omega arith)
    comes (suc n) a e xs m q fits clean lt = by (comes n) (slice_get c.instrs a) refl (has.each a e q).fine lt
      where
        by : FromHere n → (o : Option Instr) → slice_get c.instrs a ≡ o → FineAt c groups t o a e
            → potential c groups t see levels Nothing (rank e.mode) m.calls (left_from o (left_at (length c.instrs) m e.loops a)) < suc n
            → HoldsIn m → Held (then_go (act_at c see o a xs m) (execute c see n))
        by next None at fine low held = absurd fine
        by next (Some Turn) at fine low held = held
        by next (Some i) at fine low held =
            then_comes n _ m (act c see i a xs m) low
            (goes c groups t see levels Nothing nothing_keeps (sends c lists see.process exists) (receives c lists see.process exists) a e xs m
            (slice_get_within c.instrs a i at) q fits (began_here a e.loops (has.each a e q).around) clean i at fine)
            next (act_held c see groups t levels a e xs m fits clean held i fine)

    comes_held : (a : ℕ) (e : Entry) (xs : List ℤ) (m : Workspace) → t a ≡ Some e → Fits c t see levels a e xs m → (2 ≤ rank e.mode → ⊥)
        → HoldsIn m → Held (execute c see (most_steps c) a xs m)
    comes_held a e xs m q fits clean =
        from_here c groups t see levels Nothing nothing_keeps has lists exists former (Comes (most_steps c))
        (comes (most_steps c)) a e xs m q fits clean

-- a process that settles holds what it held
module _ (c : Code) (groups : List Membership) (t : Table) (has : HasTable c groups t) (lists : ListsChannels c) (s : Standing)
    (levels : List (Level Copy)) (settles : Settles c t s levels) where
  abbrev see_settling : Sight
  see_settling = sight s 0 (copy_of (last_of levels)) None

  pub settling_holds : Holds s.held (word_at s.words held_place) (settle c (copy_of (last_of levels)) s).held
      (settle c (copy_of (last_of levels)) s).words
  settling_holds =
      by (execute c see_settling (most_steps c) s.at [] (memory_of s []))
      (comes_held s.held (word_at s.words held_place) c groups t see_settling (inside_out levels) has lists settles.exists (former_is levels) s.at
      settles.entry [] (memory_of s []) settles.there (settling_fits c t s levels see_settling refl settles)
      (λ k. absurd (let e = ap rank settles.mode_is in omega arith)) (refl, refl))
    where
      by : (o : Outcome) → Held s.held (word_at s.words held_place) o
          → Holds s.held (word_at s.words held_place) (settled_by s o).held (settled_by s o).words
      by (Stopped at later) held = held
      by (Accepts at later) held = (refl, refl)
      by (Trapped cause) held = (refl, refl)
      by (Going at xs later) held = (refl, refl)
      by Unfinished held = (refl, refl)
