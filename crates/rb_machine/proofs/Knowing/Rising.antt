-- What is known of each cursor of a process stays known through a turn of sound code: a cursor is used at most once, as the turn found it,
-- and all else that is written or cut off lies above cursors, but for the held length, which lies below.
use Rattle.std.proofs.Common.{◌≡◌, ◌≢◌, ◌⊎◌, inl, inr, ℕ, zero, suc, ◌+◌, ◌-◌, ◌<◌, ◌≤◌, ℤ, pos, ◌+ℤ◌, neg_ℤ, int_lt, nat_le, nat_lt, eqb, Bool, true, false, cond, List, [], ◌∷◌, ◌++◌, length, slice_get, slice_set, replicate, take, Option, Some, None, Result, Ok, Err, refl, ap, sym, ◌∙◌, subst, arith}
use Rattle.std.proofs.lemmas.Bool.Decides.{eqb_tells}
use Rattle.std.proofs.lemmas.Option.{slice_get_within}
use Rattle.rb_base.specs.declared.event.Cause.{Cause}
use Rattle.rb_base.specs.declared.event.Cause.TheVariants.{Calls, Hold, Index, Stack, Test as TestCause}
use Rattle.rb_syntax.specs.declared.expression.Op.TheVariants as op
use Rattle.rb_world.specs.Kind.{Membership}
use Rattle.rb_meaning.specs.Environment.{natural}
use Rattle.rb_meaning.specs.Step.{most_calls, most_held}
use Rattle.rb_meaning.specs.Value.{applied, fitting, is_zero, span}
use Rattle.rb_code.specs.Instructions.Plain.{Code}
use Rattle.rb_code.specs.WordMachine.Workspace.{Counting, Workspace, OpenCall, base_of, body_place, called, cursor_place, framed, held_place, variables_place, word_at}
use Rattle.rb_code.specs.WordMachine.Act.{Accepts, Going, Outcome, Sight, Stopped, Trapped, Unfinished, act, act_at, alternate_address, arguments, below, counted_on, counter_at, counting, execute, has_words_for, here, if_there, joined_pieces, line_held, on_top, operate, or_trap, place, ranged, returned, then_go, within}
use Rattle.rb_code.specs.WordMachine.Turn.{most_steps}
use Rattle.rb_code.specs.SoundCode.Sound.{MayTake, Entry, Fine, FineAt, HasTable, Table}
use Rattle.rb_code.specs.SoundCode.Safe.{IsThere}
use Rattle.rb_code.specs.SoundCode.Stands.{Fits, IsAmong, Levels, ModeFits}
use Rattle.rb_code.specs.SoundCode.WellFormed.{ListsChannels}
use Rattle.rb_code.specs.declared.instr.Spot.{Spot}
use Rattle.rb_code.specs.declared.instr.Spot.TheVariants.{Global, Local}
use Rattle.rb_code.specs.declared.instr.Instr.{Instr}
use Rattle.rb_code.specs.declared.instr.Instr.TheVariants.{Turn, Push, Load, Prior, Bound, LoadAt, PriorAt, Store, StoreAt, Add, Sub, Mul, Div, Rem, Eq, Ne, Lt, Le, Gt, Ge, Neg, Not, Bool as ToBool, Jump, JumpZero, Frame, Drop, Text, Item, Print, Room, Put, There, Take, Call, Return, Fail, Enter, Start, Test, Done, Range, Again, Counter, Absent}
use Rattle.rb_code.proofs.InWords.Channels.{receives, sends}
use Rattle.rb_code.proofs.Looping.LoopSteps.{left_at}
use Rattle.rb_code.proofs.Executing.Needs.{former_words}
use Rattle.rb_code.proofs.Executing.OpenLevels.{bases_rise}
use Rattle.rb_code.proofs.Looping.OpenLoops.{began_here}
use Rattle.rb_code.proofs.Executing.Progress.{Progress, left_from, potential}
use Rattle.rb_code.proofs.Executing.Safety.{From, from_here}
use Rattle.rb_code.proofs.Executing.Steps.{goes}
use Rattle.rb_code.proofs.Executing.Weaker.{rank}
use Rattle.rb_code.proofs.InWords.Fronts.{word_set, word_other}
use Rattle.rb_machine.proofs.WordsKept.{word_front, word_left}

-- K is known of the cursor of each channel of the process
abbrev pub OfCursors : Code → Sight → (ℕ → ℤ → Type 0) → List ℤ → Type 0
OfCursors c see K words = (channel : ℕ) → IsAmong channel (here c see).channels → K channel (word_at words (cursor_place (here c see) channel))

-- the same of what instructions come to
abbrev pub KnownIn : Code → Sight → (ℕ → ℤ → Type 0) → Outcome → Type 0
KnownIn c see K (Going b xs later) = OfCursors c see K later.words
KnownIn c see K (Stopped b later) = OfCursors c see K later.words
KnownIn c see K (Accepts b later) = OfCursors c see K later.words
KnownIn c see K (Trapped cause) = Unit {0}
KnownIn c see K Unfinished = Unit {0}

module _ (c : Code) (see : Sight) (K : ℕ → ℤ → Type 0) where
  abbrev Known : Outcome → Type 0
  Known = KnownIn c see K

  both_known : (b : Bool) (x y : Outcome) → Known x → Known y → Known (cond b x y)
  both_known true x y h k = h
  both_known false x y h k = k

  top_known : (xs : List ℤ) (go : ℤ → List ℤ → Outcome) → ((x : ℤ) (rest : List ℤ) → Known (go x rest)) → Known (on_top xs go)
  top_known [] go h = tt
  top_known (x ∷ xs) go h = h x xs

  two_known : (xs : List ℤ) (go : ℤ → ℤ → List ℤ → Outcome) → ((y x : ℤ) (rest : List ℤ) → Known (go y x rest))
      → Known (on_top xs (λ y others. on_top others (λ x rest. go y x rest)))
  two_known xs go h = top_known xs _ (λ y others. top_known others _ (λ x rest. h y x rest))

  result_known : {A : Type 0} (r : Result A Cause) (go : A → Outcome) → ((z : A) → Known (go z)) → Known (or_trap r go)
  result_known (Ok z) go h = h z
  result_known (Err cause) go h = tt

  there_known : {A : Type 0} (o : Option A) (go : A → Outcome) → ((z : A) → Known (go z)) → Known (if_there o go)
  there_known None go h = tt
  there_known (Some z) go h = h z

  module _ (groups : List Membership) (t : Table) (levels : Levels) (P : Workspace → Type 0)
      (rises : (m : Workspace) → P m → (channel : ℕ) → IsAmong channel (here c see).channels
      → K channel (word_at m.words (cursor_place (here c see) channel) +ℤ pos 1))
      (a : ℕ) (e : Entry) (operands : List ℤ) (m : Workspace) (fits : Fits c t see levels a e operands m) (clean : 2 ≤ rank e.mode → P m)
      (known : OfCursors c see K m.words) where
    up : body_place (here c see) ≤ base_of (here c see) m.calls
    up = bases_rise c t see.process m.calls e.within e.blocks levels fits.layout.body

    -- words that have the same cursors
    same_known : (words : List ℤ)
        → ((at : ℕ) → 0 < at → at < variables_place (here c see) → word_at words at ≡ word_at m.words at) → OfCursors c see K words
    same_known words same channel among =
        subst (K channel) (sym (same (cursor_place (here c see) channel) (omega arith) (omega arith))) (known channel among)

    -- a word is written that is no cursor
    above_known : (at : ℕ) (x : ℤ) → variables_place (here c see) ≤ at → OfCursors c see K (slice_set m.words at x)
    above_known at x high = same_known (slice_set m.words at x) (λ i some low. word_other m.words at i x (λ e. omega arith))

    line_known : (x : ℤ) → OfCursors c see K (slice_set m.words held_place x)
    line_known x = same_known (slice_set m.words held_place x) (λ i some low. word_other m.words held_place i x (λ e. omega arith))

    -- words come behind, or go
    more_known : (more : List ℤ) → OfCursors c see K (m.words ++ more)
    more_known more =
        let long = fits.layout.words_are in
        let high = up in
        same_known (m.words ++ more) (λ i some low. word_front m.words more i (omega arith))

    fewer_known : (n : ℕ) → body_place (here c see) ≤ n → OfCursors c see K (take n m.words)
    fewer_known n high = same_known (take n m.words) (λ i some low. word_left m.words n i (omega arith))

    -- a variable lies above cursors
    lies_above : (v : Spot) (k : ℕ) → variables_place (here c see) ≤ place c see m.calls v + k
    lies_above (Global j) k = omega arith
    lies_above (Local j) k = let high = up in omega arith

    -- a cursor is used, where nothing was changed yet
    used_known : (channel : ℕ) → IsAmong channel (here c see).channels → P m
        → OfCursors c see K (slice_set m.words (cursor_place (here c see) channel) (word_at m.words (cursor_place (here c see) channel) +ℤ pos 1))
    used_known channel among same other of_other =
        by (eqb_tells (cursor_place (here c see) other) (cursor_place (here c see) channel))
      where
        at : ℕ → ℕ
        at = cursor_place (here c see)

        risen : ℤ
        risen = word_at m.words (at channel) +ℤ pos 1

        by : ((eqb (at other) (at channel) ≡ true) × (at other ≡ at channel)) ⊎ ((eqb (at other) (at channel) ≡ false) × (at other ≢ at channel))
            → K other (word_at (slice_set m.words (at channel) risen) (at other))
        by (inl (b, is)) =
            let long = fits.layout.words_are in
            let high = up in
            subst (K other)
            (ap (λ i. word_at m.words i +ℤ pos 1) is
            ∙ (sym (word_set m.words (at channel) risen (omega arith)) ∙ ap (word_at (slice_set m.words (at channel) risen)) (sym is)))
            (rises m same other of_other)
        by (inr (b, apart)) = subst (K other) (sym (word_other m.words (at channel) (at other) risen apart)) (known other of_other)

    operate_known : (f : ℤ → ℤ → Result ℤ Cause) → Known (operate c see f a operands m)
    operate_known f = two_known operands _ (λ y x rest. result_known (f x y) (λ z. Going (a + 1) (z ∷ rest) m) (λ z. known))

    -- a loop begins, or goes on
    ranged_known : (k b next : ℕ) (x y : ℤ) (rest : List ℤ) (n : ℕ) → Known (ranged k b next x y rest m n)
    ranged_known k b next x y rest zero = known
    ranged_known k b next x y rest (suc n) = known

    counted_known : (k loop next : ℕ) (counter : Counting) → Known (counted_on k loop next counter operands m)
    counted_known k loop next counter =
        both_known (int_lt counter.now counter.end)
        (Going loop operands (counting k (Some (record { now = counter.now +ℤ pos 1; end = counter.end })) m))
        (Going next operands (counting k None m)) known known

    -- a line is held
    print_known : Known (act c see Print a operands m)
    print_known =
        let line = joined_pieces m.pieces in
        let bytes = natural (word_at m.words held_place) + (length line + 1) in
        both_known (nat_lt most_held bytes) (Trapped Hold) (Going (a + 1) operands (line_held bytes line m)) tt (line_known (pos bytes))

    -- a call is opened
    call_known : (b p n : ℕ) → Known (act c see (Call b p n) a operands m)
    call_known b p n =
        let later = called (a + 1) (arguments p operands) n m in
        let goes_on = cond (has_words_for c (here c see) (length m.words + (p + n))) (Going b (below p operands) later) (Trapped Stack) in
        both_known (nat_le most_calls (length m.calls)) (Trapped Calls) goes_on tt
        (both_known (has_words_for c (here c see) (length m.words + (p + n))) (Going b (below p operands) later) (Trapped Stack)
        (more_known (arguments p operands ++ replicate n (pos 0))) tt)

    absent_known : (channel b : ℕ) → Known (act c see (Absent channel b) a operands m)
    absent_known channel b = by see.message
      where
        by : (o : Option ℤ) → Known (act c (record see { message = o }) (Absent channel b) a operands m)
        by None = known
        by (Some v) = known

    put_known : (channel : ℕ) → Fine c groups t (Put channel) a e → Known (act c see (Put channel) a operands m)
    put_known channel fine =
        top_known operands _ (λ x rest.
        used_known channel (subst (ModeFits c see a) fine.0 fits.mode_fits) (clean (let r = ap rank fine.0 in omega arith)))

    take_known : (channel : ℕ) → Fine c groups t (Take channel) a e → Known (act c see (Take channel) a operands m)
    take_known channel fine =
        let fit : ModeFits c see a (MayTake channel) = subst (ModeFits c see a) fine.0 fits.mode_fits in
        there_known see.message _ (λ v. used_known channel fit.0 (clean (let r = ap rank fine.0 in omega arith)))

    drop_known : (n : ℕ) → Fine c groups t (Drop n) a e → Known (act c see (Drop n) a operands m)
    drop_known n fine =
        let long = fits.layout.words_are in
        let high = up in
        let few = fine.0 in
        fewer_known (length m.words - n) (omega arith)

    return_known : (calls : List OpenCall) → body_place (here c see) ≤ base_of (here c see) calls → Known (returned c see calls operands m)
    return_known [] high = tt
    return_known (call ∷ calls) high = fewer_known call.base high

    -- one instruction
    pub act_known : (i : Instr) → Fine c groups t i a e → Known (act c see i a operands m)
    act_known Turn fine = known
    act_known Done fine = known
    act_known (Push n) fine = known
    act_known (Load v) fine = known
    act_known (Prior v) fine = known
    act_known (Bound n) fine =
        top_known operands _ (λ x rest. both_known (within n x) (Going (a + 1) (x ∷ rest) m) (Trapped Index) known tt)
    act_known (LoadAt v) fine = top_known operands _ (λ x rest. known)
    act_known (PriorAt v) fine = top_known operands _ (λ x rest. known)
    act_known (Store v) fine =
        top_known operands _ (λ x rest. above_known (place c see m.calls v) x (let high = lies_above v 0 in omega arith))
    act_known (StoreAt v) fine =
        two_known operands _ (λ x i rest. above_known (place c see m.calls v + natural i) x (lies_above v (natural i)))
    act_known Add fine = operate_known (applied op.Add)
    act_known Sub fine = operate_known (applied op.Sub)
    act_known Mul fine = operate_known (applied op.Mul)
    act_known Div fine = operate_known (applied op.Div)
    act_known Rem fine = operate_known (applied op.Rem)
    act_known Eq fine = operate_known (applied op.Eq)
    act_known Ne fine = operate_known (applied op.Ne)
    act_known Lt fine = operate_known (applied op.Lt)
    act_known Le fine = operate_known (applied op.Le)
    act_known Gt fine = operate_known (applied op.Gt)
    act_known Ge fine = operate_known (applied op.Ge)
    act_known Neg fine =
        top_known operands _ (λ x rest. result_known (fitting (neg_ℤ x)) (λ z. Going (a + 1) (z ∷ rest) m) (λ z. known))
    act_known Not fine = top_known operands _ (λ x rest. known)
    act_known ToBool fine = top_known operands _ (λ x rest. known)
    act_known (Jump b) fine = known
    act_known (JumpZero b) fine =
        top_known operands _ (λ x rest. both_known (is_zero x) (Going b rest m) (Going (a + 1) rest m) known known)
    act_known (Frame n) fine =
        both_known (has_words_for c (here c see) (length m.words + n)) (Going (a + 1) operands (framed n m)) (Trapped Stack)
        (more_known (replicate n (pos 0))) tt
    act_known (Drop n) fine = drop_known n fine
    act_known (Text k) fine = there_known (slice_get c.texts k) _ (λ text. known)
    act_known Item fine = top_known operands _ (λ x rest. known)
    act_known Print fine = print_known
    act_known (Room channel) fine = known
    act_known (Put channel) fine = put_known channel fine
    act_known (There channel) fine = known
    act_known (Take channel) fine = take_known channel fine
    act_known (Call b p n) fine = call_known b p n
    act_known Return fine = return_known m.calls up
    act_known Fail fine = tt
    act_known (Enter b) fine = tt
    act_known (Start b) fine = there_known (alternate_address (slice_get c.blocks b) see.alternate) _ (λ x. known)
    act_known (Test b) fine = top_known operands _ (λ x rest. both_known (is_zero x) (Trapped TestCause) (Accepts (a + 1) m) tt known)
    act_known (Range k b) fine =
        two_known operands _ (λ y x rest. result_known (span x y) (ranged k b (a + 1) x y rest m) (ranged_known k b (a + 1) x y rest))
    act_known (Again k b) fine = there_known (counter_at k m) _ (counted_known k b (a + 1))
    act_known (Counter k) fine = there_known (counter_at k m) _ (λ counter. known)
    act_known (Absent channel b) fine = absent_known channel b

-- so through a whole turn
module _ (c : Code) (groups : List Membership) (t : Table) (see : Sight) (levels : Levels) (P : Workspace → Type 0)
    (keeps : (m : Workspace) (pieces : List (List ℕ)) (counters : List (Option Counting)) → P m → P (record m { pieces = pieces; counters = counters }))
    (has : HasTable c groups t) (lists : ListsChannels c) (exists : IsThere (slice_get c.processes see.process))
    (former : see.prior ≡ former_words levels) (K : ℕ → ℤ → Type 0)
    (rises : (m : Workspace) → P m → (channel : ℕ) → IsAmong channel (here c see).channels
    → K channel (word_at m.words (cursor_place (here c see) channel) +ℤ pos 1)) where
  abbrev pub Comes : ℕ → ℕ → List ℤ → Workspace → Type 0
  Comes n b xs m = OfCursors c see K m.words → KnownIn c see K (execute c see n b xs m)

  abbrev FromHere : ℕ → Type 0
  FromHere n = From c groups t see levels P keeps has lists exists former (Comes n) n

  then_comes : (n most : ℕ) (m : Workspace) (o : Outcome) → most < suc n → Progress c groups t see levels P m most o → FromHere n
      → KnownIn c see K o → KnownIn c see K (then_go o (execute c see n))
  then_comes n most m (Going b xs later) lt p next known =
      next b p.entry xs later p.there p.fits p.clean (let d = p.less in omega arith) known
  then_comes n most m (Stopped b later) lt p next known = known
  then_comes n most m (Accepts b later) lt p next known = known
  then_comes n most m (Trapped cause) lt p next known = tt
  then_comes n most m Unfinished lt p next known = tt

  pub comes : (n : ℕ) → FromHere n
  comes zero a e xs m q fits clean lt = absurd (omega arith)
  comes (suc n) a e xs m q fits clean lt = by (comes n) (slice_get c.instrs a) refl (has.each a e q).fine lt
    where
      by : FromHere n → (o : Option Instr) → slice_get c.instrs a ≡ o → FineAt c groups t o a e
          → potential c groups t see levels P (rank e.mode) m.calls (left_from o (left_at (length c.instrs) m e.loops a)) < suc n
          → OfCursors c see K m.words → KnownIn c see K (then_go (act_at c see o a xs m) (execute c see n))
      by next None at fine low known = absurd fine
      by next (Some Turn) at fine low known = known
      by next (Some i) at fine low known =
          then_comes n _ m (act c see i a xs m) low
          (goes c groups t see levels P keeps (sends c lists see.process exists) (receives c lists see.process exists) a e xs m
          (slice_get_within c.instrs a i at) q fits (began_here a e.loops (has.each a e q).around) clean i at fine)
          next (act_known c see K groups t levels P rises a e xs m fits clean known i fine)

  -- from wherever the process stands
  pub comes_known : (a : ℕ) (e : Entry) (xs : List ℤ) (m : Workspace) → t a ≡ Some e → Fits c t see levels a e xs m → (2 ≤ rank e.mode → P m)
      → OfCursors c see K m.words → KnownIn c see K (execute c see (most_steps c) a xs m)
  comes_known a e xs m q fits clean =
      from_here c groups t see levels P keeps has lists exists former (Comes (most_steps c)) (comes (most_steps c)) a e xs m q fits clean
