-- A step of process number p, from what is known of the machine's parts: what it asks for, and where each of its outcomes leads.
use Rattle.std.proofs.Common.{◌≡◌, ℕ, ◌+◌, ◌<◌, ◌≤◌, ℤ, List, [], ◌∷◌, ◌++◌, length, slice_get, get_or, Option, Some, None, option_map, refl, ap, sym, ◌∙◌, subst, arith}
use Rattle.std.proofs.lemmas.Option.{get_or_from_slice_get, slice_get_within}
use Rattle.rb_base.specs.declared.event.Cause.{Cause}
use Rattle.rb_base.specs.declared.event.Event.{Event}
use Rattle.rb_base.specs.declared.event.TurnKind.{TurnKind}
use Rattle.rb_base.specs.declared.event.TurnKind.TheVariants.{Took}
use Rattle.rb_world.specs.Reject.{reject}
use Rattle.rb_world.specs.Slots.{Slots}
use Rattle.rb_world.specs.Standing.{Each}
use Rattle.rb_world.specs.Turn.{Moved, accepted, steps, undone}
use Rattle.rb_world.specs.World.{Process, change_at, last_of}
use Rattle.rb_world.proofs.ListFacts.{slice_get-change_at, some_same}
use Rattle.rb_code.specs.Instructions.Plain.{Code}
use Rattle.rb_code.specs.WordMachine.Turn.{Common, Copy, Standing, want}
use Rattle.rb_code.specs.WordMachine.WordRun.{WordWorld}
use Rattle.rb_conv.specs.Conversations.{Conversation}
use Rattle.rb_proc.specs.Process.{Seen, StepsTo, alternate_for, step_of}
use Rattle.rb_proc.specs.declared.answers.Outcome.{Outcome}
use Rattle.rb_proc.specs.declared.answers.Outcome.TheVariants as outcome
use Rattle.rb_machine.specs.AtWork.{IsAtWork, MayAct}
use Rattle.rb_ready.specs.Readiness.{IsStep}
use Rattle.rb_recovery.specs.Cascade.{AreQuiet, MayRejectAt}
use Rattle.rb_machine.specs.Ends.{LeadsTo, links_yet}
use Rattle.rb_recovery.specs.Parts.{world}
use Rattle.rb_recovery.specs.TestLines.{passes_of}
use Rattle.rb_recovery.specs.Channels.{conversation_in}
use Rattle.rb_machine.specs.Stepping.{AddsLink, HasDoneAt, HasKept, MayStep, turn_kept}
use Rattle.rb_recovery.specs.TestLines.{HasTaken, HoldsTest, IsListed, MayLeave}
use Rattle.rb_machine.specs.Telling.{GoesOn}
use Rattle.rb_recovery.specs.Work.{undoing}
use Rattle.rb_recovery.specs.Worlds.{NoneWaits, kind_with, memory_of, processes_of, world_of}
use Rattle.rb_recovery.specs.declared.links.Link.{Link as Linked}
use Rattle.rb_machine.specs.declared.moves.Move.{Move}
use Rattle.rb_machine.specs.declared.moves.Move.TheVariants as did
use Rattle.rb_recovery.specs.declared.parts.Parts.{Parts}
use Rattle.rb_machine.proofs.Knowing.KnownHere.{are_quiet, is_listed, may_leave, may_reject, may_step, process_there}
use Rattle.rb_recovery.proofs.Changed.{change_after}
use Rattle.rb_machine.proofs.Turning.TakenSteps.{HasStepped}
use Rattle.rb_machine.proofs.Turning.TakenSteps as taken

-- The parts have come to where a move of their world leads.
abbrev pub ComesTo : List Seen → List Conversation → Common → TurnKind → List Event → Option Event → Moved Standing Copy Common → Type 0
ComesTo procs table memory kind events pass moved =
    (world_of procs table memory ≡ moved.world) × (kind ≡ moved.kind) × (events ≡ moved.rejections) × (passes_of pass ≡ moved.passes)

taken_comes : (memory : Common) (procs : List Seen) (table : List Conversation) (events : List Event) (pass : Option Event)
    (moved : Moved Standing Copy Common) → events ≡ [] → HasTaken memory procs table pass moved → ComesTo procs table memory Took events pass moved
taken_comes memory procs table events pass moved none h = (h.world, sym h.kind, none ∙ sym h.rejections, h.passes)

-- a move that has come so far with no event is told by where it has come
pub comes_is : (procs : List Seen) (table : List Conversation) (memory : Common) (kind : TurnKind) (moved : Moved Standing Copy Common)
    → ComesTo procs table memory kind [] None moved
    → moved ≡ record { world = world_of procs table memory; kind = kind; rejections = []; passes = [] }
comes_is procs table memory kind moved h =
    let so : WordWorld → TurnKind → List Event → List Event → Moved Standing Copy Common =
    λ w turned rejections passes. record { world = w; kind = turned; rejections = rejections; passes = passes } in
    ap (λ (w : WordWorld). so w moved.kind moved.rejections moved.passes) (sym h.0)
    ∙ (ap (λ (turned : TurnKind). so (world_of procs table memory) turned moved.rejections moved.passes) (sym h.1)
    ∙ (ap (λ (events : List Event). so (world_of procs table memory) kind events moved.passes) (sym h.2)
    ∙ ap (λ (events : List Event). so (world_of procs table memory) kind [] events) (sym h.3)))

-- what was read at a number is what stands there
pub read_there : (procs : List Seen) (p : ℕ) (x one : Seen) → x ≡ get_or procs p x → slice_get procs p ≡ Some one → x ≡ one
read_there procs p x one read here = read ∙ get_or_from_slice_get procs p one x here

-- what is known of the parts as process number p takes a step
pub record AtStep (c : Code) (turn p : ℕ) (message : Option ℤ) (procs : List Seen) (table : List Conversation) (slots : Slots)
    (links : List Linked) : Type 0 where
  pub work : IsAtWork c (turn + 1) procs table slots links
  pub waits : NoneWaits procs
  pub acting : MayAct procs p
  pub wants : (one : Seen) → slice_get procs p ≡ Some one → IsStep message (want c one.process.state)

module _ {c : Code} {turn p : ℕ} {message : Option ℤ} {procs : List Seen} {table : List Conversation} {slots : Slots} {links : List Linked}
    (at : AtStep c turn p message procs table slots links) where
  pub may : (one : Seen) → slice_get procs p ≡ Some one → MayStep c message one
  may one here =
      may_step c table at.work.sound (turn + 1) procs (memory_of slots links) at.work.known message p one here at.waits
      (at.acting one here) (at.wants one here)
      at.work.turns

  pub may_from : (procs0 : List Seen) → procs0 ≡ procs → (one : Seen) → slice_get procs0 p ≡ Some one → MayStep c message one
  may_from procs0 e one found = may one (sym (ap (λ (xs : List Seen). slice_get xs p) e) ∙ found)

  module _ (one : Seen) (here : slice_get procs p ≡ Some one) where
    -- what the world makes of it
    abbrev pub moves : Moved Standing Copy Common
    moves =
        steps (kind_with c table) turn p (alternate_for (want c one.process.state) one.process.levels)
        message one.process (world_of procs table (memory_of slots links))

    pub number : one.process.state.process ≡ p
    number = (at.work.known.placed p one.process (process_there procs p one here)).number

    abbrev link_by : ℕ → ℕ → Linked
    link_by alternate before = record { turn = turn; process = p; alternate = alternate; before = before }

    -- the link of the turn, by what was read of the process before the step
    link_here : (x : Seen) (n : ℕ) (links' : List Linked) → x ≡ get_or procs p x → n ≡ alternate_for (want c x.process.state) x.process.levels
        → links' ≡ links ++ link_by n x.process.state.last_kept ∷ []
        → links' ≡ links ++ link_by (alternate_for (want c one.process.state) one.process.levels) one.process.state.last_kept ∷ []
    link_here x n links' read is e =
        let same = read_there procs p x one read here in
        let tried : n ≡ alternate_for (want c one.process.state) one.process.levels =
        is ∙ ap (λ (y : Seen). alternate_for (want c y.process.state) y.process.levels) same in
        e ∙ (ap (λ (k : ℕ). links ++ link_by k x.process.state.last_kept ∷ []) tried
        ∙ ap (λ (y : Seen). links ++ link_by (alternate_for (want c one.process.state) one.process.levels) y.process.state.last_kept ∷ []) same)

    -- it went on
    module _ (slots' : Slots) (procs1 : List Seen) (stepping : HasStepped c message p one outcome.Went slots slots' procs procs1) where
      pub went_comes : (procs2 procs' : List Seen) (links' : List Linked) (events : List Event) (x : Seen) (n : ℕ) → events ≡ []
          → procs2 ≡ procs1 → procs' ≡ change_at p (turn_kept turn) procs2 → x ≡ get_or procs p x
          → n ≡ alternate_for (want c x.process.state) x.process.levels
          → links' ≡ links ++ link_by n x.process.state.last_kept ∷ []
          → ComesTo procs' table (memory_of slots' links') Took events None
          moves
      went_comes procs2 procs' links' events x n none same kept read is linked =
          let kept1 : procs' ≡ change_at p (turn_kept turn) procs1 = kept ∙ ap (change_at p (turn_kept turn)) same in
          taken_comes (memory_of slots' links') procs' table events None _ none
          (taken.went_world c table slots links message turn p one procs here (may one here) number slots' procs1 procs' stepping kept1 links'
          (link_here x n links' read is linked))

      pub went_waits : (procs2 procs' : List Seen) → procs2 ≡ procs1 → procs' ≡ change_at p (turn_kept turn) procs2 → NoneWaits procs'
      went_waits procs2 procs' same kept =
          taken.kept_waits c table slots links message turn p one procs here (may one here) number outcome.Went slots' procs1 procs' stepping
          (kept ∙ ap (change_at p (turn_kept turn)) same) at.waits

    -- its acceptance test held
    module _ (slots' : Slots) (procs1 procs2 procs3 procs4 : List Seen)
        (stepping : HasStepped c message p one outcome.Accepts slots slots' procs procs1)
        (same : procs2 ≡ procs1) (kept : procs3 ≡ change_at p (turn_kept turn) procs2) (again : procs4 ≡ procs3) where
      pub kept1 : procs4 ≡ change_at p (turn_kept turn) procs1
      kept1 = again ∙ (kept ∙ ap (change_at p (turn_kept turn)) same)

      abbrev pub holder : Seen
      holder = taken.holder c table slots links message turn p one procs here (may one here) number slots' procs1 procs4 stepping kept1

      pub holder_there : slice_get procs4 p ≡ Some holder
      holder_there = taken.holder_there c table slots links message turn p one procs here (may one here) number slots' procs1 procs4 stepping kept1

      holder_is : (x : Seen) → slice_get procs4 p ≡ Some x → holder ≡ x
      holder_is x e = some_same (sym holder_there ∙ e)

      pub held_waits : NoneWaits procs4
      held_waits = taken.held_waits c table slots links message turn p one procs here (may one here) number slots' procs1 procs4 stepping kept1 at.waits

      pub held_holds : (x : Seen) → slice_get procs4 p ≡ Some x → HoldsTest c x
      held_holds x e =
          subst (HoldsTest c) (holder_is x e)
          (taken.holder_holds c table slots links message turn p one procs here (may one here) number slots' procs1 procs4 stepping kept1)

      pub held_listed : (x : Seen) → slice_get procs4 p ≡ Some x → IsListed (length table) (conversation_in (last_of x.process.levels))
      held_listed x e =
          subst (λ (y : Seen). IsListed (length table) (conversation_in (last_of y.process.levels))) (holder_is x e)
          (taken.holder_listed c table slots links message turn p one procs here
          (may one here) number slots' procs1 procs4 stepping kept1 (length table)
          (is_listed c table at.work.sound (turn + 1) procs (memory_of slots links) at.work.known p one here))

      pub held_leave : Each (MayLeave c) procs4
      held_leave =
          taken.held_leave c table slots links message turn p one procs here (may one here) number slots' procs1 procs4 stepping kept1
          (may_leave c table at.work.sound (turn + 1) procs (memory_of slots links) at.work.known)

      pub held_moves : (links' : List Linked) (x : Seen) (n : ℕ) → x ≡ get_or procs p x
          → n ≡ alternate_for (want c x.process.state) x.process.levels
          → links' ≡ links ++ link_by n x.process.state.last_kept ∷ []
          → moves
          ≡ accepted (kind_with c table) p holder.process.levels (last_of holder.process.levels) (world_of procs4 table (memory_of slots' links'))
          (holder.process.state, memory_of slots' links')
      held_moves links' x n read is linked =
          taken.held_is c table slots links message turn p one procs here (may one here) number slots' procs1 procs4 stepping kept1 links'
          (link_here x n links' read is linked)

    -- it trapped
    module _ (slots' : Slots) (procs1 procs2 : List Seen) (cause : Cause)
        (stepping : HasStepped c message p one (outcome.Trap cause) slots slots' procs procs1) (again : procs2 ≡ procs1) where
      pub unchanged : procs2 ≡ procs
      unchanged = again ∙ taken.same_processes c table slots links message turn p one procs here (may one here) number slots' procs1 cause stepping

      -- the levels that are counted are those that the process had
      pub left_is : (x : Seen) (left : ℕ) → x ≡ get_or procs1 p x → left ≡ length x.process.levels → left ≡ length one.process.levels
      left_is x left read is =
          let same = taken.same_processes c table slots links message turn p one procs here (may one here) number slots' procs1 cause stepping in
          is ∙ ap (λ (y : Seen). length y.process.levels) (read_there procs1 p x one read (ap (λ (xs : List Seen). slice_get xs p) same ∙ here))

      pub few_left : length one.process.levels ≤ 32
      few_left = at.work.known.shallow p one.process (process_there procs p one here)

      pub trap_may : (left : ℕ) → left ≡ length one.process.levels → MayRejectAt procs2 table p left
      trap_may left long =
          subst (λ (xs : List Seen). MayRejectAt xs table p left) (sym unchanged)
          (may_reject c table at.work.sound (turn + 1) procs (memory_of slots links) at.work.known p left (λ x e.
          let same = ap (λ (y : Seen). length y.process.levels) (some_same (sym here ∙ e)) in
          omega (arith, long, same)))

      pub trap_quiet : AreQuiet procs2
      trap_quiet =
          subst AreQuiet (sym unchanged)
          (are_quiet c table at.work.sound (turn + 1) procs (memory_of slots links) at.work.known at.work.few at.waits)

      pub trap_moves : (links' : List Linked) (left : ℕ) → left ≡ length one.process.levels → links' ≡ links
          → moves ≡ undone (reject (kind_with c table) p left cause (world_of procs2 table (memory_of slots' links')))
      trap_moves links' left long back =
          taken.trap_is c table slots links message turn p one procs here (may one here) number slots' procs1 cause stepping procs2 links' left again back
          long

-- what was done of lists that are the same
pub done_here : {c : Code} {turn p : ℕ} {message : Option ℤ} {one : Seen} {m : Move} {procs0 procs procs1 procs' : List Seen}
    {slots slots' : Slots} → procs0 ≡ procs → procs' ≡ procs1
    → HasDoneAt c turn message p one m slots slots' procs0 procs1 → HasDoneAt c turn message p one m slots slots' procs procs'
done_here {c} {turn} {p} {message} {one} {m} {procs0} {procs} {procs1} {procs'} {slots} {slots'} e g done =
    subst (λ (xs : List Seen). HasDoneAt c turn message p one m slots slots' xs procs') e
    (subst (λ (xs : List Seen). HasDoneAt c turn message p one m slots slots' procs0 xs) (sym g) done)

-- What a process has done in its step tells what is left of its turn.
module _ {L : Type 0} {c : Code} {turn p : ℕ} {message : Option ℤ} {procs : List Seen} {slots : Slots} {links : List Linked} (after : Parts L)
    (at : AtStep c turn p message procs after.table slots links) (one : Seen) (here : slice_get procs p ≡ Some one) where
  -- the processes as the step left them, before the turn was kept
  abbrev pub calm_at : Process Standing Copy → List Seen
  calm_at later = change_at p (λ _. taken.calm later) procs

  pub stepping : (answer : Outcome) (later : Process Standing Copy)
      → StepsTo c one.process slots (step_of c one.process slots message) answer later after.mails
      → HasStepped c message p one answer slots after.mails procs (calm_at later)
  stepping answer later comes = record { later = later; comes = comes; processes = refl }

  pub kept_at : (answer : Outcome) (later : Seen) (k : HasKept c turn message one answer slots after.mails later)
      → after.procs.items ≡ change_at p (λ _. later) procs → after.procs.items ≡ change_at p (turn_kept turn) (calm_at k.later)
  kept_at answer later k processes =
      processes ∙ (ap (λ (x : Seen). change_at p (λ _. x) procs) k.kept ∙ sym (change_after p (turn_kept turn) (taken.calm k.later) procs))

  later_there : (later : Seen) → after.procs.items ≡ change_at p (λ _. later) procs → slice_get after.procs.items p ≡ Some later
  later_there later processes =
      ap (λ (xs : List Seen). slice_get xs p) processes
      ∙ (slice_get-change_at p (λ _. later) procs ∙ ap (option_map (λ (_ : Seen). later)) here)

  read : one ≡ get_or procs p one
  read = sym (get_or_from_slice_get procs p one one here)

  abbrev alternate : ℕ
  alternate = alternate_for (want c one.process.state) one.process.levels

  went : (later : Seen) (k : HasKept c turn message one outcome.Went slots after.mails later)
      → after.procs.items ≡ change_at p (λ _. later) procs
      → after.links.items
      ≡ links ++ record { turn = turn; process = p; alternate = alternate; before = one.process.state.last_kept } ∷ []
      → moves at one here ≡ record { world = world after; kind = Took; rejections = []; passes = [] }
  went later k processes linked =
      comes_is after.procs.items after.table (memory_of after.mails after.links.items) Took (moves at one here)
      (went_comes at one here after.mails (calm_at k.later) (stepping outcome.Went k.later k.comes) (calm_at k.later)
      after.procs.items after.links.items [] one alternate refl refl (kept_at outcome.Went later k processes) read refl linked)

  -- a trap changes nothing
  trapped : (left : ℕ) (cause : Cause) (done : HasDoneAt c turn message p one (did.Rejects left cause) slots after.mails procs after.procs.items)
      → after.procs.items ≡ calm_at done.later.process
  trapped left cause done =
      done.processes
      ∙ ap (λ (x : Seen). change_at p (λ _. x) procs)
      (ap (λ (ls : List (List ℕ)). record { process = done.later.process; waiting = ls }) done.does.1)

  trapped_same : (left : ℕ) (cause : Cause)
      (done : HasDoneAt c turn message p one (did.Rejects left cause) slots after.mails procs after.procs.items) → after.procs.items ≡ procs
  trapped_same left cause done =
      unchanged at one here after.mails (calm_at done.later.process) after.procs.items cause
      (stepping (outcome.Trap cause) done.later.process done.does.0) (trapped left cause done)

  left_over : (left : ℕ) (cause : Cause)
      (done : HasDoneAt c turn message p one (did.Rejects left cause) slots after.mails procs after.procs.items)
      → left ≡ length one.process.levels
  left_over left cause done =
      done.does.2
      ∙ ap (λ (x : Seen). length x.process.levels)
      (some_same (sym (later_there done.later done.processes)
      ∙ (ap (λ (xs : List Seen). slice_get xs p) (trapped_same left cause done) ∙ here)))

  pub step_leads : (m : Move) → HasDoneAt c turn message p one m slots after.mails procs after.procs.items
      → AddsLink m (record { turn = turn; process = p; alternate = alternate; before = one.process.state.last_kept }) links after.links.items
      → LeadsTo c turn p (processes_of procs) after m (moves at one here)
  step_leads did.Went done linked = record {
    moves = went done.later done.does.0 done.processes linked;
    goes_on = λ x e. subst GoesOn (some_same (sym (later_there done.later done.processes) ∙ e)) done.does.1;
  }
  step_leads did.Tells done linked = went done.later done.does done.processes linked
  step_leads did.Accepts done linked =
      let k = done.does in
      let kept = kept_at outcome.Accepts done.later k done.processes in
      let steps = stepping outcome.Accepts k.later k.comes in
      let middle = calm_at k.later in
      let now = after.procs.items in
      let holds = holder at one here after.mails middle middle now now steps refl kept refl in
      let found = holder_there at one here after.mails middle middle now now steps refl kept refl in
      record {
        one = holds;
        there = found;
        executable = at.work.executable;
        holds = held_holds at one here after.mails middle middle now now steps refl kept refl holds found;
        listed = held_listed at one here after.mails middle middle now now steps refl kept refl holds found;
        leave = held_leave at one here after.mails middle middle now now steps refl kept refl;
        moves = held_moves at one here after.mails middle middle now now steps refl kept refl after.links.items one alternate read refl linked;
      }
  step_leads (did.Rejects left cause) done linked =
      let steps = stepping (outcome.Trap cause) done.later.process done.does.0 in
      let again = trapped left cause done in
      let same = trapped_same left cause done in
      let middle = calm_at done.later.process in
      let over = left_over left cause done in
      record {
        there = subst (λ (xs : List Seen). p < length xs) (sym same) (slice_get_within procs p one here);
        may = trap_may at one here after.mails middle after.procs.items cause steps again left over;
        quiet = trap_quiet at one here after.mails middle after.procs.items cause steps again;
        few = omega (arith, over, few_left at one here after.mails middle after.procs.items cause steps again);
        moves = trap_moves at one here after.mails middle after.procs.items cause steps again after.links.items left over linked;
        costs = λ kind events back. ap (λ (xs : List Seen). undoing kind (processes_of xs) events back) same;
      }
  step_leads did.Rests done linked = absurd done.does
  step_leads did.Waits done linked = absurd done.does
  step_leads (did.Enters b) done linked = absurd done.does

  -- no line waits then
  pub step_waits : (m : Move) → HasDoneAt c turn message p one m slots after.mails procs after.procs.items → NoneWaits after.procs.items
  step_waits did.Went done =
      let k = done.does.0 in
      went_waits at one here after.mails (calm_at k.later) (stepping outcome.Went k.later k.comes) (calm_at k.later) after.procs.items refl
      (kept_at outcome.Went done.later k done.processes)
  step_waits did.Tells done =
      let k = done.does in
      went_waits at one here after.mails (calm_at k.later) (stepping outcome.Went k.later k.comes) (calm_at k.later) after.procs.items refl
      (kept_at outcome.Went done.later k done.processes)
  step_waits did.Accepts done =
      let k = done.does in
      held_waits at one here after.mails (calm_at k.later) (calm_at k.later) after.procs.items after.procs.items
      (stepping outcome.Accepts k.later k.comes) refl (kept_at outcome.Accepts done.later k done.processes) refl
  step_waits (did.Rejects left cause) done = subst NoneWaits (sym (trapped_same left cause done)) at.waits
  step_waits did.Rests done = absurd done.does
  step_waits did.Waits done = absurd done.does
  step_waits (did.Enters b) done = absurd done.does

-- a step leaves no link to be added
pub no_link_yet : {c : Code} {turn p : ℕ} {message : Option ℤ} {one : Seen} {slots slots' : Slots} {procs procs' : List Seen} (m : Move)
    → HasDoneAt c turn message p one m slots slots' procs procs' → links_yet m ≡ 0
no_link_yet did.Went done = refl
no_link_yet did.Tells done = refl
no_link_yet did.Accepts done = refl
no_link_yet (did.Rejects left cause) done = refl
no_link_yet did.Rests done = refl
no_link_yet did.Waits done = refl
no_link_yet (did.Enters b) done = absurd done.does
