-- The tree's meaning with slots beside its lists, and the word machine, are related kinds of process state.
use Rattle.std.proofs.Common.{◌≡◌, ℕ, ℤ, suc, Bool, true, false, List, [], ◌∷◌, ◌++◌, slice_get, take, Option, Some, refl, sym, ap, ap₂, ◌∙◌, subst, subst₂}
use Rattle.rb_syntax.specs.Tree.{Tree}
use Rattle.rb_world.specs.Kind.{Ends, Facts, Kind, Want, Stepped, Trapped, Went, Held, Enters}
use Rattle.rb_world.specs.World.{Running, Process, World, last_of, without_last}
use Rattle.rb_world.specs.Slots.{Slots, slot_of, stepped_with_slots, with_slots}
use Rattle.rb_world.proofs.TurnFacts.{IsReady, ToSend, ToReceive, ToReceiveIfThere, ToStart, ToAct}
use Rattle.rb_world.proofs.Relating.Simulation.{Knowing, IsActing, StillMeets, StepsMeet, IsSimulation, copies_of}
use Rattle.rb_world.proofs.Relating.Reread.{ReadsSame}
use Rattle.rb_world.proofs.Slots.UnderSlots.{bare}
use Rattle.rb_meaning.specs.Environment.{natural}
use Rattle.rb_meaning.specs.State.{State, settle, with_held, with_kept}
use Rattle.rb_meaning.specs.Step.{Nothing, Result_of_step, enter, held_bytes, step, wants_first}
use Rattle.rb_meaning.specs.Groups.{channels_of, groups_of}
use Rattle.rb_meaning.specs.Meaning.{environment_of, tree_kind}
use Rattle.rb_code.specs.Instructions.Plain.{Code}
use Rattle.rb_code.specs.WordMachine.Workspace.{cut_held}
use Rattle.rb_code.specs.WordMachine.Turn.{Common, Copy, Link, Standing, settle as settles, step as steps}
use Rattle.rb_code.specs.WordMachine.WordKind.{copied, entered_at, released, restored, word_kind}
use Rattle.rb_code.proofs.WholeRuns.KeptTurns.{LeadTo, turn_kept}
use Rattle.rb_code.proofs.WholeRuns.HeldLines.{cut_back, grow_front, grow_get, grow_longer, grow_more, grow_take}
use Rattle.rb_code.proofs.WholeRuns.Pairs.{Pairs, pairs_front, pairs_get, pairs_more, pairs_take}
use Rattle.rb_code.proofs.WholeRuns.StepsFollow.{Follows, held_follows, went_follows}
use Rattle.rb_code.proofs.WholeRuns.PointsLie.{LiesWell}
use Rattle.rb_code.proofs.WholeRuns.TurnsInTime.{AreInTime}
use Rattle.rb_code.proofs.WholeRuns.Agreeing.{Meeting, BothHeld, BothWent, IsAgreeing, MayStep, StepsAgree, accepted_touched, cut_touched, kept_last}
use Rattle.rb_code.proofs.WholeRuns.MachineSteps.{IsSameProcess, LeavesLinks, settle_at_rest, settle_same, step_leaves}
use Rattle.rb_code.proofs.WholeRuns.BothAgree.{Agreed, BothAgree, CopyKept, SameSlots, copies_kept, others_agree}

abbrev pub SlotWorld : Type 0
SlotWorld = World State State (Nothing × Slots)

-- the meaning with slots beside its lists
abbrev pub slotted : Tree → Kind State State (Nothing × Slots)
slotted tree = with_slots (tree_kind tree)

-- messages that are read from their slots
abbrev pub read_slot : Tree → Nothing × Slots → State → ℕ → ℕ → ℤ
read_slot tree memory s channel n = slot_of (channels_of tree) memory.1 channel n

abbrev pub read_slot_then : Tree → Nothing × Slots → State → State → ℕ → ℕ → ℤ
read_slot_then tree memory s copy channel n = slot_of (channels_of tree) memory.1 channel n

-- what is known in a turn: of the process, of kept turns, and by reading, of messages
pub record IsKnown (tree : Tree) (reading : Knowing State State (Nothing × Slots)) (t p : ℕ) (q : Process State State) (w : SlotWorld) : Type 0 where
  pub known : LiesWell tree p q
  pub in_time : AreInTime t (bare w)
  pub readable : reading t p q w

-- what comes after a state in a step
abbrev StepFollows : State → Stepped State (Nothing × Slots) → Type 0
StepFollows s (Trapped cause) = Unit {0}
StepFollows s (Went t m) = Follows s t
StepFollows s (Held t) = Follows s t

ready_steps : {k : Kind State State (Nothing × Slots)} {q : Process State State} {w : SlotWorld} {message : Option ℤ} → IsReady k q w message
    → MayStep (k.want q.state) message
ready_steps {message = message} (ToSend channel wants room none) = subst (λ (want : Want). MayStep want message) (sym wants) none
ready_steps {message = message} (ToReceive channel v wants there is) = subst (λ (want : Want). MayStep want message) (sym wants) (v, is)
ready_steps {message = message} (ToReceiveIfThere channel wants is) = subst (λ (want : Want). MayStep want message) (sym wants) tt
ready_steps {message = message} (ToStart wants none) = subst (λ (want : Want). MayStep want message) (sym wants) none
ready_steps {message = message} (ToAct wants none) = subst (λ (want : Want). MayStep want message) (sym wants) none

module _ (tree : Tree) where
  slots_follow : (s : State) (slots : Slots) (one : Result_of_step) → ((t : State) (m : Nothing) → one ≡ Went t m → Follows s t)
      → ((t : State) → one ≡ Held t → Follows s t)
      → StepFollows s (stepped_with_slots (tree_kind tree) s slots one)
  slots_follow s slots (Trapped cause) went held = tt
  slots_follow s slots (Went t m) went held = went t m refl
  slots_follow s slots (Held t) went held = held t refl

  step_follows : (alternate : ℕ) (copy : Option State) (s : State) (message : Option ℤ) (slots : Slots)
      → StepFollows s (stepped_with_slots (tree_kind tree) s slots (step tree alternate (environment_of copy) s message))
  step_follows alternate copy s message slots =
      slots_follow s slots (step tree alternate (environment_of copy) s message)
      (λ t m. went_follows s tree alternate (environment_of copy) message t m) (λ t. held_follows s tree alternate (environment_of copy) message t)

module _ (tree : Tree) (c : Code) (meets : Meeting) (laws : IsAgreeing tree c meets) where
  -- after a turn of process p that is kept, by a link that is added
  module _ (t p : ℕ) (q : Process State State) (w : SlotWorld) (n : Common) (ds : List Copy) (u : Standing) (there : slice_get w.processes p ≡ Some q)
      (in_time : AreInTime t (bare w)) (both : BothAgree meets false n.links (copies_of q.levels) q.state ds u) where
    abbrev link_of : ℕ → Standing → Link
    link_of alternate v = record { turn = t; process = v.process; alternate = alternate; before = v.last_kept }

    others : (alternate : ℕ) (v : Standing) (links : List Link) → links ≡ n.links → (r : ℕ) (z : Process State State) (es : List Copy) (x : Standing)
        → slice_get w.processes r ≡ Some z → BothAgree meets z.at_line n.links (copies_of z.levels) z.state es x
        → BothAgree meets z.at_line (link_of alternate v ∷ links) (copies_of z.levels) z.state es x
    others alternate v links same r z es x e agree =
        subst (λ (ls : List Link). BothAgree meets z.at_line (link_of alternate v ∷ ls) (copies_of z.levels) z.state es x) (sym same)
        (others_agree meets z.at_line (link_of alternate v) n.links z es x in_time.some (in_time.each r z e) agree)

    -- the kept turns of the process itself
    own_kept : (alternate : ℕ) (s : State) (v : Standing) (links : List Link) → links ≡ n.links → s.kept ≡ q.state.kept → v.last_kept ≡ u.last_kept
        → LeadTo (link_of alternate v ∷ links) t (s.kept ++ (t, alternate) ∷ [])
    own_kept alternate s v links same kept last =
        turn_kept (link_of alternate v) links s.kept
        (subst₂ (λ (x : ℕ) (turns : List (ℕ × ℕ)). LeadTo links x turns) (sym last) (sym kept)
        (subst (λ (ls : List Link). LeadTo ls u.last_kept q.state.kept) (sym same) both.kept))

    copies_then : (alternate : ℕ) (v : Standing) (links : List Link) → links ≡ n.links
        → Pairs (CopyKept (link_of alternate v ∷ links)) (copies_of q.levels) ds
    copies_then alternate v links same =
        subst (λ (ls : List Link). Pairs (CopyKept (link_of alternate v ∷ ls)) (copies_of q.levels) ds) (sym same)
        (copies_kept (link_of alternate v) n.links q.levels ds in_time.some (in_time.each p q there).then both.kept_then)

    -- both went on, or both tests held
    both_went : (alternate : ℕ) (s : State) (m : Nothing × Slots) (v : Standing) (later : Common) → Follows q.state s
        → IsSameProcess u v → later.links ≡ n.links
        → BothWent meets (copies_of q.levels) s m.1 ds v later
        → StepsMeet (slotted tree) (word_kind c (groups_of tree)) SameSlots (Agreed meets) t p alternate w n
        (copies_of q.levels) ds (Went s m) (Went v later)
    both_went alternate s m v later follows same links went =
        let cs = copies_of q.levels in
        let turns = s.kept ++ (t, alternate) ∷ [] in
        let met : meets false cs (settle (with_kept turns s)) ds (kept_last t v) = laws.keeps false cs (settle s) ds v turns t went.they_meet in
        record {
          memories = went.same_slots;
          states = subst (λ (x : Standing). BothAgree meets false (link_of alternate v ∷ later.links) cs (settle (with_kept turns s)) ds x)
              (sym (settle_at_rest c (last_of ds) (kept_last t v) (laws.rests cs (settle (with_kept turns s)) ds (kept_last t v) met)))
              (record {
                they_meet = met;
                lines = went.same_lines;
                grow = grow_longer cs q.state.held s.held follows.lines both.grow;
                kept = own_kept alternate s v later.links links follows.kept same.last_kept;
                kept_then = copies_then alternate v later.links links;
              });
          others = λ r z es x _ e agree. others alternate v later.links links r z es x e agree;
        }

    both_held : (alternate : ℕ) (s : State) (v : Standing) → Follows q.state s → IsSameProcess u v → BothHeld meets (copies_of q.levels) s ds v
        → w.memory.1 ≡ n.slots
        → StepsMeet (slotted tree) (word_kind c (groups_of tree)) SameSlots (Agreed meets) t p alternate w n (copies_of q.levels) ds (Held s) (Held v)
    both_held alternate s v follows same held slots =
        let cs = copies_of q.levels in
        let turns = s.kept ++ (t, alternate) ∷ [] in
        record {
          memories = slots;
          states = record {
            they_meet = laws.keeps true cs s ds v turns t held.they_meet;
            lines = held.same_lines;
            grow = grow_longer cs q.state.held s.held follows.lines both.grow;
            kept = own_kept alternate s v n.links refl follows.kept same.last_kept;
            kept_then = copies_then alternate v n.links refl;
          };
          others = λ r z es x _ e agree. others alternate v n.links refl r z es x e agree;
        }

    -- what a step comes to
    steps_meet : (alternate : ℕ) (x : Stepped State (Nothing × Slots)) (y : Stepped Standing Common) → StepFollows q.state x
        → LeavesLinks u n y → w.memory.1 ≡ n.slots
        → StepsAgree meets (copies_of q.levels) ds x y
        → StepsMeet (slotted tree) (word_kind c (groups_of tree)) SameSlots (Agreed meets) t p alternate w n (copies_of q.levels) ds x y
    steps_meet alternate (Trapped cause) (Trapped other) follows leaves slots agree = agree
    steps_meet alternate (Trapped cause) (Went v later) follows leaves slots agree = absurd agree
    steps_meet alternate (Trapped cause) (Held v) follows leaves slots agree = absurd agree
    steps_meet alternate (Went s m) (Trapped other) follows leaves slots agree = absurd agree
    steps_meet alternate (Went s m) (Went v later) follows leaves slots agree = both_went alternate s m v later follows leaves.0 leaves.1 agree
    steps_meet alternate (Went s m) (Held v) follows leaves slots agree = absurd agree
    steps_meet alternate (Held s) (Trapped other) follows leaves slots agree = absurd agree
    steps_meet alternate (Held s) (Went v later) follows leaves slots agree = absurd agree
    steps_meet alternate (Held s) (Held v) follows leaves slots agree = both_held alternate s v follows leaves agree slots

    -- an entry
    enters_meet : (facts : Facts) → LiesWell tree p q → q.status ≡ Running → q.at_line ≡ false
        → wants_first tree q.state.items ≡ Enters facts → w.memory.1 ≡ n.slots
        → let x = with_kept (q.state.kept ++ (t, 0) ∷ []) (enter q.state) in
        let v = kept_last t (entered_at u) in
        StillMeets SameSlots (Agreed meets) p w n false w.memory (record n { links = link_of 0 (entered_at u) ∷ n.links })
        (copies_of q.levels ++ x ∷ []) x (ds ++ copied v ∷ []) v
    enters_meet facts known running away wants slots =
        let cs = copies_of q.levels in
        let turns = q.state.kept ++ (t, 0) ∷ [] in
        let x = with_kept turns (enter q.state) in
        let v = kept_last t (entered_at u) in
        let kept : LeadTo (link_of 0 (entered_at u) ∷ n.links) t turns = own_kept 0 q.state (entered_at u) n.links refl refl refl in
        record {
          memories = slots;
          states = record {
            they_meet = laws.enter p q facts ds u turns t known running away wants both.they_meet;
            lines = both.lines;
            grow = grow_more cs x both.grow;
            kept = kept;
            kept_then =
                pairs_more (CopyKept (link_of 0 (entered_at u) ∷ n.links)) cs ds x (copied v) (copies_then 0 (entered_at u) n.links refl) kept;
          };
          others = λ r z es y _ e agree. others 0 (entered_at u) n.links refl r z es y e agree;
        }

  -- changes that keep no turn
  leave_agrees : (links : List Link) (cs : List State) (s : State) (ds : List Copy) (u : Standing) → BothAgree meets true links cs s ds u
      → BothAgree meets false links (without_last cs) (settle s) (without_last ds) (settles c (last_of (without_last ds)) (accepted_touched u))
  leave_agrees links cs s ds u both =
      let same : IsSameProcess (accepted_touched u) (settles c (last_of (without_last ds)) (accepted_touched u)) =
      settle_same c (last_of (without_last ds)) (accepted_touched u) in
      record {
        they_meet = laws.leave cs s ds u both.lines both.they_meet;
        lines = laws.leave_lines cs s ds u both.lines both.they_meet ∙ both.lines;
        grow = grow_front cs s.held both.grow;
        kept = subst (λ (last : ℕ). LeadTo links last s.kept) (sym same.last_kept) both.kept;
        kept_then = pairs_front (CopyKept links) cs ds both.kept_then;
      }

  back_agrees : (line : Bool) (links : List Link) (cs : List State) (s : State) (ds : List Copy) (u : Standing) (j : ℕ) (x : State) (y : Copy)
      → BothAgree meets line links cs s ds u → slice_get cs j ≡ Some x → slice_get ds j ≡ Some y
      → BothAgree meets false links (take (suc j) cs) x (take (suc j) ds) (restored (cut_touched (suc j) u) y)
  back_agrees line links cs s ds u j x y both at at' = record {
    they_meet = laws.back line cs s ds u j x y both.they_meet at at';
    lines = ap (λ (z : ℤ). cut_held (natural z) u.held) (laws.mark line cs s ds u j x y both.they_meet at at')
        ∙ ap (cut_held (held_bytes x.held)) both.lines
        ∙ cut_back x.held s.held (grow_get cs s.held j x both.grow at);
    grow = grow_take cs s.held j x both.grow at;
    kept = pairs_get (CopyKept links) cs ds j x y both.kept_then at at';
    kept_then = pairs_take (CopyKept links) (suc j) cs ds both.kept_then;
  }

  fall_agrees : (links : List Link) (cs : List State) (s : State) (ds : List Copy) (u : Standing) → BothAgree meets false links cs s ds u
      → BothAgree meets false links [] s [] (cut_touched 0 u)
  fall_agrees links cs s ds u both =
      record { they_meet = laws.fall cs s ds u both.they_meet; lines = both.lines; grow = tt; kept = both.kept; kept_then = tt }

  release_agrees : (line : Bool) (links : List Link) (s : State) (u : Standing) → BothAgree meets line links [] s [] u
      → BothAgree meets line links [] (with_held [] s) [] (released u)
  release_agrees line links s u both =
      record { they_meet = laws.release line s u both.they_meet; lines = refl; grow = tt; kept = both.kept; kept_then = tt }

  -- The laws of related kinds.
  module _ (channels_are : c.channels ≡ channels_of tree) (reading : Knowing State State (Nothing × Slots))
      (reads : ReadsSame (slotted tree) (read_slot tree) (read_slot_then tree) reading) where
    slot_same : (m : Nothing × Slots) (n : Common) (channel i : ℕ) → SameSlots m n
        → slot_of (channels_of tree) m.1 channel i ≡ slot_of c.channels n.slots channel i
    slot_same m n channel i same = ap₂ (λ (channels : List Ends) (slots : Slots). slot_of channels slots channel i) (sym channels_are) same

    reads_it : {t p : ℕ} {q : Process State State} {w : SlotWorld} → IsActing (IsKnown tree reading) t p q w → IsActing reading t p q w
    reads_it acts = record { knows = acts.knows.readable; runs = acts.runs; away = acts.away }

    pub words_simulate : IsSimulation (slotted tree) (word_kind c (groups_of tree)) SameSlots (Agreed meets) (IsKnown tree reading)
    words_simulate = record {
      plain = record {
        channels = sym channels_are;
        groups = refl;
        want = λ m n cs s ds u both. laws.want cs s ds u both.they_meet;
        sent = λ line m n cs s ds u channel both. laws.sent line cs s ds u channel both.they_meet;
        taken = λ line m n cs s ds u channel both. laws.taken line cs s ds u channel both.they_meet;
        sent_then = λ line m n cs s ds u channel j x y both at at'. laws.sent_then line cs s ds u channel j x y both.they_meet at at';
        taken_then = λ line m n x cs s y ds u channel both. laws.taken_then line (x ∷ cs) s (y ∷ ds) u channel 0 x y both.they_meet refl refl;
        message = λ t p q w channel sender receiver n ds u acts receipt memories both none more.
            reads.now t p q w channel sender receiver (reads_it acts) receipt none more
            ∙ slot_same w.memory n channel ((slotted tree).taken receiver.state channel) memories;
        message_then = λ t p q w channel sender receiver n ds u j x y acts receipt memories both some at at' more.
            reads.before t p q w channel sender receiver j x (reads_it acts) receipt some at more
            ∙ slot_same w.memory n channel ((slotted tree).taken receiver.state channel) memories;
        step = λ t p q w alternate message n ds u acts ready at memories both.
            let cs = copies_of q.levels in
            let did : Result_of_step = step tree alternate (environment_of (last_of cs)) q.state message in
            steps_meet t p q w n ds u acts.runs.there acts.knows.in_time both alternate
            (stepped_with_slots (tree_kind tree) q.state w.memory.1 did) (steps c alternate (last_of ds) u message n)
            (step_follows tree alternate (last_of cs) q.state message w.memory.1) (step_leaves c alternate (last_of ds) u message n) memories
            (subst (λ (slots : Slots). StepsAgree meets cs ds (stepped_with_slots (tree_kind tree) q.state slots did)
            (steps c alternate (last_of ds) u message n))
            (sym memories)
            (laws.step p q alternate message n ds u acts.knows.known acts.runs.running acts.away (ready_steps ready) at both.lines both.they_meet));
        enter = λ t p q w facts n ds u acts wants memories both.
            enters_meet t p q w n ds u acts.runs.there acts.knows.in_time both facts acts.knows.known acts.runs.running acts.away wants memories;
        leave = λ m n cs s ds u both. leave_agrees n.links cs s ds u both;
        held = λ line m n s u both. sym both.lines;
        release = λ line m n s u both. release_agrees line n.links s u both;
      };
      back = λ line m n cs s ds u j x y both at at'. back_agrees line n.links cs s ds u j x y both at at';
      fall = λ m n cs s ds u both. fall_agrees n.links cs s ds u both;
    }
