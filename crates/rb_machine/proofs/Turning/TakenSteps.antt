-- Where a step of a process leads, in the world that the machine's parts stand for.
use Rattle.std.proofs.Common.{◌≡◌, ℕ, ◌<◌, ℤ, List, [], ◌∷◌, ◌++◌, length, map, reverse, slice_get, Option, Some, None, option_map, refl, ap, sym, ◌∙◌, subst, true≢false}
use Rattle.std.proofs.lemmas.List.{map-append, reverse-append}
use Rattle.rb_base.specs.declared.event.Cause.{Cause}
use Rattle.rb_cache.specs.Copies.{accepted as accepted_in}
use Rattle.rb_world.specs.Kind.{Stepped}
use Rattle.rb_world.specs.Reject.{reject}
use Rattle.rb_world.specs.Slots.{Slots}
use Rattle.rb_world.specs.Standing.{Each}
use Rattle.rb_world.specs.Turn.{Moved, accepted, accepted_at, at_test_line, stands_now, stepped, steps, took, undone}
use Rattle.rb_world.specs.World.{Level, Process, change_at, last_of, levels_of, process_levels, settled, without_last}
use Rattle.rb_world.proofs.ListFacts.{Each-change_at, slice_get-change_at}
use Rattle.rb_code.specs.Instructions.Plain.{Code}
use Rattle.rb_code.specs.WordMachine.Turn.{Common, Copy, Link, Standing, want}
use Rattle.rb_code.specs.WordMachine.WordRun.{WordWorld}
use Rattle.rb_conv.specs.Conversations.{Conversation, talks}
use Rattle.rb_conv.proofs.TalksAfterCalls.{map_changed}
use Rattle.rb_proc.specs.Process.{Seen, StepsTo, alternate_for, step_of}
use Rattle.rb_proc.specs.declared.answers.Outcome.{Outcome}
use Rattle.rb_proc.specs.declared.answers.Outcome.TheVariants as outcome
use Rattle.rb_recovery.specs.Channels.{conversation_in}
use Rattle.rb_machine.specs.Stepping.{MayStep, turn_kept}
use Rattle.rb_recovery.specs.TestLines.{HasTaken, HoldsTest, IsListed, MayLeave, SettlesOnceAccepted}
use Rattle.rb_recovery.specs.Worlds.{NoneWaits, kind_with, link_of, memory_of, processes_of, world_of}
use Rattle.rb_recovery.specs.declared.links.Link.{Link as Linked}
use Rattle.rb_recovery.proofs.Changed.{all_changed, change_after, change_twice, none_last, same_there}
use Rattle.rb_machine.proofs.Knowing.KnownHere.{process_there}
use Rattle.rb_machine.proofs.Turning.StepFacts.{HasTrapped, HeldTest, WentOn, has_trapped, held_inside, held_only, held_settles, held_test, relinked, same_process, step_relinked, went_on, went_settled}

-- the newest link comes first
newest_first : (slots : Slots) (links : List Linked) (link : Linked)
    → memory_of slots (links ++ link ∷ []) ≡ record { slots = slots; links = link_of link ∷ (memory_of slots links).links }
newest_first slots links link =
    ap (λ ls. record { slots = slots; links = ls })
    (ap reverse (map-append link_of links (link ∷ [])) ∙ reverse-append (map link_of links) (link_of link ∷ []))

-- what is seen of processes of which one was put there
pub processes_put : (p : ℕ) (one : Seen) (procs : List Seen)
    → processes_of (change_at p (λ _. one) procs) ≡ change_at p (λ _. one.process) (processes_of procs)
processes_put p one procs = map_changed (λ (x : Seen). x.process) (λ _. one) (λ _. one.process) p procs (λ x e. refl)

-- process number p has taken a step, and no other has changed
pub record HasStepped (c : Code) (message : Option ℤ) (p : ℕ) (one : Seen) (answer : Outcome) (slots slots' : Slots)
    (procs procs' : List Seen) : Type 0 where
  pub later : Process Standing Copy
  pub comes : StepsTo c one.process slots (step_of c one.process slots message) answer later slots'
  pub processes : procs' ≡ change_at p (λ _. record { process = later; waiting = [] }) procs

-- a process of which no released line waits
abbrev pub calm : Process Standing Copy → Seen
calm q = record { process = q; waiting = [] }

module _ (c : Code) (table : List Conversation) (slots : Slots) (links : List Linked) (message : Option ℤ) (turn p : ℕ) (one : Seen) (procs : List Seen)
    (here : slice_get procs p ≡ Some one) (may : MayStep c message one) (number : one.process.state.process ≡ p) where
  abbrev alternate : ℕ
  alternate = alternate_for (want c one.process.state) one.process.levels

  abbrev before : WordWorld
  before = world_of procs table (memory_of slots links)

  -- what the world makes of the step
  abbrev pub made : Stepped Standing Common → Moved Standing Copy Common
  made o = stepped (kind_with c table) turn p alternate one.process.levels before o

  abbrev pub taken : Moved Standing Copy Common
  taken = steps (kind_with c table) turn p alternate message one.process before

  abbrev linked : List Link
  linked = (memory_of slots links).links

  is_made : taken ≡ made (relinked linked (step_of c one.process slots message))
  is_made = ap made (step_relinked c one.process slots message linked)

  -- no line waits once the turn was kept
  pub kept_waits : (answer : Outcome) (slots' : Slots) (procs1 procs' : List Seen)
      (stepping : HasStepped c message p one answer slots slots' procs procs1)
      → procs' ≡ change_at p (turn_kept turn) procs1 → NoneWaits procs → NoneWaits procs'
  kept_waits answer slots' procs1 procs' stepping kept h =
      subst NoneWaits
      (sym (kept ∙ (ap (change_at p (turn_kept turn)) stepping.processes ∙ change_after p (turn_kept turn) (calm stepping.later) procs)))
      (all_changed (λ (x : Seen). x.waiting ≡ []) p (λ _. turn_kept turn (calm stepping.later)) procs (λ x none. refl) h)

  -- it went on
  module _ (slots' : Slots) (procs1 procs' : List Seen) (stepping : HasStepped c message p one outcome.Went slots slots' procs procs1)
      (kept : procs' ≡ change_at p (turn_kept turn) procs1) where
    went : WentOn c one.process (step_of c one.process slots message) stepping.later slots'
    went = went_on c one.process slots (step_of c one.process slots message) stepping.later slots' stepping.comes

    abbrev now : Standing
    now = record went.later { last_kept = turn }

    put_kept : procs' ≡ change_at p (λ _. turn_kept turn (calm stepping.later)) procs
    put_kept = kept ∙ (ap (change_at p (turn_kept turn)) stepping.processes ∙ change_after p (turn_kept turn) (calm stepping.later) procs)

    has_settled : (turn_kept turn (calm stepping.later)).process ≡ settled (kind_with c table) now one.process.levels
    has_settled =
        ap (λ (q : Process Standing Copy). (turn_kept turn (calm q)).process) went.process
        ∙ sym (went_settled c may.stands.0 one.process.state one.process.levels alternate message may.stands.1 may.serves
        (record { slots = slots; links = [] }) went.memory went.later turn went.is)

    went_processes : processes_of procs' ≡ change_at p (λ _. settled (kind_with c table) now one.process.levels) (processes_of procs)
    went_processes =
        ap processes_of put_kept
        ∙ (processes_put p (turn_kept turn (calm stepping.later)) procs
        ∙ ap (λ (q : Process Standing Copy). change_at p (λ _. q) (processes_of procs)) has_settled)

    went_memory : (links' : List Linked)
        → links' ≡ links ++ record { turn = turn; process = p; alternate = alternate; before = one.process.state.last_kept } ∷ []
        → memory_of slots' links' ≡ record {
          slots = went.memory.slots;
          links = record { turn = turn; process = went.later.process; alternate = alternate; before = went.later.last_kept } ∷ linked;
        }
    went_memory links' e =
        let same = same_process c one.process slots message went.later went.memory went.is in
        ap (memory_of slots') e
        ∙ (newest_first slots' links (record { turn = turn; process = p; alternate = alternate; before = one.process.state.last_kept })
        ∙ (ap (λ (ss : Slots). record {
          slots = ss;
          links =
              record { turn = turn; process = p; alternate = alternate; before = one.process.state.last_kept } ∷ linked;
        }) went.slots
        ∙ (ap (λ (n : ℕ). record {
          slots = went.memory.slots;
          links = record { turn = turn; process = n; alternate = alternate; before = one.process.state.last_kept } ∷ linked;
        }) (sym number ∙ sym same.number)
        ∙ ap (λ (n : ℕ). record {
          slots = went.memory.slots;
          links = record { turn = turn; process = went.later.process; alternate = alternate; before = n } ∷ linked;
        }) (sym same.last))))

    -- the world after it
    pub went_world : (links' : List Linked)
        → links' ≡ links ++ record { turn = turn; process = p; alternate = alternate; before = one.process.state.last_kept } ∷ []
        → HasTaken (memory_of slots' links') procs' table None taken
    went_world links' e =
        subst (HasTaken (memory_of slots' links') procs' table None)
        (sym (is_made ∙ ap (λ (o : Stepped Standing Common). made (relinked linked o)) went.is))
        (record {
          world = ap (λ
              (qs : List (Process Standing Copy)). record {
                processes = qs;
                talks = talks table;
                memory =
                    memory_of slots' links';
              }) went_processes
              ∙ ap (λ (m : Common). record {
                processes = change_at p (λ _. settled (kind_with c table) now one.process.levels) (processes_of procs);
                talks = talks table;
                memory = m;
              }) (went_memory links' e);
          kind = refl;
          rejections = refl;
          passes = refl;
        })

  -- its acceptance test held
  module _ (slots' : Slots) (procs1 procs2 : List Seen) (stepping : HasStepped c message p one outcome.Accepts slots slots' procs procs1)
      (kept : procs2 ≡ change_at p (turn_kept turn) procs1) where
    abbrev pub holder : Seen
    holder = turn_kept turn (calm stepping.later)

    pub held : HeldTest one.process slots (step_of c one.process slots message) stepping.later slots'
    held = held_test c one.process slots (step_of c one.process slots message) stepping.later slots' stepping.comes

    abbrev at_test : Standing
    at_test = record held.later { last_kept = turn }

    pub put_held : procs2 ≡ change_at p (λ _. holder) procs
    put_held = kept ∙ (ap (change_at p (turn_kept turn)) stepping.processes ∙ change_after p (turn_kept turn) (calm stepping.later) procs)

    pub holder_is : holder.process ≡ record one.process { state = at_test }
    holder_is = ap (λ (q : Process Standing Copy). (turn_kept turn (calm q)).process) held.process

    only_address : held.later ≡ record one.process.state { at = held.later.at }
    only_address =
        held_only c may.stands.0 one.process.state one.process.levels alternate message may.stands.1 may.serves (record { slots = slots; links = [] })
        held.later held.is

    -- it is there, with its test held
    pub holder_there : slice_get procs2 p ≡ Some holder
    holder_there =
        ap (λ (xs : List Seen). slice_get xs p) put_held
        ∙ (slice_get-change_at p (λ _. holder) procs ∙ ap (option_map (λ (_ : Seen). holder)) here)

    pub holder_holds : HoldsTest c holder
    holder_holds = record {
      inside = subst (λ (q : Process Standing Copy). 0 < length q.levels) (sym holder_is)
          (held_inside c may.stands.0 one.process.state one.process.levels alternate message may.stands.1 may.serves
          (record { slots = slots; links = [] })
          held.later held.is);
      settles = subst (SettlesOnceAccepted c) (sym holder_is) (
        may.stands.0,
        held_settles c may.stands.0 one.process.state one.process.levels alternate message may.stands.1 may.serves
            (record { slots = slots; links = [] }) held.later turn held.is,
      );
    }

    pub holder_listed : (n : ℕ) → IsListed n (conversation_in (last_of one.process.levels))
        → IsListed n (conversation_in (last_of holder.process.levels))
    holder_listed n h = subst (λ (q : Process Standing Copy). IsListed n (conversation_in (last_of q.levels))) (sym holder_is) h

    -- who stands at a line may still leave it
    pub held_leave : Each (MayLeave c) procs → Each (MayLeave c) procs2
    held_leave each =
        subst (Each (MayLeave c)) (sym put_held) (Each-change_at (MayLeave c) p (λ _. holder) procs each (λ x e at_line.
        absurd (true≢false (sym at_line ∙ (ap (λ (q : Process Standing Copy). q.at_line) holder_is ∙ may.away)))))

    pub held_waits : NoneWaits procs → NoneWaits procs2
    held_waits h = kept_waits outcome.Accepts slots' procs1 procs2 stepping kept h

    held_memory : (links' : List Linked)
        → links' ≡ links ++ record { turn = turn; process = p; alternate = alternate; before = one.process.state.last_kept } ∷ []
        → memory_of slots' links' ≡ record {
          slots = slots;
          links = record { turn = turn; process = held.later.process; alternate = alternate; before = held.later.last_kept } ∷ linked;
        }
    held_memory links' e =
        ap (memory_of slots') e
        ∙ (newest_first slots' links (record { turn = turn; process = p; alternate = alternate; before = one.process.state.last_kept })
        ∙ (ap (λ (ss : Slots). record {
          slots = ss;
          links =
              record { turn = turn; process = p; alternate = alternate; before = one.process.state.last_kept } ∷ linked;
        }) held.slots_stay
        ∙ (ap (λ (n : ℕ). record {
          slots = slots;
          links = record { turn = turn; process = n; alternate = alternate; before = one.process.state.last_kept } ∷ linked;
        }) (sym number ∙ sym (ap (λ (s : Standing). s.process) only_address))
        ∙ ap (λ (n : ℕ). record {
          slots = slots;
          links = record { turn = turn; process = held.later.process; alternate = alternate; before = n } ∷ linked;
        }) (sym (ap (λ (s : Standing). s.last_kept) only_address)))))

    -- what comes of the acceptance is the same, whatever state the process was left in, and whichever memory
    accepted_again : (qs : List (Process Standing Copy)) (f : Process Standing Copy → Process Standing Copy) (m m' later : Common) (s : Standing)
        (levels : List (Level Copy)) (o : Option ℕ)
        → accepted_at (kind_with c table) p levels o (record { processes = change_at p f qs; talks = talks table; memory = m }) (s, later)
        ≡ accepted_at (kind_with c table) p levels o (record { processes = qs; talks = talks table; memory = m' }) (s, later)
    accepted_again qs f m m' later s levels None =
        ap (λ (ps : List (Process Standing Copy)). took (record { processes = ps; talks = talks table; memory = later }))
        (change_twice p f (settled (kind_with c table) (record s { touched = accepted_in s.touched }) (without_last levels)) qs)
    accepted_again qs f m m' later s levels (Some d) =
        ap (λ (ps : List (Process Standing Copy)). at_test_line (kind_with c table) d
        (record { processes = ps; talks = talks table; memory = later }))
        (change_twice p f (stands_now s levels) qs)

    -- what is said of the acceptance of the process as it stands is said of the step
    held_as : (links' : List Linked) (P : Moved Standing Copy Common → Type 0)
        → links' ≡ links ++ record { turn = turn; process = p; alternate = alternate; before = one.process.state.last_kept } ∷ []
        → P (accepted (kind_with c table) p holder.process.levels (last_of holder.process.levels) (world_of procs2 table (memory_of slots' links'))
        (holder.process.state, memory_of slots' links'))
        → P taken
    held_as links' P e h =
        subst P
        (sym (is_made ∙ ap (λ (o : Stepped Standing Common). made (relinked linked o)) held.is))
        (by (last_of one.process.levels) refl
        (subst (λ (x : Process Standing Copy). P
        (accepted (kind_with c table) p x.levels (last_of x.levels)
        (world_of procs2 table (memory_of slots' links')) (x.state, memory_of slots' links'))) holder_is h))
      where
        on_level : (o : Option ℕ)
            → P (accepted_at (kind_with c table) p one.process.levels o
            (world_of procs2 table (memory_of slots' links')) (at_test, memory_of slots' links'))
            → P (accepted_at (kind_with c table) p one.process.levels o before (
              at_test,
              record {
                slots = slots;
                links =
                    record { turn = turn; process = held.later.process; alternate = alternate; before = held.later.last_kept } ∷ linked;
              },
            ))
        on_level o k =
            subst (λ (m : Common). P
            (accepted_at (kind_with c table) p one.process.levels o before (at_test, m)))
            (held_memory links' e)
            (subst P
            (accepted_again (processes_of procs) (λ _. holder.process) (memory_of slots' links') (memory_of slots links)
            (memory_of slots' links') at_test one.process.levels o)
            (subst (λ (qs : List (Process Standing Copy)). P
            (accepted_at (kind_with c table) p one.process.levels o
            (record { processes = qs; talks = talks table; memory = memory_of slots' links' })
            (at_test, memory_of slots' links')))
            (ap processes_of put_held ∙ processes_put p holder procs) k))

        by : (o : Option (Level Copy)) → last_of one.process.levels ≡ o
            → P (accepted (kind_with c table) p one.process.levels o
            (world_of procs2 table (memory_of slots' links')) (at_test, memory_of slots' links'))
            → P (accepted (kind_with c table) p one.process.levels o before (
              at_test,
              record {
                slots = slots;
                links =
                    record { turn = turn; process = held.later.process; alternate = alternate; before = held.later.last_kept } ∷ linked;
              },
            ))
        by None last k =
            absurd (none_last one.process.levels
            (held_inside c may.stands.0 one.process.state one.process.levels alternate message may.stands.1 may.serves
            (record { slots = slots; links = [] }) held.later held.is) last)
        by (Some level) last k = on_level level.facts.conversation k

    -- so the step comes to what that acceptance comes to
    pub held_is : (links' : List Linked)
        → links' ≡ links ++ record { turn = turn; process = p; alternate = alternate; before = one.process.state.last_kept } ∷ []
        → taken ≡ accepted (kind_with c table) p holder.process.levels (last_of holder.process.levels)
        (world_of procs2 table (memory_of slots' links')) (holder.process.state, memory_of slots' links')
    held_is links' e =
        held_as links' (λ (moved : Moved Standing Copy Common). moved
        ≡ accepted (kind_with c table) p holder.process.levels (last_of holder.process.levels)
        (world_of procs2 table (memory_of slots' links')) (holder.process.state, memory_of slots' links')) e refl

  -- it trapped
  module _ (slots' : Slots) (procs1 : List Seen) (cause : Cause)
      (stepping : HasStepped c message p one (outcome.Trap cause) slots slots' procs procs1) where
    has_fallen : HasTrapped one.process slots cause (step_of c one.process slots message) stepping.later slots'
    has_fallen = has_trapped c one.process slots cause (step_of c one.process slots message) stepping.later slots' stepping.comes

    -- nothing has changed
    pub same_processes : procs1 ≡ procs
    same_processes =
        let same : calm stepping.later ≡ one =
        ap calm has_fallen.process ∙ ap (λ (ls : List (List ℕ)). record one { waiting = ls }) (sym may.none_waits) in
        stepping.processes ∙ (ap (λ (x : Seen). change_at p (λ _. x) procs) same ∙ same_there p one procs here)

    pub same_slots : slots' ≡ slots
    same_slots = has_fallen.slots_stay

    -- so the step comes to the rejection of the innermost level
    pub trap_is : (procs2 : List Seen) (links' : List Linked) (left : ℕ) → procs2 ≡ procs1 → links' ≡ links → left ≡ length one.process.levels
        → taken ≡ undone (reject (kind_with c table) p left cause (world_of procs2 table (memory_of slots' links')))
    trap_is procs2 links' left again back long =
        let n : length (process_levels before p) ≡ left =
        ap (λ (o : Option (Process Standing Copy)). length (levels_of o)) (process_there procs p one here) ∙ sym long in
        let start : before ≡ world_of procs2 table (memory_of slots' links') =
        ap (λ (xs : List Seen). world_of xs table (memory_of slots links)) (sym (again ∙ same_processes))
        ∙ (ap (λ (ss : Slots). world_of procs2 table (memory_of ss links)) (sym same_slots)
        ∙ ap (λ (ls : List Linked). world_of procs2 table (memory_of slots' ls)) (sym back)) in
        is_made ∙ (ap (λ (o : Stepped Standing Common). made (relinked linked o)) has_fallen.is
        ∙ (ap (λ (k : ℕ). undone (reject (kind_with c table) p k cause before)) n
        ∙ ap (λ (w : WordWorld). undone (reject (kind_with c table) p left cause w)) start))
