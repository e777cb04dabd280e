-- What is known of the processes of a world gives each what its turn asks for: it can be rejected from any of its levels on, and take a step;
-- and who stands at a test line may leave it.
use Rattle.std.proofs.Common.{◌≡◌, ℕ, zero, suc, ◌-◌, ◌<◌, ◌≤◌, ◌^◌, ℤ, Bool, true, false, List, [], ◌∷◌, length, map, slice_get, Option, Some, None, option_map, refl, ap, sym, ◌∙◌, subst, true≢false, arith}
use Rattle.std.proofs.lemmas.Option.{slice_get-map}
use Rattle.rb_cache.specs.Copies.{accepted}
use Rattle.rb_world.specs.Kind.{Want, NothingLeft, SendsOn, ReceivesOn, MayReceiveOn, Enters, Starts, Acts}
use Rattle.rb_world.specs.Nested.{IsLevelOf}
use Rattle.rb_world.specs.Present.{IsPresent}
use Rattle.rb_world.specs.Standing.{Each}
use Rattle.rb_world.specs.Turn.{tried_at}
use Rattle.rb_world.specs.World.{Level, ProcessStatus, Running, Finished, FailedWith, last_of, without_last}
use Rattle.rb_world.proofs.ListFacts.{none_some, some_same}
use Rattle.rb_scope.proofs.EachSite.{all_at}
use Rattle.rb_code.specs.Instructions.Plain.{Code}
use Rattle.rb_code.specs.SoundCode.Sound.{Table}
use Rattle.rb_code.specs.SoundCode.Stands.{IsAlternate, Serves, Settles}
use Rattle.rb_code.specs.SoundCode.StandsInRuns.{StandsNow}
use Rattle.rb_code.specs.WordMachine.Turn.{Common, Copy, Standing, want}
use Rattle.rb_code.specs.SoundCode.WellFormed.{IsSound}
use Rattle.rb_code.proofs.Executing.ProcessesStand.{stands_to_step}
use Rattle.rb_conv.specs.Conversations.{Conversation, conversation_at, memberships, talks}
use Rattle.rb_proc.specs.Process.{Seen, alternate_for}
use Rattle.rb_proc.specs.Runs.{CursorsRise}
use Rattle.rb_machine.specs.AtWork.{HasFewAlternates, MayActNow}
use Rattle.rb_ready.specs.Readiness.{IsStep}
use Rattle.rb_recovery.specs.Cascade.{AreQuiet, MayRejectAt, TriesWith}
use Rattle.rb_recovery.specs.Known.{IsKnown, IsTried}
use Rattle.rb_recovery.specs.Channels.{conversation_in}
use Rattle.rb_machine.specs.Stepping.{MayStep}
use Rattle.rb_recovery.specs.TestLines.{IsListed, MayLeave}
use Rattle.rb_recovery.specs.Worlds.{CanRise, NoneWaits, counts_of, processes_of, world_of}
use Rattle.rb_machine.proofs.Knowing.Alternates.EnteredBlocks.{level_counted}
use Rattle.rb_recovery.proofs.Changed.{all_of_each, last_found}

-- a process of the machine is one of the world
pub process_there : (procs : List Seen) (p : ℕ) (one : Seen) → slice_get procs p ≡ Some one → slice_get (processes_of procs) p ≡ Some one.process
process_there procs p one e =
    slice_get-map (λ (x : Seen). x.process) procs p ∙ ap (option_map (λ (x : Seen). x.process)) e

-- what is seen of a row is there in the table
pub row_there : {B : Type 0} (v : Conversation → B) (table : List Conversation) (d : ℕ) (y : B) → slice_get (map v table) d ≡ Some y
    → (d < length table) × (v (conversation_at table d) ≡ y)
row_there v [] d y e = absurd (none_some e)
row_there v (x ∷ xs) zero y e = (omega arith, some_same e)
row_there v (x ∷ xs) (suc d) y e = let rest = row_there v xs d y e in (omega (arith, rest.0), rest.1)

-- who stands at a line settles once its innermost level is accepted
line_settles : (c : Code) (t : Table) (status : ProcessStatus) (at_line : Bool) (s : Standing) (levels : List (Level Copy))
    → StandsNow c t status at_line s levels
    → at_line ≡ true → Settles c t (record s { touched = accepted s.touched }) (without_last levels)
line_settles c t (FailedWith cause) at_line s levels h e = absurd (true≢false (sym e ∙ h))
line_settles c t Running true s levels h e = h
line_settles c t Finished true s levels h e = h
line_settles c t Running false s levels h e = absurd (true≢false (sym e))
line_settles c t Finished false s levels h e = absurd (true≢false (sym e))

-- the last of levels that are tried is an alternate that its block has
last_tried : (levels : List (Level Copy)) → Each (λ _ level. IsTried level) levels → IsAlternate (tried_at (last_of levels)) (last_of levels)
last_tried [] each = tt
last_tried (l ∷ []) each = let h = each 0 l refl in (h.first, h.last)
last_tried (l ∷ m ∷ ls) each = last_tried (m ∷ ls) (λ n. each (suc n))

-- a step gets what it wants
step_serves : (message : Option ℤ) (levels : List (Level Copy)) (w : Want) → Each (λ _ level. IsTried level) levels → IsStep message w
    → Serves w (alternate_for w levels) message levels
step_serves message levels NothingLeft tried h = h
step_serves message levels (SendsOn channel) tried h = tt
step_serves message levels (ReceivesOn channel) tried h = h
step_serves message levels (MayReceiveOn channel) tried h = tt
step_serves message levels (Enters facts) tried h = h
step_serves message levels Starts tried h = last_tried levels tried
step_serves message levels Acts tried h = tt

module _ (c : Code) (table : List Conversation) (sound : IsSound c (memberships table) (counts_of table)) (t : ℕ) (procs : List Seen) (m : Common)
    (known : IsKnown c (memberships table) (counts_of table) sound.table t (world_of procs table m)) where
  -- a level of a conversation tries the conversation's present alternate
  tries_with : (p : ℕ) (one : Seen) → slice_get procs p ≡ Some one → (i d : ℕ) (at : IsLevelOf d one.process.levels i) → TriesWith table d at.level
  tries_with p one e i d at =
      let here = process_there procs p one e in
      let present : IsPresent (talks table) d at.level = known.present p one.process here i d at in
      let row = row_there (λ (x : Conversation). x.talk) table d present.talk present.there in
      let stands = (known.placed p one.process here).stands in
      let counted = level_counted c (memberships table) (counts_of table) sound one.process i at.level stands at.there in
      let count = row_there (λ (x : Conversation). x.alternates) table d at.level.facts.alternates (counted.as_many d at.of_it) in
      record {
        there = row.0;
        present = present.same ∙ ap (λ talk. talk.alternate) (sym row.1);
        as_many = sym count.1;
      }

  -- each process can be rejected, from any of its levels on
  pub may_reject : (p left : ℕ) → ((one : Seen) → slice_get procs p ≡ Some one → left ≤ length one.process.levels) → MayRejectAt procs table p left
  may_reject p left few one e = record {
    within = few one e;
    nested = (known.placed p one.process (process_there procs p one e)).nested;
    tries = λ i d at less. tries_with p one e i d at;
  }

  -- and each alternate can rise
  pub are_quiet : HasFewAlternates c → NoneWaits procs → AreQuiet procs
  are_quiet few waits = record {
    lines = waits;
    rise = all_of_each CanRise procs
        (λ p one e. all_of_each (λ (level : Level Copy). level.alternate < 2 ^ 32 - 1) one.process.levels (λ i level there.
        let here = process_there procs p one e in
        let block = (known.placed p one.process here).blocks i level there in
        let tried = known.tried p one.process here i level there in
        let alternates : level.facts.alternates ≡ length block.block.alternates = ap (λ f. f.alternates) block.facts in
        let less = few block.number block.block block.there in
        let last = tried.last in
        omega arith));
  }

  -- the conversation of a level is in the table
  pub is_listed : (p : ℕ) (one : Seen) → slice_get procs p ≡ Some one → IsListed (length table) (conversation_in (last_of one.process.levels))
  is_listed p one e = by (last_of one.process.levels) refl
    where
      of_level : (level : Level Copy) → last_of one.process.levels ≡ Some level → (o : Option ℕ)
          → level.facts.conversation ≡ o → IsListed (length table) o
      of_level level last None of_it = tt
      of_level level last (Some d) of_it =
          let found = last_found one.process.levels level last in
          (tries_with p one e found.0 d (record { level = level; there = found.1; of_it = of_it })).there

      by : (o : Option (Level Copy)) → last_of one.process.levels ≡ o → IsListed (length table) (conversation_in o)
      by None last = tt
      by (Some level) last = of_level level last level.facts.conversation refl

  -- who stands at a test line may leave it
  pub may_leave : Each (MayLeave c) procs
  may_leave p one e at_line =
      let q = one.process in
      let placed = known.placed p q (process_there procs p one e) in (
        memberships table,
        record {
          table = sound.table;
          has = sound.has;
          lists = sound.well.lists;
          settles = line_settles c sound.table q.status q.at_line q.state q.levels placed.stands.now at_line;
        },
      )

  -- who may act, and wants a step, may take it
  pub may_step : (message : Option ℤ) (p : ℕ) (one : Seen) → slice_get procs p ≡ Some one → NoneWaits procs → MayActNow one
      → IsStep message (want c one.process.state) → t < 2 ^ 32 → MayStep c message one
  may_step message p one e waits act step few =
      let q = one.process in
      let here = process_there procs p one e in
      let placed = known.placed p q here in
      let below = (known.counted p q here).cursors in
      record {
        running = act.running;
        away = act.away;
        none_waits = all_at (λ (x : Seen). x.waiting ≡ []) procs p one waits e;
        stands = (
          memberships table,
          record {
            table = sound.table;
            has = sound.has;
            lists = sound.well.lists;
            stands = stands_to_step c
                (memberships table) sound.table sound.has sound.well.lists q placed.stands act.running act.away;
          },
        );
        serves = step_serves message q.levels (want c q.state) (known.tried p q here) step;
        cursors = subst (λ n. CursorsRise c n q.state.words) (sym placed.number) (λ channel among.
            let less = below channel among in
            omega arith);
      }
