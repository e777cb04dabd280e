-- A step of a process that stands in the table of sound code: it passes links through, keeps the process's number and its last kept turn, and
-- what it comes to has settled, also once its turn was kept.
use Rattle.std.proofs.Common.{◌≡◌, ℕ, ◌+◌, ◌<◌, ℤ, List, [], ◌∷◌, length, Option, refl, ap, sym, subst, arith}
use Rattle.rb_base.specs.declared.event.Cause.{Cause}
use Rattle.rb_cache.specs.Copies.{accepted}
use Rattle.rb_world.specs.Kind.{Membership, Stepped, Trapped, Went, Held}
use Rattle.rb_world.specs.Slots.{Slots}
use Rattle.rb_world.specs.World.{Level, Process, copy_of, goes_on, last_of, settled, without_last}
use Rattle.rb_code.specs.Instructions.Plain.{Code}
use Rattle.rb_code.specs.WordMachine.Act.{Accepts, Going, Outcome, Sight, Stopped, Trapped as Trap, Unfinished, execute}
use Rattle.rb_code.specs.WordMachine.Turn.{Common, Copy, Link, Standing, came_to, memory_of, most_steps, sight, standing_at, step, want}
use Rattle.rb_code.specs.SoundCode.Safe.{IsUnchanged}
use Rattle.rb_code.specs.SoundCode.Stands.{Opened, Serves, SettlesSoundly, StandsSoundly, StandsSoundlyAfter, inside_out}
use Rattle.rb_code.proofs.Executing.LastOf.{former_is}
use Rattle.rb_code.proofs.Executing.Safety.{Finishes}
use Rattle.rb_code.proofs.Executing.Served.{is_turn, met}
use Rattle.rb_code.proofs.Executing.SoundSteps.{standing_has_settled, steps_stand}
use Rattle.rb_code.proofs.Executing.StandingSteps.{unchanged_keeps}
use Rattle.rb_code.proofs.Executing.StandingSteps as standing
use Rattle.rb_code.proofs.Executing.StandsAgain.{settles_like, stands_like}
use Rattle.rb_proc.specs.Process.{StepsTo, alternate_for, kind_of, step_of}
use Rattle.rb_proc.specs.declared.answers.Outcome.TheVariants as outcome

-- what a step comes to, with other links
abbrev pub relinked : List Link → Stepped Standing Common → Stepped Standing Common
relinked links (Trapped cause) = Trapped cause
relinked links (Went later memory) = Went later (record memory { links = links })
relinked links (Held later) = Held later

came_relinked : (s : Standing) (slots : Slots) (links : List Link) (o : Outcome)
    → came_to s (record { slots = slots; links = links }) o ≡ relinked links (came_to s (record { slots = slots; links = [] }) o)
came_relinked s slots links (Stopped at m) = refl
came_relinked s slots links (Accepts at m) = refl
came_relinked s slots links (Trap cause) = refl
came_relinked s slots links (Going at operands m) = refl
came_relinked s slots links Unfinished = refl

pub step_relinked : (c : Code) (q : Process Standing Copy) (slots : Slots) (message : Option ℤ) (links : List Link)
    → step c (alternate_for (want c q.state) q.levels) (copy_of (last_of q.levels)) q.state message (record { slots = slots; links = links })
    ≡ relinked links (step_of c q slots message)
step_relinked c q slots message links =
    came_relinked q.state slots links (execute c
    (sight q.state (alternate_for (want c q.state) q.levels) (copy_of (last_of q.levels)) message)
    (most_steps c) (q.state.at + 1) [] (memory_of q.state slots))

-- a step that went on
pub record WentOn (c : Code) (q : Process Standing Copy) (stepped : Stepped Standing Common) (r : Process Standing Copy)
    (after : Slots) : Type 0 where
  pub later : Standing
  pub memory : Common
  pub is : stepped ≡ Went later memory
  pub process : r ≡ goes_on (kind_of c) later q.levels
  pub slots : after ≡ memory.slots

pub went_on : (c : Code) (q : Process Standing Copy) (slots : Slots) (stepped : Stepped Standing Common) (r : Process Standing Copy) (after : Slots)
    → StepsTo c q slots stepped outcome.Went r after → WentOn c q stepped r after
went_on c q slots (Went later memory) r after h = record { later = later; memory = memory; is = refl; process = h.0; slots = h.1 }
went_on c q slots (Held later) r after h = absurd h
went_on c q slots (Trapped cause) r after h = absurd h

-- a step whose acceptance test held
pub record HeldTest (q : Process Standing Copy) (slots : Slots) (stepped : Stepped Standing Common)
    (r : Process Standing Copy) (after : Slots) : Type 0 where
  pub later : Standing
  pub is : stepped ≡ Held later
  pub process : r ≡ record q { state = later }
  pub slots_stay : after ≡ slots

pub held_test : (c : Code) (q : Process Standing Copy) (slots : Slots) (stepped : Stepped Standing Common) (r : Process Standing Copy) (after : Slots)
    → StepsTo c q slots stepped outcome.Accepts r after → HeldTest q slots stepped r after
held_test c q slots (Went later memory) r after h = absurd h
held_test c q slots (Held later) r after h = record { later = later; is = refl; process = h.0; slots_stay = h.1 }
held_test c q slots (Trapped cause) r after h = absurd h

-- a step that trapped
pub record HasTrapped (q : Process Standing Copy) (slots : Slots) (cause : Cause) (stepped : Stepped Standing Common) (r : Process Standing Copy)
    (after : Slots) : Type 0 where
  pub is : stepped ≡ Trapped cause
  pub process : r ≡ q
  pub slots_stay : after ≡ slots

pub has_trapped : (c : Code) (q : Process Standing Copy) (slots : Slots) (cause : Cause) (stepped : Stepped Standing Common)
    (r : Process Standing Copy)
    (after : Slots) → StepsTo c q slots stepped (outcome.Trap cause) r after → HasTrapped q slots cause stepped r after
has_trapped c q slots cause (Went later memory) r after h = absurd h
has_trapped c q slots cause (Held later) r after h = absurd h
has_trapped c q slots cause (Trapped one) r after h = record { is = ap (λ x. Trapped x) (sym h.0); process = h.1; slots_stay = h.2 }

-- a step changes neither the number of the process nor its last kept turn
pub record SameProcess (s later : Standing) : Type 0 where
  pub number : later.process ≡ s.process
  pub last : later.last_kept ≡ s.last_kept

came_same : (s : Standing) (memory after : Common) (later : Standing) (o : Outcome) → came_to s memory o ≡ Went later after → SameProcess s later
came_same s memory after later (Stopped at m) e =
    let is : standing_at at m s ≡ later = cc in
    record { number = ap (λ (x : Standing). x.process) (sym is); last = ap (λ (x : Standing). x.last_kept) (sym is) }
came_same s memory after later (Accepts at m) e = absurd (let no_way : ⊥ = cc in no_way)
came_same s memory after later (Trap cause) e = absurd (let no_way : ⊥ = cc in no_way)
came_same s memory after later (Going at operands m) e = absurd (let no_way : ⊥ = cc in no_way)
came_same s memory after later Unfinished e = absurd (let no_way : ⊥ = cc in no_way)

pub same_process : (c : Code) (q : Process Standing Copy) (slots : Slots) (message : Option ℤ) (later : Standing) (memory : Common)
    → step_of c q slots message ≡ Went later memory → SameProcess q.state later
same_process c q slots message later memory e =
    came_same q.state (record { slots = slots; links = [] }) memory later (execute c
    (sight q.state (alternate_for (want c q.state) q.levels) (copy_of (last_of q.levels)) message)
    (most_steps c) (q.state.at + 1) [] (memory_of q.state slots)) e

-- a process that is served
module _ (c : Code) (groups : List Membership) (s : Standing) (levels : List (Level Copy)) (alternate : ℕ) (message : Option ℤ)
    (stands : StandsSoundly c groups s levels) (serves : Serves (want c s) alternate message levels) where
  -- where it went on it has settled, also once the turn was kept
  pub went_settled : (memory after : Common) (later : Standing) (turn : ℕ)
      → step c alternate (copy_of (last_of levels)) s message memory ≡ Went later after
      → settled (kind_of c) (record later { last_kept = turn }) levels ≡ goes_on (kind_of c) (record later { last_kept = turn }) levels
  went_settled memory after later turn e =
      let h = subst (StandsSoundlyAfter c groups s levels) e (steps_stand c groups s levels alternate message memory stands serves) in
      ap (λ (x : Standing). goes_on (kind_of c) x levels)
      (standing_has_settled c groups (record later { last_kept = turn }) levels (record {
        table = h.table;
        has = h.has;
        lists = h.lists;
        stands = stands_like c h.table later levels levels later.words turn later.held later.touched refl refl refl h.stands;
      }))

  -- where its test held only the address is another
  pub held_only : (memory : Common) (later : Standing) → step c alternate (copy_of (last_of levels)) s message memory ≡ Held later
      → later ≡ record s { at = later.at }
  held_only memory later e =
      (subst (StandsSoundlyAfter c groups s levels) e (steps_stand c groups s levels alternate message memory stands serves)).0

  -- and it settles once its innermost level is accepted
  pub held_settles : (memory : Common) (later : Standing) (turn : ℕ) → step c alternate (copy_of (last_of levels)) s message memory ≡ Held later
      → SettlesSoundly c groups (record later { last_kept = turn; touched = accepted later.touched }) (without_last levels)
  held_settles memory later turn e =
      let h = (subst (StandsSoundlyAfter c groups s levels) e (steps_stand c groups s levels alternate message memory stands serves)).1 in record {
        table = h.table;
        has = h.has;
        lists = h.lists;
        settles = settles_like c h.table (record later { touched = accepted later.touched }) (without_last levels)
            (without_last levels) later.words turn
            later.held (accepted later.touched) refl refl refl h.settles;
      }

  -- a level is open then
  some_inside : (ls : List (Level Copy)) (x : Opened) (others : List Opened) → inside_out ls ≡ x ∷ others → 0 < length ls
  some_inside [] x others e = absurd (let no_way : ⊥ = cc in no_way)
  some_inside (l ∷ ls) x others e = omega arith

  pub held_inside : (memory : Common) (later : Standing) → step c alternate (copy_of (last_of levels)) s message memory ≡ Held later
      → 0 < length levels
  held_inside memory later e =
      by (execute c see (most_steps c) (s.at + 1) [] (memory_of s memory.slots))
      (standing.step_finishes c groups stands.table stands.has stands.lists s levels stands.stands
      (is_turn c groups stands.table stands.has stands.lists s levels stands.stands alternate message serves) alternate message
      (met c groups stands.table stands.has stands.lists s levels stands.stands alternate message serves) memory.slots)
      e
    where
      see : Sight
      see = sight s alternate (copy_of (last_of levels)) message

      by : (o : Outcome) → Finishes c groups stands.table see (inside_out levels) (IsUnchanged (memory_of s memory.slots))
          (unchanged_keeps (memory_of s memory.slots)) stands.has stands.lists stands.stands.exists (former_is levels) o
          → came_to s memory o ≡ Held later → 0 < length levels
      by (Accepts at m) h e = some_inside levels h.1.level h.1.others h.1.levels_are
      by (Stopped at m) h e = absurd (let no_way : ⊥ = cc in no_way)
      by (Trap cause) h e = absurd (let no_way : ⊥ = cc in no_way)
      by (Going at operands m) h e = absurd (let no_way : ⊥ = cc in no_way)
      by Unfinished h e = absurd (let no_way : ⊥ = cc in no_way)
