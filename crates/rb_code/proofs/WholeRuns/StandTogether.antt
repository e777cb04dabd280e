-- A process of the tree and the same of the word machine stand together: the state and its copies each meet the words that the machine
-- has, and the machine stands upright, which is to say that its turns come to an end. What is asked of one step and of uprightness is
-- told here.
use Rattle.std.specs.Prelude.{◌≡◌, ◌⊎◌, ℕ, ◌+◌, ℤ, suc, Bool, true, false, List, [], ◌∷◌, ◌++◌, slice_get, take, Option, Some, None}
use Rattle.rb_syntax.specs.Tree.{Tree}
use Rattle.rb_world.specs.Kind.{Facts, Enters, Starts, Stepped, Trapped, Went, Held}
use Rattle.rb_world.specs.World.{last_of, without_last}
use Rattle.rb_world.specs.Slots.{Slots, stepped_with_slots}
use Rattle.rb_meaning.specs.State.{Item, TestOf, State, settle}
use Rattle.rb_meaning.specs.Step.{Nothing, step, wants_first}
use Rattle.rb_meaning.specs.Meaning.{environment_of, tree_kind}
use Rattle.rb_meaning.specs.Laws.{with_test}
use Rattle.rb_meaning.proofs.InsideOut.{onto}
use Rattle.rb_meaning.proofs.Nesting.RecoveryPoints.{IsOwn}
use Rattle.rb_scope.specs.declared.slot.Slot.{Slot}
use Rattle.rb_code.specs.Instructions.Plain.{Code, Part}
use Rattle.rb_code.specs.WordMachine.Workspace.{Workspace}
use Rattle.rb_code.specs.WordMachine.Act.{Accepts, Sight, Stopped, Trapped as Trap, execute}
use Rattle.rb_code.specs.WordMachine.Turn.{Common, Copy, Standing, memory_of, most_steps, settle as settles, sight, step as steps, want}
use Rattle.rb_code.specs.WordMachine.WordKind.{copied, entered_at, released, restored}
use Rattle.rb_code.specs.WordMachine.WordRun.{opening_standing}
use Rattle.rb_code.proofs.Agreeing.Leads.{EndsIn, IsFinished}
use Rattle.rb_code.proofs.Agreeing.TextLeft.{IsSettled}
use Rattle.rb_code.proofs.Agreeing.StatesMeet.{IsPrior, Meets}
use Rattle.rb_code.proofs.WholeRuns.Agreeing.{MayStep, accepted_touched, cut_touched, kept_last}
use Rattle.rb_code.proofs.WholeRuns.OwnMail.{HasOwnMail}
use Rattle.rb_code.proofs.WholeRuns.Pairs.{Pairs}
use Rattle.rb_code.proofs.WholeRuns.PointsLie.{PointsLie, stacks_at}
use Rattle.rb_code.proofs.WholeRuns.StacksLeft.{left_in}

-- whether the process stands at a test line, the copies of its levels from the outermost in, and what stands
abbrev pub Uprightness : Type 1
Uprightness = Bool → List Copy → Standing → Type 0

-- What is asked of uprightness: a turn of who stands upright comes to an end within the most steps, and leaves it upright; so does
-- settling once a level was accepted; and so do all changes of levels.
pub record IsUpright (c : Code) (upright : Uprightness) : Type 0 where
  pub keeps : (line : Bool) (ds : List Copy) (u : Standing) (t : ℕ) → upright line ds u → upright line ds (kept_last t u)
  pub finishes : (ds : List Copy) (u : Standing) (alternate : ℕ) (message : Option ℤ) (all : Slots) → upright false ds u
      → MayStep (want c u) message → (want c u ≡ Starts) ⊎ (alternate ≡ 0)
      → IsFinished (execute c (sight u alternate (last_of ds) message) (most_steps c) (u.at + 1) [] (memory_of u all))
  pub went : (ds : List Copy) (u : Standing) (alternate : ℕ) (message : Option ℤ) (memory later : Common) (v : Standing) → upright false ds u
      → MayStep (want c u) message → (want c u ≡ Starts) ⊎ (alternate ≡ 0)
      → steps c alternate (last_of ds) u message memory ≡ Went v later → upright false ds v
  pub held : (ds : List Copy) (u : Standing) (alternate : ℕ) (message : Option ℤ) (memory : Common) (v : Standing) → upright false ds u
      → MayStep (want c u) message → (want c u ≡ Starts) ⊎ (alternate ≡ 0)
      → steps c alternate (last_of ds) u message memory ≡ Held v → upright true ds v
  pub enters : (ds : List Copy) (u : Standing) (facts : Facts) (t : ℕ) → upright false ds u → want c u ≡ Enters facts
      → upright false (ds ++ copied (kept_last t (entered_at u)) ∷ []) (kept_last t (entered_at u))
  pub settles_finish : (ds : List Copy) (u : Standing) → upright true ds u
      → IsFinished
      (execute c (sight (accepted_touched u) 0 (last_of (without_last ds)) None) (most_steps c) u.at [] (memory_of (accepted_touched u) []))
  pub leaves : (ds : List Copy) (u : Standing) → upright true ds u
      → upright false (without_last ds) (settles c (last_of (without_last ds)) (accepted_touched u))
  pub releases : (line : Bool) (u : Standing) → upright line [] u → upright line [] (released u)
  pub back : (line : Bool) (ds : List Copy) (u : Standing) (j : ℕ) (y : Copy) → upright line ds u → slice_get ds j ≡ Some y
      → upright false (take (suc j) ds) (restored (cut_touched (suc j) u) y)
  pub falls : (u : Standing) → upright false [] u → upright false [] (cut_touched 0 u)
  pub opens : (p : ℕ) (part : Part) → slice_get c.processes p ≡ Some part → upright false [] (settles c None (opening_standing p part))

module _ (tree : Tree) (slots : List Slot) (c : Code) where
  -- a copy of process p in the tree and in the machine
  pub record CopyTogether (p : ℕ) (x : State) (y : Copy) : Type 0 where
    pub process : x.process ≡ p
    pub meets : Meets tree slots c p x y.at y.words y.calls
    pub settled : IsSettled x.items
    pub mail : HasOwnMail c p x

  -- The machine stands upright, and each start and test that is left has its copy, in the very frames; or the process fell while one was
  -- left, and has no copy.
  pub data StandsOrFell (upright : Uprightness) (line : Bool) (cs : List State) (s : State) (ds : List Copy) (u : Standing) : Type 0 where
    Whole : left_in s ≡ onto [] (with_test line (stacks_at cs)) → upright line ds u → StandsOrFell upright line cs s ds u
    Fell : line ≡ false → cs ≡ [] → (left_in s ≡ [] → ⊥) → StandsOrFell upright line cs s ds u

  pub record StandTogether (upright : Uprightness) (line : Bool) (cs : List State) (s : State) (ds : List Copy) (u : Standing) : Type 0 where
    pub process : s.process ≡ u.process
    pub meets : Meets tree slots c u.process s u.at u.words u.calls
    pub settled : line ≡ false → IsSettled s.items
    pub mail : HasOwnMail c u.process s
    pub copies : Pairs (CopyTogether u.process) cs ds
    pub points : PointsLie [] cs
    pub stands : StandsOrFell upright line cs s ds u

  -- where a test stands first there is a copy in the frames of the state, whose words the machine sees
  abbrev pub PriorFor : Standing → State → List Item → Option State → Option Copy → Type 0
  PriorFor u s (TestOf block ∷ rest) x y =
      (copy : State) × (seen : Copy) × (x ≡ Some copy) × (y ≡ Some seen) × IsPrior tree c u.process s u.calls copy seen.words u.calls
  PriorFor u s items x y = Unit {0}

  -- a turn stops with what meets the settled state
  pub record StopsWith (u : Standing) (see : Sight) (before : Slots) (t : State) (after : Slots) : Type 0 where
    pub to : ℕ
    pub later : Workspace
    pub ends : EndsIn c see (u.at + 1) [] (memory_of u before) (Stopped to later)
    pub meets : Meets tree slots c u.process (settle t) to later.words later.calls
    pub settled : IsSettled (settle t).items
    pub held : later.held ≡ t.held
    pub slots_are : later.slots ≡ after

  -- a turn ends where a test held
  pub record AcceptsWith (u : Standing) (see : Sight) (before : Slots) (t : State) : Type 0 where
    pub to : ℕ
    pub later : Workspace
    pub ends : EndsIn c see (u.at + 1) [] (memory_of u before) (Accepts to later)
    pub meets : Meets tree slots c u.process t to later.words later.calls
    pub held : later.held ≡ t.held

  -- what the instructions behind a `turn` come to, by what the step of the meaning comes to
  abbrev pub ComesTo : Standing → Sight → Slots → Stepped State (Nothing × Slots) → Type 0
  ComesTo u see before (Trapped cause) = EndsIn c see (u.at + 1) [] (memory_of u before) (Trap cause)
  ComesTo u see before (Went t m) = StopsWith u see before t m.1
  ComesTo u see before (Held t) = AcceptsWith u see before t

  -- What is asked of one step.
  abbrev pub StepsCome : Type 0
  StepsCome = (u : Standing) (s : State) (alternate : ℕ) (x : Option State) (y : Option Copy) (message : Option ℤ) (before : Slots)
      → IsOwn tree u.process s → HasOwnMail c u.process s → u.held ≡ s.held → Meets tree slots c u.process s u.at u.words u.calls → IsSettled s.items
      → PriorFor u s s.items x y → MayStep (wants_first tree s.items) message → (wants_first tree s.items ≡ Starts) ⊎ (alternate ≡ 0)
      → ComesTo u (sight u alternate y message) before
      (stepped_with_slots (tree_kind tree) s before (step tree alternate (environment_of x) s message))
