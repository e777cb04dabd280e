-- What whole runs ask of one process: a relation between its state in the tree's meaning and what the word machine has of it, each with
-- the copies of its open levels, and the laws by which turns keep it. Held lines, kept turns and slots stand outside of it.
use Rattle.std.specs.Prelude.{◌≡◌, ◌⊎◌, ℕ, ℤ, pos, suc, Bool, true, false, List, [], ◌∷◌, ◌++◌, length, slice_get, take, Option, Some, None}
use Rattle.rb_syntax.specs.Tree.{ProcessDeclaration, Tree}
use Rattle.rb_world.specs.Kind.{Facts, Want, NothingLeft, SendsOn, ReceivesOn, MayReceiveOn, Enters, Starts, Acts, Stepped, Trapped, Went, Held}
use Rattle.rb_world.specs.World.{Running, Process, last_of, without_last}
use Rattle.rb_world.specs.Slots.{Slots, stepped_with_slots}
use Rattle.rb_world.proofs.Relating.Simulation.{copies_of}
use Rattle.rb_cache.specs.Copies.{accepted}
use Rattle.rb_meaning.specs.Environment.{global_words}
use Rattle.rb_meaning.specs.State.{State, settle, with_held, with_kept}
use Rattle.rb_meaning.specs.Step.{Nothing, enter, held_bytes, step, wants_first}
use Rattle.rb_meaning.specs.Meaning.{environment_of, opening_state, sent_on, taken_on, tree_kind}
use Rattle.rb_code.specs.Instructions.Plain.{Code, Part}
use Rattle.rb_code.specs.WordMachine.Workspace.{held_place, word_at}
use Rattle.rb_code.specs.WordMachine.Turn.{Common, Copy, Standing, settle as settles, step as steps, want}
use Rattle.rb_code.specs.WordMachine.WordKind.{copied, entered_at, released, restored, sent_by, taken_by}
use Rattle.rb_code.specs.WordMachine.WordRun.{opening_standing, variable_words}
use Rattle.rb_code.specs.declared.instr.Instr.TheVariants.{Done, Turn}
use Rattle.rb_code.proofs.WholeRuns.PointsLie.{LiesWell}

-- whether the process stands at a test line, where ends of blocks and calls may stand first; the copies of its levels, from the
-- outermost in, and the state; and the same of the word machine
abbrev pub Meeting : Type 1
Meeting = Bool → List State → State → List Copy → Standing → Type 0

-- another last kept turn, and other touched places, as levels go
abbrev pub kept_last : ℕ → Standing → Standing
kept_last t u = record u { last_kept = t }

abbrev pub cut_touched : ℕ → Standing → Standing
cut_touched n u = record u { touched = take n u.touched }

abbrev pub accepted_touched : Standing → Standing
accepted_touched u = record u { touched = accepted u.touched }

-- the machine rests at a `turn`, or where its process is done
abbrev pub IsAtRest : Code → Standing → Type 0
IsAtRest c u = (slice_get c.instrs u.at ≡ Some Turn) ⊎ (slice_get c.instrs u.at ≡ Some Done)

-- What stands first may step with this message: a receipt without an `else` has one, and nothing but receipts gets one.
abbrev pub MayStep : Want → Option ℤ → Type 0
MayStep NothingLeft message = ⊥
MayStep (SendsOn channel) message = message ≡ None
MayStep (ReceivesOn channel) message = (v : ℤ) × (message ≡ Some v)
MayStep (MayReceiveOn channel) message = Unit {0}
MayStep (Enters facts) message = ⊥
MayStep Starts message = message ≡ None
MayStep Acts message = message ≡ None

-- after a step that went on: the same slots and held lines, and the settled state meets what the machine has
pub record BothWent (meets : Meeting) (cs : List State) (s : State) (slots : Slots) (ds : List Copy) (u : Standing) (memory : Common) : Type 0 where
  pub same_slots : slots ≡ memory.slots
  pub same_lines : u.held ≡ s.held
  pub they_meet : meets false cs (settle s) ds u

-- after a test that held: the same held lines, and a meeting at the line
pub record BothHeld (meets : Meeting) (cs : List State) (s : State) (ds : List Copy) (u : Standing) : Type 0 where
  pub same_lines : u.held ≡ s.held
  pub they_meet : meets true cs s ds u

-- both trap alike, both went on, or both tests held
abbrev pub StepsAgree : Meeting → List State → List Copy → Stepped State (Nothing × Slots) → Stepped Standing Common → Type 0
StepsAgree meets cs ds (Trapped cause) (Trapped other) = cause ≡ other
StepsAgree meets cs ds (Trapped cause) (Went u n) = ⊥
StepsAgree meets cs ds (Trapped cause) (Held u) = ⊥
StepsAgree meets cs ds (Went s m) (Trapped other) = ⊥
StepsAgree meets cs ds (Went s m) (Went u n) = BothWent meets cs s m.1 ds u n
StepsAgree meets cs ds (Went s m) (Held u) = ⊥
StepsAgree meets cs ds (Held s) (Trapped other) = ⊥
StepsAgree meets cs ds (Held s) (Went u n) = ⊥
StepsAgree meets cs ds (Held s) (Held u) = BothHeld meets cs s ds u

-- The laws. What is known of a process in a run of the tree may be asked for in a step and an entry.
pub record IsAgreeing (tree : Tree) (c : Code) (meets : Meeting) : Type 0 where
  -- what may be seen of a meeting: what is wanted, what was sent and taken, now and at an entry, the variables, and in each copy the
  -- number of held bytes
  pub want : (cs : List State) (s : State) (ds : List Copy) (u : Standing) → meets false cs s ds u → wants_first tree s.items ≡ want c u
  pub rests : (cs : List State) (s : State) (ds : List Copy) (u : Standing) → meets false cs s ds u → IsAtRest c u
  pub sent : (line : Bool) (cs : List State) (s : State) (ds : List Copy) (u : Standing) (channel : ℕ) → meets line cs s ds u
      → length (sent_on s channel) ≡ sent_by c u.process u.words channel (slice_get c.channels channel)
  pub taken : (line : Bool) (cs : List State) (s : State) (ds : List Copy) (u : Standing) (channel : ℕ) → meets line cs s ds u
      → taken_on s channel ≡ taken_by c u.process u.words channel (slice_get c.channels channel)
  pub sent_then : (line : Bool) (cs : List State) (s : State) (ds : List Copy) (u : Standing) (channel j : ℕ) (x : State) (y : Copy)
      → meets line cs s ds u → slice_get cs j ≡ Some x → slice_get ds j ≡ Some y
      → length (sent_on x channel) ≡ sent_by c u.process y.words channel (slice_get c.channels channel)
  pub taken_then : (line : Bool) (cs : List State) (s : State) (ds : List Copy) (u : Standing) (channel j : ℕ) (x : State) (y : Copy)
      → meets line cs s ds u → slice_get cs j ≡ Some x → slice_get ds j ≡ Some y
      → taken_on x channel ≡ taken_by c u.process y.words channel (slice_get c.channels channel)
  pub variables : (line : Bool) (cs : List State) (s : State) (ds : List Copy) (u : Standing) → meets line cs s ds u
      → variable_words c u ≡ global_words s.environment
  pub mark : (line : Bool) (cs : List State) (s : State) (ds : List Copy) (u : Standing) (j : ℕ) (x : State) (y : Copy)
      → meets line cs s ds u → slice_get cs j ≡ Some x → slice_get ds j ≡ Some y → word_at y.words held_place ≡ pos (held_bytes x.held)
  -- kept turns are not seen
  pub keeps : (line : Bool) (cs : List State) (s : State) (ds : List Copy) (u : Standing) (kept : List (ℕ × ℕ)) (t : ℕ) → meets line cs s ds u
      → meets line cs (with_kept kept s) ds (kept_last t u)
  -- a step, an entry, and what follows an accepted level
  pub step : (p : ℕ) (q : Process State State) (alternate : ℕ) (message : Option ℤ) (memory : Common) (ds : List Copy) (u : Standing)
      → LiesWell tree p q → q.status ≡ Running → q.at_line ≡ false → MayStep (wants_first tree q.state.items) message
      → (wants_first tree q.state.items ≡ Starts) ⊎ (alternate ≡ 0) → u.held ≡ q.state.held → meets false (copies_of q.levels) q.state ds u
      → StepsAgree meets (copies_of q.levels) ds
      (stepped_with_slots (tree_kind tree) q.state memory.slots (step tree alternate (environment_of (last_of (copies_of q.levels))) q.state message))
      (steps c alternate (last_of ds) u message memory)
  pub enter : (p : ℕ) (q : Process State State) (facts : Facts) (ds : List Copy) (u : Standing) (kept : List (ℕ × ℕ)) (t : ℕ)
      → LiesWell tree p q → q.status ≡ Running → q.at_line ≡ false → wants_first tree q.state.items ≡ Enters facts
      → meets false (copies_of q.levels) q.state ds u
      → let x = with_kept kept (enter q.state) in
      let y = kept_last t (entered_at u) in
      meets false (copies_of q.levels ++ x ∷ []) x (ds ++ copied y ∷ []) y
  pub leave : (cs : List State) (s : State) (ds : List Copy) (u : Standing) → u.held ≡ s.held → meets true cs s ds u
      → meets false (without_last cs) (settle s) (without_last ds) (settles c (last_of (without_last ds)) (accepted_touched u))
  pub leave_lines : (cs : List State) (s : State) (ds : List Copy) (u : Standing) → u.held ≡ s.held → meets true cs s ds u
      → (settles c (last_of (without_last ds)) (accepted_touched u)).held ≡ u.held
  -- without a level held lines are released
  pub release : (line : Bool) (s : State) (u : Standing) → meets line [] s [] u → meets line [] (with_held [] s) [] (released u)
  -- a copy is put back, or all levels go
  pub back : (line : Bool) (cs : List State) (s : State) (ds : List Copy) (u : Standing) (j : ℕ) (x : State) (y : Copy)
      → meets line cs s ds u → slice_get cs j ≡ Some x → slice_get ds j ≡ Some y
      → meets false (take (suc j) cs) x (take (suc j) ds) (restored (cut_touched (suc j) u) y)
  pub fall : (cs : List State) (s : State) (ds : List Copy) (u : Standing) → meets false cs s ds u → meets false [] s [] (cut_touched 0 u)
  -- before the first turn
  pub opens : (p : ℕ) (process : ProcessDeclaration) (part : Part) → slice_get tree.processes p ≡ Some process → slice_get c.processes p ≡ Some part
      → meets false [] (settle (opening_state tree p process)) [] (settles c None (opening_standing p part))
  pub opens_empty : (p : ℕ) (process : ProcessDeclaration) (part : Part) → slice_get tree.processes p ≡ Some process
      → slice_get c.processes p ≡ Some part
      → (settles c None (opening_standing p part)).held ≡ []
