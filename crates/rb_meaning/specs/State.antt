-- The recoverable state of a process, which is what a rejection puts back (Horning, Lauer, Melliar-Smith, Randell 1974).
use Rattle.std.specs.Prelude.{ℕ, ℤ, List, [], ◌∷◌}
use Rattle.rb_syntax.specs.Tree.{Command, Commands, NoCommand, Then, RecoveryBlock}
use Rattle.rb_meaning.specs.Environment.{Environment, pop_frame, pop_call}

-- what is left of a process's text is a list of these
pub data Item : Type 0 where
  Perform : (command : Command) → Item
  StartOf : (block : RecoveryBlock) → Item
  TestOf : (block : RecoveryBlock) → Item
  EndBlock : Item
  EndCall : Item

-- Of which process it is; what is left of its text; its variables; for each channel the values that it sent, and how many
-- it took; its held lines; and its kept turns, each with the alternate that it started or 0.
pub record State : Type 0 where
  pub process : ℕ
  pub items : List Item
  pub environment : Environment
  pub sent : List (List ℤ)
  pub taken : List ℕ
  pub held : List (List ℕ)
  pub kept : List (ℕ × ℕ)

-- a list of statements, and then what is left after them
abbrev pub performed : Commands → List Item → List Item
performed NoCommand rest = rest
performed (Then first commands) rest = Perform first ∷ performed commands rest

-- the state with other items, another environment, or both
abbrev pub continue_with : List Item → State → State
continue_with items s =
    record { process = s.process; items = items; environment = s.environment; sent = s.sent; taken = s.taken; held = s.held; kept = s.kept }

-- the state with another environment
abbrev pub with_environment : Environment → State → State
with_environment env s =
    record { process = s.process; items = s.items; environment = env; sent = s.sent; taken = s.taken; held = s.held; kept = s.kept }

-- the state with other values sent
abbrev pub with_sent : List (List ℤ) → State → State
with_sent sent s =
    record { process = s.process; items = s.items; environment = s.environment; sent = sent; taken = s.taken; held = s.held; kept = s.kept }

-- the state with other numbers taken
abbrev pub with_taken : List ℕ → State → State
with_taken taken s =
    record { process = s.process; items = s.items; environment = s.environment; sent = s.sent; taken = taken; held = s.held; kept = s.kept }

-- the state with other held lines
abbrev pub with_held : List (List ℕ) → State → State
with_held held s =
    record { process = s.process; items = s.items; environment = s.environment; sent = s.sent; taken = s.taken; held = held; kept = s.kept }

-- the state with other kept turns
abbrev pub with_kept : List (ℕ × ℕ) → State → State
with_kept kept s =
    record { process = s.process; items = s.items; environment = s.environment; sent = s.sent; taken = s.taken; held = s.held; kept = kept }

-- Ends of blocks and calls that stand first are taken away, each with its frame or its call.
abbrev pub settle_items : List Item → Environment → List Item × Environment
settle_items [] env = ([], env)
settle_items (Perform command ∷ items) env = (Perform command ∷ items, env)
settle_items (StartOf block ∷ items) env = (StartOf block ∷ items, env)
settle_items (TestOf block ∷ items) env = (TestOf block ∷ items, env)
settle_items (EndBlock ∷ items) env = settle_items items (pop_frame env)
settle_items (EndCall ∷ items) env = settle_items items (pop_call env)

-- the state with what is left of its text and its variables after settling
abbrev pub with_settled : State → List Item × Environment → State
with_settled s (items, env) = with_environment env (continue_with items s)

-- the state once ends of blocks and calls that stand first were taken away, which costs no turn
abbrev pub settle : State → State
settle s = with_settled s (settle_items s.items s.environment)
