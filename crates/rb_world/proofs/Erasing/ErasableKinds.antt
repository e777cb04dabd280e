-- What erasure asks of a kind of process state. The parts of a kind are given once; from them come the kind whose recovery
-- points are whole states, and the plain kind, whose points hold lengths, numbers and the environment at entry.
use Rattle.std.specs.Prelude.{◌≡◌, ◌<◌, ◌≤◌, ◌+◌, ℕ, ℤ, nat_eq, Bool, true, false, cond, List, [], ◌∷◌, ◌++◌, slice_get, Option, Some, None}
use Rattle.std.specs.Option.{option_map}
use Rattle.std.specs.List.{list_any}
use Rattle.rb_world.specs.Kind.{Ends, Facts, Kind, Membership, Want, NothingLeft, SendsOn, ReceivesOn, MayReceiveOn, Enters, Starts, Acts, Stepped, Went, Held}
use Rattle.rb_world.specs.World.{Level, Running, Process, World, last_of, copy_of}
use Rattle.rb_world.specs.Reject.{parent_of}
use Rattle.rb_world.specs.Nested.{IsLevelOf, AreNested}
use Rattle.rb_world.specs.Turn.{members_of}
use Rattle.rb_world.specs.Plain.{alternates_of}
use Rattle.rb_world.proofs.TurnFacts.{StepsAt}

-- there is no memory beside the processes
abbrev pub Nothing : Type 0
Nothing = Unit {0}

-- The parts of a kind: S is a process's state, E what `prior` reads, and P the point that a plain run keeps of an entry.
pub record Parts (S E P : Type 0) : Type 0 where
  pub channels : List Ends
  pub groups : List Membership
  pub want : S → Want
  pub settle : S → S
  pub enter : S → S
  pub environment : S → E
  pub step : ℕ → Option E → S → Option ℤ → Stepped S Nothing
  pub sent : S → ℕ → ℕ
  pub taken : S → ℕ → ℕ
  pub message : S → ℕ → ℕ → ℤ
  pub held : S → List (List ℕ)
  pub release : S → S
  pub keep : ℕ → ℕ → S → S
  pub kept : S → List (ℕ × ℕ)
  pub point : S → P
  pub point_environment : P → E
  pub point_sent : P → ℕ → ℕ
  pub point_taken : P → ℕ → ℕ

-- recovery points are whole states
abbrev pub whole : {S E P : Type 0} → Parts S E P → Kind S S Nothing
whole x = record {
  channels = x.channels;
  groups = x.groups;
  want = x.want;
  settle = λ copy s. x.settle s;
  enter = x.enter;
  copy = λ s. s;
  restore = λ s copy. copy;
  cut = λ n s. s;
  accept = λ s. s;
  step = λ alternate copy s message memory. x.step alternate (option_map x.environment copy) s message;
  sent = x.sent;
  taken = x.taken;
  sent_then = λ s copy c. x.sent copy c;
  taken_then = λ s copy c. x.taken copy c;
  message = λ memory s c n. x.message s c n;
  message_then = λ memory s copy c n. x.message copy c n;
  held = x.held;
  release = x.release;
  keep = λ t alternate s memory. (x.keep t alternate s, memory);
}

-- recovery points are marks of an entry, and nothing is ever put back
abbrev pub plain : {S E P : Type 0} → Parts S E P → Kind S P Nothing
plain x = record {
  channels = x.channels;
  groups = x.groups;
  want = x.want;
  settle = λ point s. x.settle s;
  enter = x.enter;
  copy = x.point;
  restore = λ s point. s;
  cut = λ n s. s;
  accept = λ s. s;
  step = λ alternate point s message memory. x.step alternate (option_map x.point_environment point) s message;
  sent = x.sent;
  taken = x.taken;
  sent_then = λ s point c. x.point_sent point c;
  taken_then = λ s point c. x.point_taken point c;
  message = λ memory s c n. x.message s c n;
  message_then = λ memory s point c n. x.message s c n;
  held = x.held;
  release = x.release;
  keep = λ t alternate s memory. (x.keep t alternate s, memory);
}

-- how many values a step sends on a channel, by what stood first
abbrev pub sends_by : Want → ℕ → ℕ
sends_by NothingLeft c = 0
sends_by (SendsOn d) c = cond (nat_eq d c) 1 0
sends_by (ReceivesOn d) c = 0
sends_by (MayReceiveOn d) c = 0
sends_by (Enters facts) c = 0
sends_by Starts c = 0
sends_by Acts c = 0

-- how many it takes from a channel; a receipt that finds nothing takes none
abbrev pub takes_if : Option ℤ → Bool → ℕ
takes_if None here = 0
takes_if (Some v) here = cond here 1 0

abbrev pub takes_by : Want → Option ℤ → ℕ → ℕ
takes_by NothingLeft message c = 0
takes_by (SendsOn d) message c = 0
takes_by (ReceivesOn d) message c = takes_if message (nat_eq d c)
takes_by (MayReceiveOn d) message c = takes_if message (nat_eq d c)
takes_by (Enters facts) message c = 0
takes_by Starts message c = 0
takes_by Acts message c = 0

-- the messages of one state are the first of another's
pub record IsFront {S E P : Type 0} (x : Parts S E P) (s later : S) : Type 0 where
  pub shorter : (c : ℕ) → x.sent s c ≤ x.sent later c
  pub same : (c n : ℕ) → n < x.sent s c → x.message later c n ≡ x.message s c n

-- two states have sent and taken the same
pub record SameMail {S E P : Type 0} (x : Parts S E P) (s t : S) : Type 0 where
  pub sent : (c : ℕ) → x.sent t c ≡ x.sent s c
  pub taken : (c : ℕ) → x.taken t c ≡ x.taken s c
  pub messages : (c n : ℕ) → x.message t c n ≡ x.message s c n

-- a change that leaves mail, held lines and kept turns alone
pub record LeavesAlone {S E P : Type 0} (x : Parts S E P) (s t : S) : Type 0 where
  pub mail : SameMail x s t
  pub held : x.held t ≡ x.held s
  pub kept : x.kept t ≡ x.kept s

-- what a step that went on changes
pub record Moves {S E P : Type 0} (x : Parts S E P) (message : Option ℤ) (s t : S) : Type 0 where
  pub front : IsFront x s t
  pub sent : (c : ℕ) (ends : Ends) → slice_get x.channels c ≡ Some ends → x.sent t c ≡ x.sent s c + sends_by (x.want s) c
  pub taken : (c : ℕ) (ends : Ends) → slice_get x.channels c ≡ Some ends → x.taken t c ≡ x.taken s c + takes_by (x.want s) message c
  pub kept : x.kept t ≡ x.kept s

-- a process that is a receiver by what stands first
abbrev pub receives_on : Want → Option ℕ
receives_on NothingLeft = None
receives_on (SendsOn c) = None
receives_on (ReceivesOn c) = Some c
receives_on (MayReceiveOn c) = Some c
receives_on (Enters facts) = None
receives_on Starts = None
receives_on Acts = None

-- The laws. `Known` is what is known of each process, by its number, in every world of a run of the whole kind.
pub record IsErasable {S E P : Type 0} (x : Parts S E P) (Known : ℕ → Process S S → Type 0) : Type 0 where
  -- a plain point has what may be asked of an entry
  pub point_environment : (s : S) → x.point_environment (x.point s) ≡ x.environment s
  pub point_sent : (s : S) (c : ℕ) → x.point_sent (x.point s) c ≡ x.sent s c
  pub point_taken : (s : S) (c : ℕ) → x.point_taken (x.point s) c ≡ x.taken s c
  -- only steps change mail, held lines and kept turns, but that kept turns are kept and held lines released
  pub settles : (s : S) → LeavesAlone x s (x.settle s)
  pub enters : (s : S) → LeavesAlone x s (x.enter s)
  pub keeps_mail : (t alternate : ℕ) (s : S) → SameMail x s (x.keep t alternate s)
  pub keeps_held : (t alternate : ℕ) (s : S) → x.held (x.keep t alternate s) ≡ x.held s
  pub keeps : (t alternate : ℕ) (s : S) → x.kept (x.keep t alternate s) ≡ x.kept s ++ (t, alternate) ∷ []
  pub releases_mail : (s : S) → SameMail x s (x.release s)
  pub releases_kept : (s : S) → x.kept (x.release s) ≡ x.kept s
  pub releases : (s : S) → x.held (x.release s) ≡ []
  pub releases_none : (s : S) → x.held s ≡ [] → x.release s ≡ s
  -- what a step does
  pub goes : (p : ℕ) (q : Process S S) (w : World S S Nothing) (alternate : ℕ) (message : Option ℤ) (s : S) → Known p q
      → StepsAt (whole x) p q w alternate message
      → x.step alternate (option_map x.environment (copy_of (last_of q.levels))) q.state message ≡ Went s tt
      → Moves x message q.state s
  pub holds : (p : ℕ) (q : Process S S) (w : World S S Nothing) (alternate : ℕ) (message : Option ℤ) (s : S) → Known p q
      → StepsAt (whole x) p q w alternate message → x.step alternate (option_map x.environment (copy_of (last_of q.levels))) q.state message ≡ Held s
      → LeavesAlone x q.state s
  -- a test is no receipt, and no start
  pub holds_acting : (p : ℕ) (q : Process S S) (alternate : ℕ) (point : Option E) (message : Option ℤ) (s : S) → Known p q
      → x.step alternate point q.state message ≡ Held s → x.want q.state ≡ Acts
  -- a start that goes on, of who runs and stands at no line, has an alternate of its block
  pub starts : (p : ℕ) (q : Process S S) (alternate : ℕ) (point : Option E) (message : Option ℤ) (s : S) → Known p q
      → q.status ≡ Running → q.at_line ≡ false → x.want q.state ≡ Starts → x.step alternate point q.state message ≡ Went s tt
      → (1 ≤ alternate) × (alternate ≤ alternates_of (last_of q.levels))
  -- channels are used by their ends
  pub sends : (p : ℕ) (q : Process S S) (c : ℕ) (ends : Ends) → Known p q → x.want q.state ≡ SendsOn c
      → slice_get x.channels c ≡ Some ends → ends.sender ≡ p
  pub receives : (p : ℕ) (q : Process S S) (c : ℕ) (ends : Ends) → Known p q → receives_on (x.want q.state) ≡ Some c
      → slice_get x.channels c ≡ Some ends → ends.receiver ≡ p
  -- levels are nested, and are those of members
  pub nested : (p : ℕ) (q : Process S S) → Known p q → AreNested x.groups q.levels
  pub is_member : (p : ℕ) (q : Process S S) (i c : ℕ) → Known p q → IsLevelOf c q.levels i
      → list_any (nat_eq p) (members_of (slice_get x.groups c)) ≡ true
  -- who stands at no line and enters a conversation that lies in no other has no level
  pub outermost : (p : ℕ) (q : Process S S) (facts : Facts) (c : ℕ) → Known p q → q.at_line ≡ false
      → x.want q.state ≡ Enters facts → facts.conversation ≡ Some c
      → parent_of (slice_get x.groups c) ≡ None → q.levels ≡ []
  -- who has a level runs
  pub runs : (p : ℕ) (q : Process S S) (i : ℕ) (level : Level S) → Known p q → slice_get q.levels i ≡ Some level → q.status ≡ Running
