-- Two kinds of process state that are related: the laws under which they tell the same over whole runs.
--
-- A state with the copies of its levels, from the outside in, is related to a state with the copies of its levels, in the
-- two memories, and it may matter whether the process stands at a line. The memories are related on their own too. What is
-- `known` of the world on the left, in a turn that has been counted, may be asked for in a step, an entry and a receipt.
use Rattle.std.specs.Prelude.{◌≡◌, ◌≢◌, ◌⊎◌, ◌<◌, ℕ, ℤ, suc, Bool, true, false, List, [], ◌∷◌, ◌++◌, slice_get, take, Option, Some, None}
use Rattle.rb_world.specs.Kind.{Ends, Facts, Kind, ReceivesOn, MayReceiveOn, Enters, Starts, Stepped, Trapped, Went, Held}
use Rattle.rb_world.specs.World.{Level, Process, World, last_of, without_last}
use Rattle.rb_world.specs.Channels.{seen_copy}
use Rattle.rb_world.proofs.TurnFacts.{RunsAt, IsReady}

-- memories on both sides
abbrev pub Shared : Type 0 → Type 0 → Type 1
Shared M N = M → N → Type 0

-- at a line or not, the memories, and on both sides the copies with the state
abbrev pub Related : Type 0 → Type 0 → Type 0 → Type 0 → Type 0 → Type 0 → Type 1
Related S C M T D N = Bool → M → N → List C → S → List D → T → Type 0

-- turn, process, the process itself, and the world, once the turn was counted
abbrev pub Knowing : Type 0 → Type 0 → Type 0 → Type 1
Knowing S C M = ℕ → ℕ → Process S C → World S C M → Type 0

-- nothing is asked
abbrev pub nothing_known : {S C M : Type 0} → Knowing S C M
nothing_known t p q w = Unit {0}

-- the copies of levels
abbrev pub copies_of : {C : Type 0} → List (Level C) → List C
copies_of [] = []
copies_of (l ∷ ls) = l.copy ∷ copies_of ls

-- q has its turn, away from every line
pub record IsActing {S C M : Type 0} (known : Knowing S C M) (t p : ℕ) (q : Process S C) (w : World S C M) : Type 0 where
  pub knows : known t p q w
  pub runs : RunsAt p q w
  pub away : q.at_line ≡ false

-- the sender and the receiver of a channel on which q receives
pub record IsReceipt {S C M : Type 0} (k : Kind S C M) (q : Process S C) (w : World S C M) (c : ℕ) (sender receiver : Process S C) : Type 0 where
  pub ends : Ends
  pub channel : slice_get k.channels c ≡ Some ends
  pub sends : slice_get w.processes ends.sender ≡ Some sender
  pub receives : slice_get w.processes ends.receiver ≡ Some receiver
  pub wants : (k.want q.state ≡ ReceivesOn c) ⊎ (k.want q.state ≡ MayReceiveOn c)

-- What a change of process p leaves: memories, its states and copies, and all others as they were, in the new memories.
pub record StillMeets {S C M T D N : Type 0} (shared : Shared M N) (related : Related S C M T D N) (p : ℕ) (w : World S C M)
    (old : N) (line : Bool) (m : M) (n : N) (cs : List C) (s : S) (ds : List D) (t : T) : Type 0 where
  pub memories : shared m n
  pub states : related line m n cs s ds t
  pub others : (r : ℕ) (q : Process S C) (es : List D) (u : T) → r ≢ p → slice_get w.processes r ≡ Some q
      → related q.at_line w.memory old (copies_of q.levels) q.state es u
      → related q.at_line m n (copies_of q.levels) q.state es u

-- the same trap, or both went on or held, and what was kept is related
abbrev pub StepsMeet : {S C M T D N : Type 0} → Kind S C M → Kind T D N → Shared M N → Related S C M T D N → ℕ → ℕ → ℕ
    → World S C M → N → List C → List D → Stepped S M → Stepped T N → Type 0
StepsMeet k l shared related t p alternate w old cs ds (Trapped c) (Trapped d) = c ≡ d
StepsMeet k l shared related t p alternate w old cs ds (Trapped c) (Went u n) = ⊥
StepsMeet k l shared related t p alternate w old cs ds (Trapped c) (Held u) = ⊥
StepsMeet k l shared related t p alternate w old cs ds (Went s m) (Trapped d) = ⊥
StepsMeet k l shared related t p alternate w old cs ds (Went s m) (Went u n) =
    let x = k.keep t alternate s m in
    let y = l.keep t alternate u n in
    StillMeets shared related p w old false x.1 y.1 cs (k.settle (last_of cs) x.0) ds (l.settle (last_of ds) y.0)
StepsMeet k l shared related t p alternate w old cs ds (Went s m) (Held u) = ⊥
StepsMeet k l shared related t p alternate w old cs ds (Held s) (Trapped d) = ⊥
StepsMeet k l shared related t p alternate w old cs ds (Held s) (Went u n) = ⊥
StepsMeet k l shared related t p alternate w old cs ds (Held s) (Held u) =
    let x = k.keep t alternate s w.memory in
    let y = l.keep t alternate u old in
    StillMeets shared related p w old true x.1 y.1 cs x.0 ds y.0

-- The laws that a plain run needs, in which nothing is put back.
pub record IsPlainSimulation {S C M T D N : Type 0} (k : Kind S C M) (l : Kind T D N) (shared : Shared M N)
    (related : Related S C M T D N) (known : Knowing S C M) : Type 0 where
  pub channels : k.channels ≡ l.channels
  pub groups : k.groups ≡ l.groups
  pub want : (m : M) (n : N) (cs : List C) (s : S) (ds : List D) (u : T) → related false m n cs s ds u → k.want s ≡ l.want u
  -- as many values were sent and taken; of the copies it is the outermost that room is counted from
  pub sent : (line : Bool) (m : M) (n : N) (cs : List C) (s : S) (ds : List D) (u : T) (c : ℕ) → related line m n cs s ds u
      → k.sent s c ≡ l.sent u c
  pub taken : (line : Bool) (m : M) (n : N) (cs : List C) (s : S) (ds : List D) (u : T) (c : ℕ) → related line m n cs s ds u
      → k.taken s c ≡ l.taken u c
  pub sent_then : (line : Bool) (m : M) (n : N) (cs : List C) (s : S) (ds : List D) (u : T) (c j : ℕ) (x : C) (y : D)
      → related line m n cs s ds u → slice_get cs j ≡ Some x → slice_get ds j ≡ Some y → k.sent_then s x c ≡ l.sent_then u y c
  pub taken_then : (line : Bool) (m : M) (n : N) (x : C) (cs : List C) (s : S) (y : D) (ds : List D) (u : T) (c : ℕ)
      → related line m n (x ∷ cs) s (y ∷ ds) u → k.taken_then s x c ≡ l.taken_then u y c
  -- the message that is taken next is the same
  pub message : (t p : ℕ) (q : Process S C) (w : World S C M) (c : ℕ) (sender receiver : Process S C) (n : N) (ds : List D) (u : T)
      → IsActing known t p q w → IsReceipt k q w c sender receiver → shared w.memory n
      → related sender.at_line w.memory n (copies_of sender.levels) sender.state ds u
      → seen_copy sender.levels receiver.levels ≡ None → k.taken receiver.state c < k.sent sender.state c
      → k.message w.memory sender.state c (k.taken receiver.state c) ≡ l.message n u c (k.taken receiver.state c)
  pub message_then : (t p : ℕ) (q : Process S C) (w : World S C M) (c : ℕ) (sender receiver : Process S C) (n : N)
      (ds : List D) (u : T) (j : ℕ) (x : C) (y : D)
      → IsActing known t p q w → IsReceipt k q w c sender receiver → shared w.memory n
      → related sender.at_line w.memory n (copies_of sender.levels) sender.state ds u
      → seen_copy sender.levels receiver.levels ≡ Some x → slice_get (copies_of sender.levels) j ≡ Some x → slice_get ds j ≡ Some y
      → k.taken receiver.state c < k.sent_then sender.state x c
      → k.message_then w.memory sender.state x c (k.taken receiver.state c) ≡ l.message_then n u y c (k.taken receiver.state c)
  -- a step at the same alternate, with the same message
  pub step : (t p : ℕ) (q : Process S C) (w : World S C M) (alternate : ℕ) (message : Option ℤ) (n : N) (ds : List D) (u : T)
      → IsActing known t p q w → IsReady k q w message → (k.want q.state ≡ Starts) ⊎ (alternate ≡ 0) → shared w.memory n
      → related false w.memory n (copies_of q.levels) q.state ds u
      → StepsMeet k l shared related t p alternate w n (copies_of q.levels) ds
      (k.step alternate (last_of (copies_of q.levels)) q.state message w.memory) (l.step alternate (last_of ds) u message n)
  pub enter : (t p : ℕ) (q : Process S C) (w : World S C M) (facts : Facts) (n : N) (ds : List D) (u : T)
      → IsActing known t p q w → k.want q.state ≡ Enters facts → shared w.memory n
      → related false w.memory n (copies_of q.levels) q.state ds u
      → let x = k.keep t 0 (k.enter q.state) w.memory in
      let y = l.keep t 0 (l.enter u) n in
      StillMeets shared related p w n false x.1 y.1 (copies_of q.levels ++ k.copy x.0 ∷ []) x.0 (ds ++ l.copy y.0 ∷ []) y.0
  -- the innermost level was accepted, of a private block or by all members
  pub leave : (m : M) (n : N) (cs : List C) (s : S) (ds : List D) (u : T) → related true m n cs s ds u
      → related false m n (without_last cs) (k.settle (last_of (without_last cs)) (k.accept s)) (without_last ds)
      (l.settle (last_of (without_last ds)) (l.accept u))
  -- without a level the same lines are held, and they are released
  pub held : (line : Bool) (m : M) (n : N) (s : S) (u : T) → related line m n [] s [] u → k.held s ≡ l.held u
  pub release : (line : Bool) (m : M) (n : N) (s : S) (u : T) → related line m n [] s [] u → related line m n [] (k.release s) [] (l.release u)

-- And those of rejections.
pub record IsSimulation {S C M T D N : Type 0} (k : Kind S C M) (l : Kind T D N) (shared : Shared M N)
    (related : Related S C M T D N) (known : Knowing S C M) : Type 0 where
  pub plain : IsPlainSimulation k l shared related known
  pub open plain use *
  -- a copy is put back, and the levels inside it go
  pub back : (line : Bool) (m : M) (n : N) (cs : List C) (s : S) (ds : List D) (u : T) (j : ℕ) (x : C) (y : D)
      → related line m n cs s ds u → slice_get cs j ≡ Some x → slice_get ds j ≡ Some y
      → related false m n (take (suc j) cs) (k.restore (k.cut (suc j) s) x) (take (suc j) ds) (l.restore (l.cut (suc j) u) y)
  -- a process falls away from every line
  pub fall : (m : M) (n : N) (cs : List C) (s : S) (ds : List D) (u : T) → related false m n cs s ds u
      → related false m n [] (k.cut 0 s) [] (l.cut 0 u)
