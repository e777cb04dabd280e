-- What a step comes to in the meaning and in the machine: the same trap, or a state and words that meet once both have settled.
use Rattle.std.proofs.Common.{◌≡◌, ◌⊎◌, inl, inr, ◌<◌, ◌≤◌, ℕ, ℤ, pos, List, [], ◌∷◌, length, slice_get, unwrap_or, Option, Some, Result, Ok, Err, refl, sym, ap, ◌∙◌, subst, arith}
use Rattle.rb_base.specs.declared.event.Cause.{Cause}
use Rattle.rb_base.specs.Limits.{most_words}
use Rattle.rb_world.proofs.ListFacts.{slice_get-front}
use Rattle.rb_world.specs.Kind.{Ends}
use Rattle.rb_world.specs.Slots.{Slots}
use Rattle.rb_syntax.specs.Tree.{Tree}
use Rattle.rb_meaning.specs.Environment.{Environment, pop_call, pop_frame, words}
use Rattle.rb_meaning.specs.Value.{and_then}
use Rattle.rb_meaning.specs.State.{Item, Perform, StartOf, TestOf, EndBlock, EndCall, State, continue_with, settle, settle_items, with_environment}
use Rattle.rb_scope.specs.Frames.{shape_of}
use Rattle.rb_scope.specs.declared.slot.Slot.{Slot}
use Rattle.rb_code.specs.Instructions.Plain.{Code, Part}
use Rattle.rb_code.specs.WordMachine.Workspace.{Counting, Workspace, OpenCall, cursor_place, held_place, part_of, place_among, variables_place, word_at}
use Rattle.rb_code.specs.WordMachine.Act.{Sight, Stopped, Trapped}
use Rattle.rb_code.specs.declared.instr.Instr.TheVariants.{Done, Turn}
use Rattle.rb_code.proofs.Agreeing.Leads.{EndsIn, Leads, ends, leads_to_end}
use Rattle.rb_code.proofs.Agreeing.ResultsReached.{Comes, recounted}
use Rattle.rb_code.proofs.InWords.LaidOut.{Laid, flat, stacks_of}
use Rattle.rb_code.proofs.Agreeing.TextLeft.{IsSettled, Left}
use Rattle.rb_code.proofs.Agreeing.StatesMeet.{Meets, WordsMeet}
use Rattle.rb_code.proofs.InWords.Environments.{laid_long}
use Rattle.rb_code.proofs.Agreeing.Settles.{IsTurn, settles, with_calls}

-- the held length and the cursors are words of the front
pub front_word : (part : Part) (front : List ℤ) (env : Environment) (all : List ℤ) (calls : List OpenCall) (k : ℕ) → Laid part front env all calls
    → k < variables_place part → word_at all k ≡ word_at front k
front_word part front env all calls k l h =
    ap (λ ws. word_at ws k) l.is ∙ ap (λ o. unwrap_or o (pos 0)) (slice_get-front front (flat env) k (subst (λ n. k < n) (sym l.long) h))

pub same_front : (part : Part) (front : List ℤ) (env other : Environment) (all others : List ℤ) (calls opened : List OpenCall) (k : ℕ)
    → Laid part front env all calls → Laid part front other others opened → k < variables_place part → word_at others k ≡ word_at all k
same_front part front env other all others calls opened k l m h =
    front_word part front other others opened k m h ∙ sym (front_word part front env all calls k l h)

-- ends of blocks and calls leave the variables of the process
pub settle_globals : (items : List Item) (env : Environment) → (settle_items items env).1.globals ≡ env.globals
settle_globals [] env = refl
settle_globals (Perform command ∷ items) env = refl
settle_globals (StartOf block ∷ items) env = refl
settle_globals (TestOf block ∷ items) env = refl
settle_globals (EndBlock ∷ items) env = settle_globals items (pop_frame env)
settle_globals (EndCall ∷ items) env = settle_globals items (pop_call env)

-- Each channel of which process number p is an end has a cursor, and no channel has it as both.
pub record HasCursors (c : Code) (p : ℕ) : Type 0 where
  pub place : (channel : ℕ) (ends : Ends) → slice_get c.channels channel ≡ Some ends → (ends.sender ≡ p) ⊎ (ends.receiver ≡ p)
      → place_among channel (part_of c p).channels < length (part_of c p).channels
  pub apart : (channel : ℕ) (ends : Ends) → slice_get c.channels channel ≡ Some ends → ends.sender ≡ p → ends.receiver ≡ p → ⊥

pub cursor_in_front : (c : Code) (p channel : ℕ) (ends : Ends) → HasCursors c p → slice_get c.channels channel ≡ Some ends
    → (ends.sender ≡ p) ⊎ (ends.receiver ≡ p) → cursor_place (part_of c p) channel < variables_place (part_of c p)
cursor_in_front c p channel ends has e is = let h = has.place channel ends e is in omega arith

module _ (tree : Tree) (c : Code) (p : ℕ) (has : HasCursors c p) where
  -- other variables, whose words lie behind the same front
  pub words_again : (s : State) (all : List ℤ) (calls : List OpenCall) (w : WordsMeet tree c p s all calls)
      (env : Environment) (others : List ℤ) (opened : List OpenCall)
      → Laid (part_of c p) w.front env others opened → shape_of env.globals ≡ shape_of s.environment.globals → words env ≤ most_words c.edition
      → WordsMeet tree c p (with_environment env s) others opened
  words_again s all calls w env others opened l same few =
      let kept : (k : ℕ) → k < variables_place (part_of c p) → word_at others k ≡ word_at all k =
      λ k h. same_front (part_of c p) w.front s.environment env all others calls opened k w.laid l h in
      record {
        front = w.front;
        laid = l;
        globals = same ∙ w.globals;
        few = few;
        held = kept held_place (omega arith) ∙ w.held;
        sent = λ channel ends e is. kept _ (cursor_in_front c p channel ends has e (inl is)) ∙ w.sent channel ends e is;
        taken = λ channel ends e is. kept _ (cursor_in_front c p channel ends has e (inr is)) ∙ w.taken channel ends e is;
      }

  -- what is left is another text
  pub words_continue : (s : State) (all : List ℤ) (calls : List OpenCall) (items : List Item) → WordsMeet tree c p s all calls
      → WordsMeet tree c p (continue_with items s) all calls
  words_continue s all calls items w = record {
    front = w.front;
    laid = w.laid;
    globals = w.globals;
    few = w.few;
    held = w.held;
    sent = w.sent;
    taken = w.taken;
  }

module _ (tree : Tree) (slots : List Slot) (c : Code) (see : Sight) (has : HasCursors c see.process) where
  -- a state and the memory of a turn
  pub record InTurn (s : State) (m : Workspace) : Type 0 where
    pub words_meet : WordsMeet tree c see.process s m.words m.calls
    pub held : m.held ≡ s.held
    pub two : length m.counters ≡ 2

  abbrev pub IsLeft : State → Workspace → ℕ → Type 0
  IsLeft s m a = Left tree slots c see.process (stacks_of s.environment.calls) s.items m.calls a

  -- the machine stops with what meets a settled state
  pub record Reached (a : ℕ) (os : List ℤ) (m : Workspace) (s : State) (stored : Slots) : Type 0 where
    pub to : ℕ
    pub later : Workspace
    pub ends : EndsIn c see a os m (Stopped to later)
    pub meets : Meets tree slots c see.process s to later.words later.calls
    pub settled : IsSettled s.items
    pub stops : IsTurn c to ⊎ (slice_get c.instrs to ≡ Some Done)
    pub held : later.held ≡ s.held
    pub slots_are : later.slots ≡ stored

  abbrev pub Took : ℕ → List ℤ → Workspace → (State → Slots) → Result State Cause → Type 0
  Took a os m stored (Ok s) = Reached a os m (settle s) (stored s)
  Took a os m stored (Err cause) = EndsIn c see a os m (Trapped cause)

  pub took_from : (a b : ℕ) (os ps : List ℤ) (m n : Workspace) (stored : State → Slots) (o : Result State Cause) → Leads c see a os m b ps n
      → Took b ps n stored o → Took a os m stored o
  took_from a b os ps m n stored (Ok s) l r = record {
    to = r.to;
    later = r.later;
    ends = leads_to_end c see l r.ends;
    meets = r.meets;
    settled = r.settled;
    stops = r.stops;
    held = r.held;
    slots_are = r.slots_are;
  }
  took_from a b os ps m n stored (Err cause) l r = leads_to_end c see l r

  -- a value goes on
  pub took_on : {A : Type 0} (a d : ℕ) (os : List ℤ) (m : Workspace) (f : A → List ℤ) (g : A → Workspace) (stored : State → Slots) (o : Result A Cause)
      (h : A → Result State Cause) → Comes c see 0 a os m d f g o
      → ((x : A) (later : List (Option Counting)) → o ≡ Ok x → length later ≡ length m.counters → Took d (f x) (recounted later (g x)) stored (h x))
      → Took a os m stored (and_then o h)
  took_on a d os m f g stored (Ok x) h l r =
      took_from a d os (f x) m (recounted l.0 (g x)) stored (h x) l.2 (r x l.0 refl l.1.many)
  took_on a d os m f g stored (Err cause) h l r = l

  pub same_took : (a : ℕ) (os : List ℤ) (m : Workspace) (stored : State → Slots) (o other : Result State Cause) → o ≡ other
      → Took a os m stored o → Took a os m stored other
  same_took a os m stored o other e t = subst (λ x. Took a os m stored x) e t

  -- where it stops
  stops_here : (a : ℕ) (m : Workspace) → (IsTurn c a ⊎ (slice_get c.instrs a ≡ Some Done)) → EndsIn c see a [] m (Stopped a m)
  stops_here a m (inl turn) = ends c see Turn a [] m (Stopped a m) turn refl refl
  stops_here a m (inr done) = ends c see Done a [] m (Stopped a m) done refl refl

  -- what is left is settled
  pub arrives : (s : State) (a : ℕ) (m : Workspace) (stored : State → Slots) → InTurn s m → IsLeft s m a → m.slots ≡ stored s → Took a [] m stored (Ok s)
  arrives s a m stored turn left same =
      let w = turn.words_meet in
      let p = see.process in
      let r = settles c see tree slots p w.front s.items s.environment (stacks_of s.environment.calls) refl a m m.words m.calls left w.laid in
      let env = (settle_items s.items s.environment).1 in
      let shorter = r.shorter in
      let few = w.few in
      let fewer : words env ≤ most_words c.edition =
      omega (
        arith,
        shorter,
        few,
        laid_long (part_of c p) w.front env r.words r.opened r.laid,
        laid_long (part_of c p) w.front s.environment m.words m.calls w.laid,
      ) in
      record {
        to = r.to;
        later = with_calls r.words r.opened m;
        ends = leads_to_end c see r.leads (stops_here r.to (with_calls r.words r.opened m) r.stops);
        meets = record {
          words_meet = words_continue tree c p has (with_environment env s) r.words r.opened (settle_items s.items s.environment).0
              (words_again tree c p has s m.words m.calls w env r.words r.opened r.laid (ap shape_of (settle_globals s.items s.environment)) fewer);
          left = r.left;
        };
        settled = r.settled;
        stops = r.stops;
        held = turn.held;
        slots_are = same;
      }
