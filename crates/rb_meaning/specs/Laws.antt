-- The laws of the meaning, of every nested program and every list of turns.
-- That members of a conversation go on together and go back together, and that conversations nest, is Randell's (1975);
-- that an alternate which fails leaves no trace is from Horning, Lauer, Melliar-Smith, Randell (1974).
use Rattle.std.specs.Prelude.{◌≡◌, ◌≤◌, ◌+◌, ℕ, Bool, true, false, List, [], ◌∷◌, ◌++◌, length, map, filter, reverse, slice_get, Some, Ok}
use Rattle.rb_base.specs.declared.event.Event.{Event}
use Rattle.rb_base.specs.declared.event.Event.TheVariants.{Reject, RejectAll, Error, Pass, Done}
use Rattle.rb_syntax.specs.Tree.{RecoveryBlock, Tree}
use Rattle.rb_world.specs.Kind.{Ends, Kind}
use Rattle.rb_world.specs.World.{Level, Process, World, without_last}
use Rattle.rb_world.specs.Channels.{seen_copy, seen_count}
use Rattle.rb_world.specs.Turn.{Told, opening, run, turn}
use Rattle.rb_world.specs.Slots.{Slots, AllLieInSlots, from_slots, with_slots, zero_slots}
use Rattle.rb_world.specs.Plain.{Ended}
use Rattle.rb_world.specs.Standing.{is_failed}
use Rattle.rb_world.specs.Nested.{AreNested}
use Rattle.rb_world.specs.Present.{IsPresent}
use Rattle.rb_world.specs.Together.{GoTogether, HasLevel, LeavesOutsiders}
use Rattle.rb_world.specs.Erased.{Rises, numbered, released_in}
use Rattle.rb_world.specs.Text.{outs_text, values_text}
use Rattle.rb_meaning.specs.State.{Item, Perform, StartOf, TestOf, EndBlock, EndCall, State}
use Rattle.rb_meaning.specs.Groups.{channels_of, facts_of, groups_of}
use Rattle.rb_meaning.specs.Step.{Nothing}
use Rattle.rb_meaning.specs.Meaning.{TreeWorld, final_of, opening_states, naming_of, run_of, states_of, survivors, taken_on, tree_kind}
use Rattle.rb_meaning.specs.PlainRun.{PlainWorld, plain_of, plain_text}
use Rattle.rb_meaning.specs.Nesting.{IsNested, alternates_of}
use Rattle.rb_base.specs.declared.event.TheConstants.{MOST_EVENTS}
use Rattle.rb_base.specs.declared.limits.TheConstants.{MOST_OPEN_LEVELS, MOST_PROCESSES_SECOND}

-- the recovery blocks whose start or acceptance test is left, the innermost first
abbrev pub blocks_left : List Item → List RecoveryBlock
blocks_left [] = []
blocks_left (Perform command ∷ items) = blocks_left items
blocks_left (StartOf block ∷ items) = block ∷ blocks_left items
blocks_left (TestOf block ∷ items) = block ∷ blocks_left items
blocks_left (EndBlock ∷ items) = blocks_left items
blocks_left (EndCall ∷ items) = blocks_left items

-- at a test line the test of the innermost level was passed, and is no more left
abbrev pub with_test : {A : Type 0} → Bool → List A → List A
with_test true levels = without_last levels
with_test false levels = levels

-- each start or test that is left has its level, and each level whose test is left has its start or test
abbrev pub HasItsLevels : Tree → Process State State → Type 0
HasItsLevels tree q = map (λ level. level.facts) (with_test q.at_line q.levels) ≡ reverse (map (facts_of tree) (blocks_left q.state.items))

-- process number r of a world of a run
abbrev pub IsIn : Tree → List ℕ → ℕ → Process State State → Type 0
IsIn tree turns r q = slice_get (run_of tree turns).0.processes r ≡ Some q

-- each nested program keeps this
abbrev pub OfEveryNested : (Tree → Type 0) → Type 0
OfEveryNested P = (tree : Tree) → IsNested tree → P tree

-- Levels are nested: a level of a conversation has its parent's level just outside it. And unless the process has failed, its
-- levels are those of what is left.
abbrev pub HasNestedLevels : Tree → Type 0
HasNestedLevels tree = (turns : List ℕ) (r : ℕ) (q : Process State State) → IsIn tree turns r q
    → AreNested (groups_of tree) q.levels × (is_failed q.status ≡ false → HasItsLevels tree q)

abbrev pub LevelsAreNested : Type 0
LevelsAreNested = OfEveryNested HasNestedLevels

-- The plain run of the survivors is not stuck, ends in the same states and released the same lines in the same turns; and the
-- survivors' turns rise.
pub record IsErased (tree : Tree) (turns : List ℕ) : Type 0 where
  pub world : PlainWorld
  pub lines : List (ℕ × Told)
  pub ran : plain_of tree (survivors (run_of tree turns).0) ≡ Ended world lines
  pub states : states_of world ≡ states_of (run_of tree turns).0
  pub released : released_in lines ≡ released_in (numbered 1 (run_of tree turns).1)
  pub rises : Rises (survivors (run_of tree turns).0)

-- Erasure: what survived a run, run alone with nothing ever rejected, ends the same.
abbrev pub IsAlwaysErased : Tree → Type 0
IsAlwaysErased tree = (turns : List ℕ) → IsErased tree turns

abbrev pub Erasure : Type 0
Erasure = OfEveryNested IsAlwaysErased

-- So its text has the lines that the run released, and the run's values.
abbrev pub IsErasedInText : Tree → Type 0
IsErasedInText tree = (turns : List ℕ)
    → plain_text tree (survivors (run_of tree turns).0)
    ≡ Ok (outs_text (naming_of tree) (numbered 1 (run_of tree turns).1) ++ values_text (naming_of tree) (final_of tree (run_of tree turns).0))

abbrev pub ErasureInText : Type 0
ErasureInText = OfEveryNested IsErasedInText

-- No receipt stands of a message that was taken back: a receiver has never taken more than it can see.
abbrev pub TakesNothingBack : Tree → Type 0
TakesNothingBack tree = (turns : List ℕ) (c : ℕ) (ends : Ends) (sender receiver : Process State State)
    → slice_get (channels_of tree) c ≡ Some ends → IsIn tree turns ends.sender sender → IsIn tree turns ends.receiver receiver
    → taken_on receiver.state c ≤ seen_count (tree_kind tree) sender.state (seen_copy sender.levels receiver.levels) c

abbrev pub NothingTakenBack : Type 0
NothingTakenBack = OfEveryNested TakesNothingBack

-- the turn of process p that comes after these turns
abbrev pub next_turn : Tree → List ℕ → ℕ → TreeWorld × Told
next_turn tree turns p = turn (tree_kind tree) (length turns + 1) p (run_of tree turns).0

-- A turn that is undone changes no other process than those inside the outermost conversation that it rejects; where it rejects
-- none, no other at all.
abbrev pub KeepsRejectionsInside : Tree → Type 0
KeepsRejectionsInside tree = (turns : List ℕ) (p : ℕ) → LeavesOutsiders p (run_of tree turns).0 (next_turn tree turns p)

abbrev pub RejectionsStayInside : Type 0
RejectionsStayInside = OfEveryNested KeepsRejectionsInside

-- Members pass the test line together, and go back together.
abbrev pub PassesTogether : Tree → Type 0
PassesTogether tree = (turns : List ℕ) (c p : ℕ)
    → GoTogether (tree_kind tree) c p (run_of tree turns).0 (next_turn tree turns p).0 (next_turn tree turns p).1.events

abbrev pub PassedTogether : Type 0
PassedTogether = OfEveryNested PassesTogether

-- a level of conversation c tries its present alternate, and has as many alternates as each `converse` for it
pub record TriesTheSame (tree : Tree) (w : TreeWorld) (c : ℕ) (level : Level State) : Type 0 where
  pub present : IsPresent w.talks c level
  pub as_many : alternates_of tree c ≡ Some level.facts.alternates

-- Members try the same alternate: whoever is inside a conversation is in its present alternate, whenever it entered.
abbrev pub TriesTogether : Tree → Type 0
TriesTogether tree = (turns : List ℕ) (r i c : ℕ) (q : Process State State) (level : Level State)
    → HasLevel (run_of tree turns).0 r i q level → level.facts.conversation ≡ Some c → TriesTheSame tree (run_of tree turns).0 c level

abbrev pub TriedTogether : Type 0
TriedTogether = OfEveryNested TriesTogether

-- an event tells a rejection
abbrev pub is_rejection : Event → Bool
is_rejection (Reject p line a cause) = true
is_rejection (RejectAll c a p cause) = true
is_rejection (Error p cause) = false
is_rejection (Pass c a) = false
is_rejection (Done p) = false

-- A turn makes at most as many rejections as a process may have levels, and of no more processes than a program may have it tells at most as many events
-- as a report has room for.
abbrev pub FewEvents : Type 0
FewEvents = (tree : Tree) (turns : List ℕ) (p : ℕ)
    → (length (filter is_rejection (next_turn tree turns p).1.events) ≤ MOST_OPEN_LEVELS)
    × (length tree.processes ≤ MOST_PROCESSES_SECOND → length (next_turn tree turns p).1.events ≤ MOST_EVENTS)

-- the opening of a program with a slot for each message that its channels have room for
abbrev pub SlotWorld : Type 0
SlotWorld = World State State (Nothing × Slots)

abbrev pub slot_opening : Tree → Kind State State (Nothing × Slots) → SlotWorld
slot_opening tree k = opening k (opening_states tree 0 tree.processes) (tt, zero_slots (channels_of tree))

-- a run of the meaning with slots beside its lists, and one that reads messages from them
abbrev pub run_with_slots : Tree → List ℕ → SlotWorld × List Told
run_with_slots tree turns = run (with_slots (tree_kind tree)) 1 turns (slot_opening tree (with_slots (tree_kind tree)))

abbrev pub run_from_slots : Tree → List ℕ → SlotWorld × List Told
run_from_slots tree turns = run (from_slots (tree_kind tree)) 1 turns (slot_opening tree (from_slots (tree_kind tree)))

-- Slots beside the messages change nothing that is told.
abbrev pub SlotsAreUnseen : Type 0
SlotsAreUnseen = (tree : Tree) (turns : List ℕ) → (run_of tree turns).1 ≡ (run_with_slots tree turns).1

-- In every world each message that may still be asked for lies in its slot.
abbrev pub HoldsMessagesInSlots : Tree → Type 0
HoldsMessagesInSlots tree = (turns : List ℕ) → AllLieInSlots (tree_kind tree) (run_with_slots tree turns).0

abbrev pub SlotsHoldMessages : Type 0
SlotsHoldMessages = OfEveryNested HoldsMessagesInSlots

-- So a run that reads messages from their slots is the same.
abbrev pub ReadsFromSlots : Tree → Type 0
ReadsFromSlots tree = (turns : List ℕ) → run_from_slots tree turns ≡ run_with_slots tree turns

abbrev pub SlotsAreRead : Type 0
SlotsAreRead = OfEveryNested ReadsFromSlots
