-- The texts of turns of the word machine's run are those of the meaning's run, in two steps: beside its lists the meaning keeps slots, as
-- the machine does; and what is kept beside them is not seen.
use Rattle.std.proofs.Common.{◌≡◌, ℕ, ◌+◌, zero, suc, eq-eqb, not, Bool, true, false, cond, List, [], ◌∷◌, ◌++◌, length, slice_get, Option, Some, refl, sym, ap, ◌∙◌, subst, true≢false, arith}
use Rattle.std.specs.List.{list_all}
use Rattle.rb_base.specs.declared.place.Place.{Place}
use Rattle.rb_syntax.specs.Tree.{Tree}
use Rattle.rb_world.specs.Kind.{Ends, Kind}
use Rattle.rb_world.specs.Channels.{seen_copy}
use Rattle.rb_world.specs.Slots.{Slots, zero_slots}
use Rattle.rb_world.specs.Text.{Naming}
use Rattle.rb_world.specs.Turn.{run, turn}
use Rattle.rb_world.specs.World.{Level, Process, World, is_shared, last_of}
use Rattle.rb_world.proofs.ListFacts.{first_holds, none_some, second_holds, some_same}
use Rattle.rb_world.proofs.Relating.ImageRuns.{Imaged, Memories, copy_there, image_simulates}
use Rattle.rb_world.proofs.Relating.ProcessesMeet.{ProcessesMeet, WorldsMeet}
use Rattle.rb_world.proofs.Relating.RunsMeet.{OpeningsMeet, keeps_nothing, opening_meets}
use Rattle.rb_world.proofs.Slots.SlotsTheorem.{slots_image}
use Rattle.rb_meaning.specs.Environment.{global_words}
use Rattle.rb_meaning.specs.Groups.{channels_of}
use Rattle.rb_meaning.specs.Laws.{slot_opening}
use Rattle.rb_meaning.specs.Meaning.{message_number, opening_states, opening_world, tree_kind}
use Rattle.rb_meaning.specs.Nesting.{IsNested, keeps_n12}
use Rattle.rb_meaning.specs.State.{State}
use Rattle.rb_meaning.specs.Step.{Nothing}
use Rattle.rb_code.proofs.WholeRuns.KeptTurns.{last_turn}
use Rattle.rb_code.proofs.WholeRuns.WordsSimulate.{SlotWorld, slotted}
use Rattle.rb_picture.specs.Meant.{turn_number}
use Rattle.rb_changes.specs.Noted.{WorldNoted}
use Rattle.rb_changes.specs.Shown.{Reading}
use Rattle.rb_picture.specs.Trace.{opening_text, turn_texts}
use Rattle.rb_changes.specs.declared.noted.Numbers.{Numbers}
use Rattle.rb_picture.proofs.SameRuns.{SameMessages, opening_same, texts_same}
use Rattle.rb_picture.proofs.SameShown.{ReadsAlike}

-- the last turn of a list, said another way
pub number_is_last : (turns : List (ℕ × ℕ)) → turn_number (last_of turns) ≡ last_turn turns
number_is_last [] = refl
number_is_last (one ∷ []) = refl
number_is_last (one ∷ other ∷ turns) = number_is_last (other ∷ turns)

-- a run of one turn more
pub run_more : {S C M : Type 0} (k : Kind S C M) (t : ℕ) (turns : List ℕ) (p : ℕ) (w : World S C M)
    → (run k t (turns ++ p ∷ []) w).0 ≡ (turn k (length turns + t) p (run k t turns w).0).0
run_more k t [] p w = ap (λ n. (turn k n p w).0) (omega arith)
run_more k t (q ∷ turns) p w =
    run_more k (t + 1) turns p (turn k t q w).0
    ∙ ap (λ n. (turn k n p (run k (t + 1) turns (turn k t q w).0).0).0) (omega arith)

-- each channel has two different ends
channel_kept : (channels : List Ends) (c : ℕ) (ends : Ends) → list_all keeps_n12 channels ≡ true
    → slice_get channels c ≡ Some ends → keeps_n12 ends ≡ true
channel_kept [] c ends all e = absurd (none_some e)
channel_kept (first ∷ channels) zero ends all e =
    subst (λ (x : Ends). keeps_n12 x ≡ true) (some_same e) (first_holds (keeps_n12 first) (list_all keeps_n12 channels) all)
channel_kept (first ∷ channels) (suc c) ends all e =
    channel_kept channels c ends (second_holds (keeps_n12 first) (list_all keeps_n12 channels) all) e

pub apart : (tree : Tree) → IsNested tree → (c : ℕ) (ends : Ends) → slice_get (channels_of tree) c ≡ Some ends → ends.receiver ≡ ends.sender → ⊥
apart tree nested c ends at same =
    true≢false (sym (channel_kept (channels_of tree) c ends nested.n12 at) ∙ ap not (eq-eqb ends.sender ends.receiver (sym same)))

-- what is seen in a recovery point was sent at one of the levels
pub record IsOfLevel (levels : List (Level State)) (copy : State) : Type 0 where
  pub place : ℕ
  pub level : Level State
  pub there : slice_get levels place ≡ Some level
  pub same : level.copy ≡ copy

further_in : (first : Level State) (levels : List (Level State)) (copy : State) → IsOfLevel levels copy → IsOfLevel (first ∷ levels) copy
further_in first levels copy of = record { place = suc of.place; level = of.level; there = of.there; same = of.same }

pub seen_level : (ls ms : List (Level State)) (copy : State) → seen_copy ls ms ≡ Some copy → IsOfLevel ls copy
seen_level [] ms copy e = absurd (none_some e)
seen_level (l ∷ ls) [] copy e = record { place = 0; level = l; there = refl; same = some_same e }
seen_level (l ∷ ls) (m ∷ ms) copy e =
    by (is_shared l.facts.conversation m.facts.conversation) e (λ f. further_in l ls copy (seen_level ls ms copy f))
  where
    by : (shared : Bool) → cond shared (seen_copy ls ms) (Some l.copy) ≡ Some copy → (seen_copy ls ms ≡ Some copy → IsOfLevel (l ∷ ls) copy)
        → IsOfLevel (l ∷ ls) copy
    by true f others = others f
    by false f others = record { place = 0; level = l; there = refl; same = some_same f }

module _ (tree : Tree) (place : Process State State → Option Place) where
  -- states over trees, with slots beside their lists and without them
  abbrev pub slot_reading : Reading State State (Nothing × Slots)
  slot_reading = record {
    kind = slotted tree;
    words = λ s. global_words s.environment;
    entered = λ m copy. turn_number (last_of copy.kept);
    place = place;
  }

  abbrev pub list_reading : Reading State State Nothing
  list_reading = record {
    kind = tree_kind tree;
    words = λ s. global_words s.environment;
    entered = λ m copy. turn_number (last_of copy.kept);
    place = place;
  }

  -- without slots
  module _ (same_place : (q : Process State State) (m : Nothing × Slots) (n : Nothing) (u : Process State State)
      → ProcessesMeet (Imaged (λ (s : State). s) (λ (copy : State). copy) (λ (m : Nothing × Slots). m.0)) m n q u → place q ≡ place u) where
    lists_read : ReadsAlike slot_reading list_reading (Imaged (λ (s : State). s) (λ (copy : State). copy) (λ (m : Nothing × Slots). m.0))
    lists_read = record {
      words = λ line m n cs s ds u e. ap (λ (x : State). global_words x.environment) e.state;
      held = λ line m n cs s ds u e. ap (λ (x : State). x.held) e.state;
      entered = λ line m n cs s ds u j x y e at at'.
          ap (λ (copy : State). turn_number (last_of copy.kept))
          (copy_there (λ (copy : State). copy) cs j x y at (ap (λ (es : List State). slice_get es j) e.copies ∙ at'));
    }

    opens_same : (states : List State)
        → OpeningsMeet (slotted tree) (tree_kind tree) (Imaged (λ (s : State). s) (λ (copy : State). copy) (λ (m : Nothing × Slots). m.0))
        (tt, zero_slots (channels_of tree)) tt states states
    opens_same [] = tt
    opens_same (s ∷ states) = (record { memory = refl; copies = refl; state = refl }, opens_same states)

    openings_meet : WorldsMeet (Memories (λ (m : Nothing × Slots). m.0)) (Imaged (λ (s : State). s) (λ (copy : State). copy) (λ (m : Nothing × Slots). m.0))
        (slot_opening tree (slotted tree)) (opening_world tree)
    openings_meet =
        opening_meets (image_simulates (slots_image (tree_kind tree))).plain (tt, zero_slots (channels_of tree)) tt
        (opening_states tree 0 tree.processes) (opening_states tree 0 tree.processes) refl (opens_same (opening_states tree 0 tree.processes))

    messages_same : (before : List Numbers) (w : SlotWorld) (v : World State State Nothing)
        → SameMessages slot_reading list_reading (image_simulates (slots_image (tree_kind tree))) lists_read before w v
    messages_same before w v c n was ends q q' u at declared there here memories both least sent =
        ap (λ (s : State). message_number s c n) both.states.state

    pub slots_unread : (names : Naming) (turns : List ℕ)
        → turn_texts slot_reading names 1 (slot_opening tree (slotted tree)) turns ≡ turn_texts list_reading names 1 (opening_world tree) turns
    slots_unread names turns =
        texts_same slot_reading list_reading (image_simulates (slots_image (tree_kind tree))) lists_read names
        (λ rest t w v. Unit {0}) (keeps_nothing (slotted tree)) (λ rest t p w v h. tt) turns 1 (slot_opening tree (slotted tree)) (opening_world tree)
        (λ rest t p w v known h meets. record {
          place = λ q u there there' both. same_place q w.memory v.memory u both;
          messages = messages_same _ (turn (slotted tree) t p w).0 (turn (tree_kind tree) t p v).0;
        }) tt tt openings_meet

    pub opening_unread : (names : Naming) (fresh : WorldNoted)
        → opening_text slot_reading names fresh (slot_opening tree (slotted tree)) ≡ opening_text list_reading names fresh (opening_world tree)
    opening_unread names fresh =
        opening_same slot_reading list_reading (image_simulates (slots_image (tree_kind tree))) lists_read names fresh
        (slot_opening tree (slotted tree)) (opening_world tree) openings_meet
        (messages_same fresh.channels (slot_opening tree (slotted tree)) (opening_world tree))
