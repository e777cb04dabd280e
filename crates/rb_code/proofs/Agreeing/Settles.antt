-- Ends of blocks and calls are taken off by drops, returns and jumps, up to the next turn.
use Rattle.std.proofs.Common.{◌≡◌, ◌⊎◌, inl, inr, ◌≤◌, ℕ, zero, suc, ◌-◌, ℤ, List, [], ◌∷◌, length, take, slice_get, Option, Some, refl, sym, ap, ◌∙◌, subst, arith}
use Rattle.std.proofs.lemmas.List.{length-take}
use Rattle.std.proofs.Math.Seq.{take-length}
use Rattle.rb_base.specs.declared.place.Place.{Place}
use Rattle.rb_syntax.specs.Tree.{Command, Assignment, Printing, Sending, Receiving, Conditional, Loop, Invocation, Failure, Recovering, Otherwise, NoElse, Else, RecoveryBlock, Recovers, Tree}
use Rattle.rb_meaning.specs.Environment.{Environment, pop_call, pop_frame}
use Rattle.rb_meaning.specs.State.{Item, Perform, StartOf, TestOf, EndBlock, EndCall, settle_items}
use Rattle.rb_scope.specs.Frames.{Shape, shape_words}
use Rattle.rb_scope.specs.declared.slot.Slot.{Slot}
use Rattle.rb_code.specs.Instructions.Plain.{Code}
use Rattle.rb_code.specs.WordMachine.Workspace.{Workspace, OpenCall, dropped, part_of, with_words}
use Rattle.rb_code.specs.WordMachine.Act.{Sight}
use Rattle.rb_code.specs.Agreement.Forms.{CommandForm, DropCode, ExpressionCode, Owner}
use Rattle.rb_code.specs.Agreement.Places.{block_place, command_place, place_number, places_told}
use Rattle.rb_code.specs.declared.instr.Instr.TheVariants.{Done, Drop, Jump, Return, Turn}
use Rattle.rb_code.proofs.Agreeing.Placed.{BranchesPlaced, CommandPlaced, ReceiptPlaced, TurnAt}
use Rattle.rb_code.proofs.Agreeing.Leads.{Leads, goes, leads_on, passes, stays}
use Rattle.rb_code.proofs.InWords.LaidOut.{Laid, stacks_of}
use Rattle.rb_code.proofs.Agreeing.TextLeft.{IsSettled, Left, Onward, StartCode, TestCode, owner_of}
use Rattle.rb_code.proofs.InWords.FramesPushed.{laid_popped, laid_returned}

-- other words and other calls
abbrev pub with_calls : List ℤ → List OpenCall → Workspace → Workspace
with_calls words calls m = record m { words = words; calls = calls }

-- where a turn begins
abbrev pub IsTurn : Code → ℕ → Type 0
IsTurn c a = slice_get c.instrs a ≡ Some Turn

-- where a turn begins at which this place is told
abbrev pub IsTurnOf : Tree → Code → Option Place → ℕ → Type 0
IsTurnOf tree c place a = IsTurn c a × (place_number (places_told tree c.instrs) a ≡ place)

module _ (tree : Tree) (slots : List Slot) (owner : Owner) (c : Code) where
  -- a turn is one under another name of its address
  turn_there : (place : Option Place) (a b d : ℕ) → d ≡ a → TurnAt tree place c d b → IsTurnOf tree c place a
  turn_there place a b d same turn = subst (λ x. IsTurnOf tree c place x) same (turn.0, turn.2)

  receipt_turn : (place : Option Place) (channel : ℕ) (taken : Code → ℕ → ℕ → Type 0) (otherwise : Otherwise) (a b : ℕ)
      → ReceiptPlaced tree slots owner place channel taken otherwise c a b → IsTurnOf tree c place a
  unfolding ExpressionCode CommandForm
  receipt_turn place channel taken NoElse a b (d, turn, more) = (turn.0, turn.2)
  receipt_turn place channel taken (Else other) a b (none, (end, (d, turn, more))) = (turn.0, turn.2)

  branches_turn : (place : Option Place) (test body : Code → ℕ → ℕ → Type 0) (otherwise : Otherwise) (a b : ℕ)
      → BranchesPlaced tree slots owner place test body otherwise c a b → IsTurnOf tree c place a
  unfolding ExpressionCode CommandForm
  branches_turn place test body NoElse a b (end, (d, turn, more)) = (turn.0, turn.2)
  branches_turn place test body (Else other) a b (end, (other_, (d, turn, more))) = (turn.0, turn.2)

  -- each statement begins with a turn, at which its place is told
  pub command_turn : (command : Command) (a b : ℕ) → CommandPlaced tree slots owner command c a b → IsTurnOf tree c (command_place command) a
  unfolding ExpressionCode CommandForm
  command_turn (Assignment to value) a b (d, turn, more) = (turn.0, turn.2)
  command_turn (Printing items) a b (d, turn, more) = (turn.0, turn.2)
  command_turn (Sending channel value) a b (d, turn, more) = (turn.0, turn.2)
  command_turn (Receiving channel to otherwise) a b code = receipt_turn _ _ _ otherwise a b code
  command_turn (Conditional test body otherwise) a b code = branches_turn _ _ _ otherwise a b code
  command_turn (Loop test body) a b (loop, (end, (d, at_loop, (e, turn, more)))) = turn_there _ a e d at_loop.1 turn
  command_turn (Invocation procedure arguments) a b (d, turn, more) = (turn.0, turn.2)
  command_turn Failure a b (d, turn, more) = (turn.0, turn.2)
  command_turn (Recovering (Recovers number conversation place test bound alternates)) a b (block, there, (d, tells, (e, turn, more))) =
      turn_there _ a e d tells.1 turn

  pub start_turn : (block : RecoveryBlock) (a b : ℕ) → StartCode tree slots owner block c a b → IsTurnOf tree c (Some (block_place block)) a
  start_turn (Recovers number conversation place test bound alternates) a b (block, there, (d, tells, (e, at_restart, (f, turn, more)))) =
      turn_there _ a f e (at_restart.1 ∙ tells.1) turn

  pub test_turn : (block : RecoveryBlock) (a b : ℕ) → TestCode tree slots block c a b → IsTurnOf tree c (Some (block_place block)) a
  test_turn (Recovers number conversation place test bound alternates) a b (d, turn, more) = (turn.0, turn.2)

-- a list cut at its end, and cut somewhere
cut_nothing : (all : List ℤ) → take (length all - 0) all ≡ all
cut_nothing all = let e : length all - 0 ≡ length all = omega arith in ap (λ k. take k all) e ∙ take-length all

cut_shorter : (n : ℕ) (all : List ℤ) → length (take n all) ≤ length all
cut_shorter n all = grind (arith, length-take n all)

module _ (c : Code) (see : Sight) where
  -- words are dropped
  pub drops : (n a b : ℕ) (os : List ℤ) (m : Workspace) → DropCode n c a b → Leads c see a os m b os (dropped n m)
  drops zero a b os m code =
      subst (λ ws. Leads c see a os m b os (with_words ws m)) (sym (cut_nothing m.words))
      (subst (λ x. Leads c see a os m x os m) (sym code) (stays c see a os m))
  drops (suc n) a b os m code = passes c see (Drop (suc n)) a b os os m (dropped (suc n) m) code refl

  pub onward : (a b : ℕ) (os : List ℤ) (m : Workspace) → Onward c a b → Leads c see a os m b os m
  onward a b os m (inl e) = subst (λ x. Leads c see a os m x os m) (sym e) (stays c see a os m)
  onward a b os m (inr jump) = goes c see (Jump b) a b os os m m jump refl

  module _ (tree : Tree) (slots : List Slot) (p : ℕ) where
    -- It comes from a to where a turn begins or the process is done, before the items that are left, and the words are those of the
    -- environment; the held length and the cursors stay.
    pub record Settled (front : List ℤ) (a : ℕ) (m : Workspace) (all : List ℤ) (calls : List OpenCall) (items : List Item)
        (env : Environment) : Type 0 where
      pub to : ℕ
      pub words : List ℤ
      pub opened : List OpenCall
      pub leads : Leads c see a [] (with_calls all calls m) to [] (with_calls words opened m)
      pub left : Left tree slots c p (stacks_of env.calls) items opened to
      pub laid : Laid (part_of c p) front env words opened
      pub shorter : length words ≤ length all
      pub settled : IsSettled items
      pub stops : IsTurn c to ⊎ (slice_get c.instrs to ≡ Some Done)

    settled_here : (front : List ℤ) (a : ℕ) (m : Workspace) (all : List ℤ) (calls : List OpenCall) (items : List Item) (env : Environment)
        → Left tree slots c p (stacks_of env.calls) items calls a → (l : Laid (part_of c p) front env all calls) → IsSettled items
        → (IsTurn c a ⊎ (slice_get c.instrs a ≡ Some Done)) → Settled front a m all calls items env
    settled_here front a m all calls items env left l settled stops = record {
      to = a;
      words = all;
      opened = calls;
      leads = stays c see a [] (with_calls all calls m);
      left = left;
      laid = l;
      shorter = omega arith;
      settled = settled;
      stops = stops;
    }

    settled_behind : (front : List ℤ) (a b : ℕ) (m : Workspace) (all words : List ℤ) (calls opened : List OpenCall)
        (items : List Item) (env : Environment)
        → length words ≤ length all → Leads c see a [] (with_calls all calls m) b [] (with_calls words opened m)
        → Settled front b m words opened items env
        → Settled front a m all calls items env
    settled_behind front a b m all words calls opened items env less l s = record {
      to = s.to;
      words = s.words;
      opened = s.opened;
      leads = leads_on c see l s.leads;
      left = s.left;
      laid = s.laid;
      shorter = (let h = s.shorter in omega arith);
      settled = s.settled;
      stops = s.stops;
    }

    pub settles : (front : List ℤ) (items : List Item) (env : Environment) (stacks : List (List Shape))
        → stacks_of env.calls ≡ stacks → (a : ℕ) (m : Workspace) (all : List ℤ)
        (calls : List OpenCall) → Left tree slots c p stacks items calls a → (l : Laid (part_of c p) front env all calls)
        → Settled front a m all calls (settle_items items env).0 (settle_items items env).1
    settles front [] env stacks e a m all calls left l = settled_here front a m all calls [] env left l tt (inr left.0)
    settles front (Perform command ∷ rest) env stacks e a m all calls left l =
        settled_here front a m all calls (Perform command ∷ rest) env
        (subst (λ s. Left tree slots c p s (Perform command ∷ rest) calls a) (sym e) left) l tt
        (inl (command_turn tree slots (owner_of tree p) c command a left.0 left.1).0)
    settles front (StartOf block ∷ rest) env stacks e a m all calls left l =
        settled_here front a m all calls (StartOf block ∷ rest) env
        (subst (λ s. Left tree slots c p s (StartOf block ∷ rest) calls a) (sym e) left) l tt
        (inl (start_turn tree slots (owner_of tree p) c block a left.0 left.1).0)
    settles front (TestOf block ∷ rest) env stacks e a m all calls left l =
        settled_here front a m all calls (TestOf block ∷ rest) env
        (subst (λ s. Left tree slots c p s (TestOf block ∷ rest) calls a) (sym e) left) l tt
        (inl (test_turn tree slots (owner_of tree p) c block a left.0 left.1).0)
    settles front (EndBlock ∷ rest) env [] e a m all calls left l = absurd left
    settles front (EndBlock ∷ rest) env ([] ∷ outer) e a m all calls left l = absurd left
    settles front (EndBlock ∷ rest) env ((shape ∷ shapes) ∷ outer) e a m all calls (d, b, drop, on, left) l =
        let popped = laid_popped (part_of c p) env all calls front shape shapes outer e l in
        let words = take (length all - shape_words shape) all in
        let s = settles front rest (pop_frame env) (shapes ∷ outer) popped.1 b m words calls left popped.0 in
        settled_behind front a b m all words calls calls (settle_items rest (pop_frame env)).0
        (settle_items rest (pop_frame env)).1 (cut_shorter (length all - shape_words shape) all)
        (leads_on c see (drops (shape_words shape) a d [] (with_calls all calls m) drop) (onward d b [] (with_calls words calls m) on)) s
    settles front (EndCall ∷ rest) env [] e a m all calls left l = absurd left
    settles front (EndCall ∷ rest) env (shapes ∷ outer) e a m all [] left l = absurd left
    settles front (EndCall ∷ rest) env (shapes ∷ outer) e a m all (call ∷ calls) left l =
        let returned = laid_returned (part_of c p) env all call calls front shapes outer e l in
        let words = take call.base all in
        let s = settles front rest (pop_call env) outer returned.1 call.back m words calls left.1 returned.0 in
        settled_behind front a call.back m all words (call ∷ calls) calls (settle_items rest (pop_call env)).0
        (settle_items rest (pop_call env)).1 (cut_shorter call.base all)
        (goes c see Return a call.back [] [] (with_calls all (call ∷ calls) m) (with_calls words calls m) left.0 refl) s
