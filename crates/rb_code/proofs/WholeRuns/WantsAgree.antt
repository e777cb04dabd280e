-- What stands first in what is left of a text is what the instructions at its address ask of the turn.
use Rattle.std.proofs.Common.{◌≡◌, ℕ, ◌+◌, List, [], ◌∷◌, length, slice_get, Option, Some, None, sym, ap, ◌∙◌, subst, arith}
use Rattle.rb_base.specs.declared.place.Place.{Place}
use Rattle.rb_syntax.specs.declared.expression.Quantifier.{Quantifier}
use Rattle.rb_syntax.specs.declared.expression.Quantifier.TheVariants.{Every, Any, Total}
use Rattle.rb_syntax.specs.Tree.{Identifier, Expression, Literal, Variable, Former, Minus, Negation, Chained, Quantification, Reference, Refer, Subscript, Scalar, Element, Printed, Words, Amount, PrintItem, Command, Assignment, Printing, Sending, Receiving, Conditional, Loop, Invocation, Failure, Recovering, Otherwise, NoElse, Else, RecoveryBlock, Recovers, Alternates, NoAlternate, Alternate, Tree}
use Rattle.rb_world.specs.Kind.{Facts, Want, SendsOn, ReceivesOn, MayReceiveOn, Enters, Starts, Acts}
use Rattle.rb_meaning.specs.Environment.{natural}
use Rattle.rb_meaning.specs.State.{Item, Perform, StartOf, TestOf, EndBlock, EndCall}
use Rattle.rb_meaning.specs.Step.{wants, wants_first, wants_receipt}
use Rattle.rb_meaning.specs.Groups.{channel_number, conversation_of, count_alternates, facts_of}
use Rattle.rb_scope.specs.Frames.{Frames, Shape}
use Rattle.rb_scope.specs.InFrames.{CommandInFrames}
use Rattle.rb_scope.specs.declared.slot.Slot.{Slot}
use Rattle.rb_scope.specs.declared.slot.Slot.TheVariants.{Channel}
use Rattle.rb_code.specs.Instructions.Plain.{Block, Code}
use Rattle.rb_code.specs.WordMachine.Workspace.{OpenCall}
use Rattle.rb_code.specs.Agreement.Slots.{channel_in, channel_of, counter_of, elements_of, spot_of}
use Rattle.rb_code.specs.Agreement.Template.{Template, One}
use Rattle.rb_code.specs.Agreement.Forms.{ArgumentsCode, CommandForm, ExpressionCode, ItemsCode, Owner, PrintedCode, QuantifiedCode, ScalarCode, StoreCode, SubscriptCode, TellsOf}
use Rattle.rb_code.specs.WordMachine.Turn.{block_facts, enters, wants_behind, wants_by, wants_there}
use Rattle.rb_code.specs.declared.instr.Spot.{Spot}
use Rattle.rb_code.specs.declared.instr.Instr.{Instr}
use Rattle.rb_code.specs.declared.instr.Instr.TheVariants.{LoadAt, Prior, PriorAt, Take}
use Rattle.rb_code.proofs.Agreeing.Placed.{AlternatesPlaced, BodyPlaced, BranchesPlaced, CommandPlaced, OthersPlaced, ReceiptPlaced, TurnAt}
use Rattle.rb_code.proofs.Agreeing.TextLeft.{IsSettled, Left, StartCode, TestCode, owner_of}

module _ (c : Code) where
  -- the instruction at an address asks this of a turn that begins before it
  abbrev pub Asks : ℕ → Want → Type 0
  Asks a w = wants_behind c (slice_get c.instrs a) ≡ w

  asks_by : (instr : Instr) (a b : ℕ) → One instr c a b → Asks a (wants_by c instr)
  asks_by instr a b one = ap (wants_behind c) one.0

  -- behind a `turn`
  asks_behind : (tree : Tree) (place : Option Place) (a b : ℕ) (w : Want) → TurnAt tree place c a b → Asks b w → w ≡ wants_there c (slice_get c.instrs a) (slice_get c.instrs (a + 1))
  asks_behind tree place a b w turn asks =
      sym (ap (λ o. wants_there c o (slice_get c.instrs (a + 1))) turn.0
      ∙ ap (λ n. wants_behind c (slice_get c.instrs n)) (sym turn.1) ∙ asks)

  module _ (slots : List Slot) where
    scalar_asks : (counter : Option ℕ) (spot : Spot) (a b : ℕ) → ScalarCode counter spot c a b → Asks a Acts
    scalar_asks None spot a b code = asks_by _ a b code
    scalar_asks (Some k) spot a b code = asks_by _ a b code

    -- the first limit stands first, or the 0 of a sum
    quantified_asks : (kind : Quantifier) (k : ℕ) (low high body : Template) (a b : ℕ) → ((d : ℕ) → low c a d → Asks a Acts)
        → QuantifiedCode kind k low high body c a b → Asks a Acts
    quantified_asks Every k low high body a b next (loop, (fails, (holds, (end, (d, code, more))))) = next d code
    quantified_asks Any k low high body a b next (loop, (after, (fails, (end, (d, code, more))))) = next d code
    quantified_asks Total k low high body a b next (loop, (end, (d, code, more))) = asks_by _ a d code

    mutual
      unfolding ExpressionCode SubscriptCode

      -- no expression begins with what a turn waits for
      pub expression_asks : (e : Expression) (a b : ℕ) → ExpressionCode slots e c a b → Asks a Acts
      expression_asks (Literal number) a b code = asks_by _ a b code
      expression_asks (Variable (Refer name subscript)) a b code = variable_asks subscript name a b code
      expression_asks (Former place (Refer name subscript)) a b code = former_asks subscript name a b code
      expression_asks (Minus operand) a b (d, code, more) = expression_asks operand a d code
      expression_asks (Negation operand) a b (d, code, more) = expression_asks operand a d code
      expression_asks (Chained first links) a b (d, code, more) = expression_asks first a d code
      expression_asks (Quantification kind place name low high body) a b code =
          quantified_asks kind _ _ _ _ a b (λ d first. expression_asks low a d first) code

      variable_asks : (subscript : Subscript) (name : Identifier) (a b : ℕ)
          → SubscriptCode slots (ScalarCode (counter_of slots name.id) (spot_of slots name.id))
          (One (LoadAt (spot_of slots name.id))) (elements_of slots name.id) subscript c a b
          → Asks a Acts
      variable_asks Scalar name a b code = scalar_asks (counter_of slots name.id) (spot_of slots name.id) a b code
      variable_asks (Element index) name a b (d, code, more) = expression_asks index a d code

      former_asks : (subscript : Subscript) (name : Identifier) (a b : ℕ)
          → SubscriptCode slots (One (Prior (spot_of slots name.id))) (One (PriorAt (spot_of slots name.id)))
          (elements_of slots name.id) subscript c a b
          → Asks a Acts
      former_asks Scalar name a b code = asks_by _ a b code
      former_asks (Element index) name a b (d, code, more) = expression_asks index a d code

    store_asks : (to : Reference) (value : Template) (a b : ℕ) → ((d : ℕ) → value c a d → Asks a Acts) → StoreCode slots to value c a b → Asks a Acts
    store_asks (Refer name Scalar) value a b next (d, code, more) = next d code
    store_asks (Refer name (Element index)) value a b next (d, code, more) = expression_asks index a d code

    printed_asks : (what : Printed) (a b : ℕ) → PrintedCode slots what c a b → Asks a Acts
    printed_asks (Words text) a b (k, there, code) = asks_by _ a b code
    printed_asks (Amount e) a b (d, code, more) = expression_asks e a d code

    -- items, or what follows none
    items_ask : (items : List PrintItem) (a b : ℕ) → ItemsCode slots items c a b → Asks b Acts → Asks a Acts
    items_ask [] a b code asks = subst (λ d. Asks d Acts) code asks
    items_ask (item ∷ items) a b (d, code, more) asks = printed_asks item.what a d code

    arguments_ask : (arguments : List Expression) (a b : ℕ) → ArgumentsCode slots arguments c a b → Asks b Acts → Asks a Acts
    arguments_ask [] a b code asks = subst (λ d. Asks d Acts) code asks
    arguments_ask (argument ∷ arguments) a b (d, code, more) asks = expression_asks argument a d code

  module _ (tree : Tree) (slots : List Slot) (owner : Owner) where
    -- what is asked where a statement stands, by what stands behind its `turn`
    abbrev Agree : Want → ℕ → Type 0
    Agree w a = w ≡ wants_there c (slice_get c.instrs a) (slice_get c.instrs (a + 1))

    -- the number of a channel
    channel_is : (tree_number : ℕ) (id : ℕ) → slice_get slots id ≡ Some (Channel tree_number) → channel_of slots id ≡ tree_number
    channel_is n id e = ap channel_in e

    receipt_agrees : (place : Option Place) (channel : ℕ) (taken : Template) (otherwise : Otherwise) (a b : ℕ) → ReceiptPlaced tree slots owner place channel taken otherwise c a b
        → Agree (wants_receipt channel otherwise) a
    unfolding ExpressionCode CommandForm
    receipt_agrees place channel taken NoElse a b (d, turn, (e, there, more)) = asks_behind tree _ a d (ReceivesOn channel) turn (asks_by _ d e there)
    receipt_agrees place channel taken (Else other) a b (none, (end, (d, turn, (e, absent, more)))) =
        asks_behind tree _ a d (MayReceiveOn channel) turn (asks_by _ d e absent)

    branches_agree : (place : Option Place) (test : Expression) (body : Template) (otherwise : Otherwise) (a b : ℕ)
        → BranchesPlaced tree slots owner place (ExpressionCode slots test) body otherwise c a b
        → Agree Acts a
    unfolding CommandForm
    branches_agree place test body NoElse a b (end, (d, turn, (e, code, more))) = asks_behind tree _ a d Acts turn (expression_asks slots test d e code)
    branches_agree place test body (Else other) a b (other_, (end, (d, turn, (e, code, more)))) =
        asks_behind tree _ a d Acts turn (expression_asks slots test d e code)

    -- as many addresses as alternates
    others_listed : (others : Alternates) (addresses : List ℕ) (test a b : ℕ) → OthersPlaced tree slots owner others addresses test c a b
        → length addresses ≡ count_alternates others
    unfolding CommandForm
    others_listed NoAlternate addresses test a b code = ap (λ (list : List ℕ). length list) code.0
    others_listed (Alternate body others) addresses test a b (d, jump, (more, same, (e, code, rest))) =
        ap (λ (list : List ℕ). length list) same ∙ (let n = others_listed others more test e b rest in omega (arith, n))

    pub alternates_listed : (alternates : Alternates) (addresses : List ℕ) (test a b : ℕ)
        → AlternatesPlaced tree slots owner alternates addresses test c a b
        → length addresses ≡ count_alternates alternates
    unfolding CommandForm
    alternates_listed NoAlternate addresses test a b code = ap (λ (list : List ℕ). length list) code.0
    alternates_listed (Alternate body others) addresses test a b (more, same, (e, code, rest)) =
        ap (λ (list : List ℕ). length list) same ∙ (let n = others_listed others more test e b rest in omega (arith, n))

    -- the facts of a block are those that the meaning knows of it
    facts_agree : (number : ℕ) (conversation : Option Identifier) (line : ℕ) (bound : ℕ) (alternates : ℕ) (block : Block)
        → TellsOf tree conversation line bound block
        → length block.alternates ≡ alternates
        → block_facts number block ≡ record {
          number = number;
          line = line;
          conversation = conversation_of tree conversation;
          bound = bound;
          alternates = alternates;
        }
    facts_agree number conversation line bound alternates block tells many = λ i. record {
      number = number;
      line = tells.line_is i;
      conversation = tells.conversation_is i;
      bound = tells.bound_is i;
      alternates = many i;
    }

    enters_there : (number : ℕ) (block : Block) (facts : Facts) → slice_get c.blocks number ≡ Some block → block_facts number block ≡ facts
        → enters number (slice_get c.blocks number) ≡ Enters facts
    enters_there number block facts there same = ap (enters number) there ∙ ap Enters same

    block_agrees : (block : RecoveryBlock) (a b : ℕ) → CommandPlaced tree slots owner (Recovering block) c a b → Agree (Enters (facts_of tree block)) a
    unfolding CommandForm
    block_agrees (Recovers number conversation place test bound alternates) a b
        (block, there, (d, tells, (e, turn, (f, enter, (g, restart, (h, turn2, (i, start, (j, list, more)))))))) =
        let agree : Agree (Enters (facts_of tree (Recovers number conversation place test bound alternates))) d =
        asks_behind tree _ d e (Enters (facts_of tree (Recovers number conversation place test bound alternates))) turn
        (asks_by _ e f enter
        ∙ enters_there number block (facts_of tree (Recovers number conversation place test bound alternates)) there
        (facts_agree number conversation place.line (natural bound.value) (count_alternates alternates) block tells.0
        (alternates_listed alternates block.alternates block.test i j list))) in
        subst (Agree (Enters (facts_of tree (Recovers number conversation place test bound alternates)))) tells.1 agree

    -- each statement
    command_agrees : (p : ℕ) (frames : Frames) (command : Command) (a b : ℕ) → CommandPlaced tree slots owner command c a b
        → CommandInFrames tree slots p frames command
        → Agree (wants tree command) a
    unfolding ExpressionCode CommandForm
    command_agrees p frames (Assignment to value) a b (d, turn, code) inside =
        asks_behind tree _ a d Acts turn (store_asks slots to (ExpressionCode slots value) d b (λ e first. expression_asks slots value d e first) code)
    command_agrees p frames (Printing items) a b (d, turn, (e, code, print)) inside =
        asks_behind tree _ a d Acts turn (items_ask slots items d e code (asks_by _ e b print))
    command_agrees p frames (Sending channel value) a b (d, turn, (e, room, more)) inside =
        asks_behind tree _ a d (SendsOn (channel_number tree channel.text)) turn
        (asks_by _ d e room ∙ ap SendsOn (channel_is (channel_number tree channel.text) channel.id inside.0.slot))
    command_agrees p frames (Receiving channel to otherwise) a b code inside =
        ap (λ n. wants_receipt n otherwise) (sym (channel_is (channel_number tree channel.text) channel.id inside.0.slot))
        ∙ receipt_agrees _ (channel_of slots channel.id) (StoreCode slots to (One (Take (channel_of slots channel.id)))) otherwise a b code
    command_agrees p frames (Conditional test body otherwise) a b code inside =
        branches_agree _ test (BodyPlaced tree slots owner body) otherwise a b code
    command_agrees p frames (Loop test body) a b (loop, (end, (d, at_loop, (e, turn, (f, code, more))))) inside =
        subst (Agree Acts) at_loop.1 (asks_behind tree _ d e Acts turn (expression_asks slots test e f code))
    command_agrees p frames (Invocation procedure arguments) a b (d, turn, (e, code, call)) inside =
        asks_behind tree _ a d Acts turn (arguments_ask slots arguments d e code (asks_by _ e b call))
    command_agrees p frames Failure a b (d, turn, fail) inside = asks_behind tree _ a d Acts turn (asks_by _ d b fail)
    command_agrees p frames (Recovering block) a b code inside = block_agrees block a b code

    start_agrees : (block : RecoveryBlock) (a b : ℕ) → StartCode tree slots owner block c a b → Agree Starts a
    start_agrees (Recovers number conversation place test bound alternates) a b
        (block, there, (d, tells, (e, restart, (f, turn, (g, start, more))))) =
        subst (Agree Starts) (restart.1 ∙ tells.1) (asks_behind tree _ e f Starts turn (asks_by _ f g start))

    test_agrees : (block : RecoveryBlock) (a b : ℕ) → TestCode tree slots block c a b → Agree Acts a
    test_agrees (Recovers number conversation place test bound alternates) a b (d, turn, (e, code, more)) =
        asks_behind tree _ a d Acts turn (expression_asks slots test d e code)

  -- what is left, where no end stands first
  pub wants_agree : (tree : Tree) (slots : List Slot) (p : ℕ) (stacks : List (List Shape)) (items : List Item) (calls : List OpenCall) (a : ℕ)
      → Left tree slots c p stacks items calls a → IsSettled items
      → wants_first tree items ≡ wants_there c (slice_get c.instrs a) (slice_get c.instrs (a + 1))
  wants_agree tree slots p stacks [] calls a left settled = sym (ap (λ o. wants_there c o (slice_get c.instrs (a + 1))) left.0)
  wants_agree tree slots p stacks (Perform command ∷ rest) calls a (b, code, inside, left) settled =
      command_agrees tree slots (owner_of tree p) p _ command a b code inside
  wants_agree tree slots p stacks (StartOf block ∷ rest) calls a (b, code, inside, left) settled =
      start_agrees tree slots (owner_of tree p) block a b code
  wants_agree tree slots p stacks (TestOf block ∷ rest) calls a (b, code, inside, left) settled =
      test_agrees tree slots (owner_of tree p) block a b code
  wants_agree tree slots p stacks (EndBlock ∷ rest) calls a left settled = absurd settled
  wants_agree tree slots p stacks (EndCall ∷ rest) calls a left settled = absurd settled
