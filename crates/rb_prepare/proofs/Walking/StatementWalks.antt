-- The code of statements is walked, and counts what their recovery blocks weigh.
use Rattle.std.proofs.Common.{◌≡◌, ℕ, ◌+◌, ◌<◌, ◌≤◌, true, false, List, [], ◌∷◌, ◌++◌, length, slice_get, Option, Some, None, ap, sym, ◌∙◌, subst, arith}
use Rattle.std.proofs.lemmas.List.Elements.{All-head, All-tail}
use Rattle.std.proofs.lemmas.List.Folds.{list_all-append}
use Rattle.std.specs.List.{All, list_all}
use Rattle.rb_base.specs.declared.limits.TheConstants.{MOST_TURNS}
use Rattle.rb_syntax.specs.declared.expression.Number.{Number}
use Rattle.rb_syntax.specs.Tree.{Identifier, Expression, Reference, Refer, Scalar, Element, Printed, Words, Amount, PrintItem, Command, Assignment, Printing, Sending, Receiving, Conditional, Loop, Invocation, Failure, Recovering, Commands, NoCommand, Then, Body, Scope, NoElse, Else, Recovers, Alternates, NoAlternate, Alternate, ProcedureDeclaration, Tree}
use Rattle.rb_world.specs.World.{is_number}
use Rattle.rb_world.proofs.ListFacts.{first_holds, none_some, second_holds, some_same}
use Rattle.rb_world.proofs.LevelFacts.{of_number}
use Rattle.rb_meaning.specs.Environment.{frame_of, frame_words, natural}
use Rattle.rb_meaning.specs.Groups.{conversation_number, conversation_of, count_alternates, procedures_of}
use Rattle.rb_meaning.specs.Nesting.{Spot, Use, alternates_of, inside, joined, keeps_n5, uses_in, uses_in_alternates, uses_in_body, uses_in_command}
use Rattle.rb_scope.specs.Frames.{Frames, in_acceptance, pushed}
use Rattle.rb_scope.specs.InFrames.{AlternatesInFrames, BodyInFrames, CommandInFrames, CommandsInFrames, ExpressionInFrames, IsChannel, IsScalar, JoinedInFrames, PrintedInFrames, ReferenceInFrames}
use Rattle.rb_scope.specs.Limits.{AlternatesWithin, BodyWithin, CommandWithin, CommandsWithin, IsFrom1To}
use Rattle.rb_scope.specs.Spelled.{AlternatesSpelled, BodySpelled, CommandSpelled, CommandsSpelled, PrintedSpelled}
use Rattle.rb_scope.specs.declared.slot.Slot.{Slot}
use Rattle.rb_code.specs.Instructions.Plain.{Block, Code}
use Rattle.rb_code.specs.Agreement.Slots.{channel_in, channel_of, elements_of, procedure_in, procedure_of, spot_of}
use Rattle.rb_code.specs.WordMachine.Workspace.{part_of}
use Rattle.rb_code.specs.SoundCode.Sound.{Each, IsProcedureAt}
use Rattle.rb_code.specs.Agreement.Template.{One, Template}
use Rattle.rb_code.specs.Agreement.Forms.{AlternatesCode, AlternatesForm, ArgumentsCode, BlockForm, BodyCode, BodyForm, BranchesForm, CommandCode, CommandForm, CommandsCode, CommandsForm, ExpressionCode, ItemsCode, OthersCode, OthersForm, Owner, PrintedCode, ReceiptForm, StoreCode, TellsOf, procedure_start, procedure_words}
use Rattle.rb_code.specs.declared.instr.Instr.{Instr}
use Rattle.rb_code.specs.declared.instr.Instr.TheVariants.{Turn, Bound, Store, StoreAt, Text, Item, Print, Room, Put, Take, Call, Fail, Enter, Start, Test}
use Rattle.rb_judge.specs.HasAlternates.{AlternatesHaveAlternates, BodyHasAlternates, CommandHasAlternates, CommandsHaveAlternates}
use Rattle.rb_prepare.proofs.Walking.Laid.{BlockLies, Inside, one_if}
use Rattle.rb_prepare.proofs.Onward.{Onward}
use Rattle.rb_prepare.proofs.Walking.Walked.{IsPlain, Scene, Walked, flat_then, then_one, walked_none, walked_one, walked_then}
use Rattle.rb_prepare.proofs.Walking.ExpressionWalks.{Walks, expression_walked}
use Rattle.rb_prepare.proofs.Walking.FormWalks.{Alternatives, WalksBy, alternative, before, behind, drop_walked, frame_walked, if_else_walked, if_walked, no_alternative, no_other, other_alternative, receive_else_walked, receive_walked, recovery_walked, while_walked}
use Rattle.rb_prepare.proofs.Joining.Weights.{Weight, weight_in, weight_in_alternates, weight_in_body, weight_in_command}

-- uses that have as many alternates as the first ones
abbrev pub AsMany : Tree → List Use → Type 0
AsMany tree uses = list_all (keeps_n5 tree) uses ≡ true

pub many_first : (tree : Tree) (xs ys : List Use) → AsMany tree (xs ++ ys) → AsMany tree xs
many_first tree xs ys h =
    first_holds (list_all (keeps_n5 tree) xs) (list_all (keeps_n5 tree) ys) (sym (list_all-append (keeps_n5 tree) xs ys) ∙ h)

pub many_second : (tree : Tree) (xs ys : List Use) → AsMany tree (xs ++ ys) → AsMany tree ys
many_second tree xs ys h =
    second_holds (list_all (keeps_n5 tree) xs) (list_all (keeps_n5 tree) ys) (sym (list_all-append (keeps_n5 tree) xs ys) ∙ h)

module _ (c : Code) (tree : Tree) where
  -- what the list of blocks tells of a recovery block, with its place in the code
  block_lies : (slots : List Slot) (conversation : Option Identifier) (line : ℕ) (bound : Number) (alternates : Alternates) (spot : Spot)
      → JoinedInFrames tree slots conversation
      → IsFrom1To MOST_TURNS bound → 1 ≤ count_alternates alternates → AsMany tree (joined conversation alternates spot)
      → (block : Block) (p q : ℕ) → TellsOf tree conversation line (natural bound.value) block → length block.alternates ≡ count_alternates alternates
      → Inside p q block.restart → Inside p q block.test → Each block.alternates (Inside p q) → BlockLies tree p q block
  block_lies slots conversation line bound alternates spot names limits some as_many block p q tells many restart test addresses = record {
    bound = (let e = tells.bound_is in omega (arith, limits.some), let e = tells.bound_is in omega (arith, limits.few));
    some = omega (arith, many);
    conversation = λ d is. by conversation names as_many d (sym tells.conversation_is ∙ is);
    restart = restart;
    test = test;
    alternates = addresses;
  }
    where
      by : (joins : Option Identifier) → JoinedInFrames tree slots joins → AsMany tree (joined joins alternates spot) → (d : ℕ)
          → conversation_of tree joins ≡ Some d → (d < length tree.conversations) × (alternates_of tree d ≡ Some (length block.alternates))
      by None names as_many d is = absurd (none_some is)
      by (Some name) names as_many d is =
          let same = some_same is in
          let all = of_number (alternates_of tree (conversation_number tree name.text)) (count_alternates alternates)
          (first_holds (is_number (alternates_of tree (conversation_number tree name.text)) (count_alternates alternates)) true as_many) in (
            subst (λ k. k < length tree.conversations) same names.there,
            ap (alternates_of tree) (sym same) ∙ all ∙ ap Some (sym many),
          )

  module _ (s : Scene) (plain : (instr : Instr) → IsPlain instr → s.counts instr ≡ false) (slots : List Slot) (p : ℕ)
      (owner : Owner) (w : Weight)
      (channels : length c.channels ≡ length tree.channels)
      (entrances : (number : ℕ) (procedure : ProcedureDeclaration) → slice_get (procedures_of (slice_get tree.processes p)) number ≡ Some procedure
      → IsProcedureAt (part_of c s.process).procedures (procedure_start c owner.number number))
      (weighs : (number : ℕ) (conversation : Option Identifier) (block : Block) → slice_get c.blocks number ≡ Some block
      → block.conversation ≡ conversation_of tree conversation
      → one_if (s.counts (Enter number)) + (one_if (s.counts (Start number)) + one_if (s.counts (Test number))) ≡ w number conversation) where
    abbrev expression : (frames : Frames) (e : Expression) → ExpressionInFrames slots frames e → Walks c tree s plain (ExpressionCode slots e)
    expression frames e names = expression_walked c tree s plain slots frames e names

    store_walked : (frames : Frames) (to : Reference) (value : Template) → ReferenceInFrames slots frames (IsScalar slots frames) to
        → Walks c tree s plain value → Walks c tree s plain (StoreCode slots to value)
    store_walked frames (Refer name Scalar) value names walks a b (m, code, one) =
        then_one c tree s plain a m b (Store (spot_of slots name.id)) (walks a m code) one tt tt tt
    store_walked frames (Refer name (Element index)) value names walks a b (m, code, (r, bound, (q, valued, one))) =
        then_one c tree s plain a q b (StoreAt (spot_of slots name.id))
        (flat_then c tree s plain a r q
        (then_one c tree s plain a m r (Bound (elements_of slots name.id)) (expression frames index names.1 a m code) bound tt tt tt)
        (walks r q valued))
        one tt tt tt

    printed_walked : (frames : Frames) (printed : Printed) → PrintedInFrames slots frames printed → PrintedSpelled printed
        → Walks c tree s plain (PrintedCode slots printed)
    printed_walked frames (Words text) names spelled a b (k, at, one) = walked_one c tree s plain a b (Text k) one (text, at, spelled) tt tt
    printed_walked frames (Amount value) names spelled a b (m, code, one) =
        then_one c tree s plain a m b Item (expression frames value names a m code) one tt tt tt

    items_walked : (frames : Frames) (items : List PrintItem) → All (λ item. PrintedInFrames slots frames item.what) items
        → All (λ item. PrintedSpelled item.what) items → Walks c tree s plain (ItemsCode slots items)
    items_walked frames [] names spelled a b e = walked_none c tree s a b e
    items_walked frames (item ∷ items) names spelled a b (m, code, more) =
        flat_then c tree s plain a m b
        (printed_walked frames item.what (All-head (λ (one : PrintItem). PrintedInFrames slots frames one.what) item items names)
        (All-head (λ (one : PrintItem). PrintedSpelled one.what) item items spelled) a m code)
        (items_walked frames items (All-tail (λ (one : PrintItem). PrintedInFrames slots frames one.what) item items names)
        (All-tail (λ (one : PrintItem). PrintedSpelled one.what) item items spelled) m b more)

    arguments_walked : (frames : Frames) (arguments : List Expression) → All (ExpressionInFrames slots frames) arguments
        → Walks c tree s plain (ArgumentsCode slots arguments)
    arguments_walked frames [] names a b e = walked_none c tree s a b e
    arguments_walked frames (argument ∷ arguments) names a b (m, code, more) =
        flat_then c tree s plain a m b (expression frames argument (All-head (ExpressionInFrames slots frames) argument arguments names) a m code)
        (arguments_walked frames arguments (All-tail (ExpressionInFrames slots frames) argument arguments names) m b more)

    channel_there : (channel : Identifier) → IsChannel tree slots channel → channel_of slots channel.id < length c.channels
    channel_there channel is = let e = ap channel_in is.slot in let h = is.there in omega (arith, channels)

    taken_walked : (frames : Frames) (channel : Identifier) (to : Reference) → IsChannel tree slots channel
        → ReferenceInFrames slots frames (IsScalar slots frames) to
        → Walks c tree s plain (StoreCode slots to (One (Take (channel_of slots channel.id))))
    taken_walked frames channel to is names =
        store_walked frames to (One (Take (channel_of slots channel.id))) names
        (λ a b one. walked_one c tree s plain a b (Take (channel_of slots channel.id)) one (channel_there channel is) tt tt)

    mutual
      unfolding CommandForm CommandsForm BodyForm ReceiptForm BranchesForm BlockForm AlternatesForm OthersForm

      pub command_walked : (frames : Frames) (spot : Spot) (command : Command) → CommandInFrames tree slots p frames command → CommandWithin command
          → CommandSpelled command → CommandHasAlternates command → AsMany tree (uses_in_command spot command)
          → WalksBy c tree s plain (weight_in_command w command) (CommandCode tree slots owner command)
      command_walked frames spot (Assignment to value) names limits spelled some many a b (m, turn, code) =
          flat_then c tree s plain a m b (walked_one c tree s plain a m Turn turn tt tt tt)
          (store_walked frames to (ExpressionCode slots value) names.0 (expression frames value names.1) m b code)
      command_walked frames spot (Printing items) names limits spelled some many a b (m, turn, (r, code, print)) =
          flat_then c tree s plain a m b (walked_one c tree s plain a m Turn turn tt tt tt)
          (then_one c tree s plain m r b Print (items_walked frames items names spelled m r code) print tt tt tt)
      command_walked frames spot (Sending channel value) names limits spelled some many a b (m, turn, (r, room, (q, code, put))) =
          flat_then c tree s plain a m b (walked_one c tree s plain a m Turn turn tt tt tt)
          (flat_then c tree s plain m r b
          (walked_one c tree s plain m r (Room (channel_of slots channel.id)) room (channel_there channel names.0) tt tt)
          (then_one c tree s plain r q b (Put (channel_of slots channel.id)) (expression frames value names.1 r q code) put
          (channel_there channel names.0) tt tt))
      command_walked frames spot (Receiving channel to NoElse) names limits spelled some many a b code =
          receive_walked c tree s plain (channel_of slots channel.id) (StoreCode slots to (One (Take (channel_of slots channel.id))))
          (channel_there channel names.0) (taken_walked frames channel to names.0 names.1) a b code
      command_walked frames spot (Receiving channel to (Else other)) names limits spelled some many a b code =
          receive_else_walked c tree s plain (weight_in_body w other) (channel_of slots channel.id)
          (StoreCode slots to (One (Take (channel_of slots channel.id)))) (BodyCode tree slots owner other)
          (channel_there channel names.0) (taken_walked frames channel to names.0 names.1)
          (λ x y q. body_walked frames spot other names.2 limits spelled some many x y q) a b code
      command_walked frames spot (Conditional test body NoElse) names limits spelled some many a b code =
          let n = weight_in_body w body in
          subst (λ k. Walked c tree s k a b) (let e : n ≡ n + 0 = omega arith in e)
          (if_walked c tree s plain n (ExpressionCode slots test) (BodyCode tree slots owner body) (expression frames test names.0)
          (λ x y q. body_walked frames spot body names.1 limits.0 spelled.0 some.0 (many_first tree (uses_in_body spot body) [] many) x y q) a b code)
      command_walked frames spot (Conditional test body (Else other)) names limits spelled some many a b code =
          if_else_walked c tree s plain (weight_in_body w body) (weight_in_body w other) (ExpressionCode slots test) (BodyCode tree slots owner body)
          (BodyCode tree slots owner other) (expression frames test names.0)
          (λ x y q. body_walked frames spot body names.1 limits.0 spelled.0 some.0
          (many_first tree (uses_in_body spot body) (uses_in_body spot other) many) x y q)
          (λ x y q. body_walked frames spot other names.2 limits.1 spelled.1 some.1
          (many_second tree (uses_in_body spot body) (uses_in_body spot other) many) x y q)
          a b code
      command_walked frames spot (Loop test body) names limits spelled some many a b code =
          while_walked c tree s plain (weight_in_body w body) (ExpressionCode slots test) (BodyCode tree slots owner body)
          (expression frames test names.0)
          (λ x y q. body_walked frames spot body names.1 limits spelled some many x y q) a b code
      command_walked frames spot (Invocation procedure arguments) names limits spelled some many a b (m, turn, (r, code, call)) =
          let number = procedure_of slots procedure.id in
          let same : names.0.number ≡ number = sym (ap procedure_in names.0.slot) in
          let to = entrances number names.0.procedure
          (subst (λ k. slice_get (procedures_of (slice_get tree.processes p)) k ≡ Some names.0.procedure) same names.0.there) in
          flat_then c tree s plain a m b (walked_one c tree s plain a m Turn turn tt tt tt)
          (then_one c tree s plain m r b (Call (procedure_start c owner.number number) (length arguments) (procedure_words owner.procedures number))
          (arguments_walked frames arguments names.1 m r code) call to tt tt)
      command_walked frames spot Failure names limits spelled some many a b (m, turn, fail) =
          then_one c tree s plain a m b Fail (walked_one c tree s plain a m Turn turn tt tt tt) fail tt tt tt
      command_walked frames spot (Recovering (Recovers number conversation place test bound alternates)) names limits spelled some many a b code =
          let joins = joined conversation alternates spot in
          let others = uses_in_alternates (inside conversation spot) alternates in
          recovery_walked c tree s plain number (weight_in_alternates w alternates) (count_alternates alternates) (w number conversation)
          (TellsOf tree conversation place.line (natural bound.value)) (AlternatesCode tree slots owner alternates) (ExpressionCode slots test) some.0
          (λ block at tells. weighs number conversation block at tells.conversation_is)
          (λ block x y at tells long up restart_at test_at all.
          block_lies slots conversation place.line bound alternates spot names.0 limits.0 some.0
          (many_first tree joins others many) block x y tells long restart_at test_at all)
          (λ addresses to x y at q.
          alternates_walked frames (inside conversation spot) alternates addresses to x y at names.2 limits.1 spelled some.1
          (many_second tree joins others many) q)
          (expression (in_acceptance frames) test names.1) a b code

      pub commands_walked : (frames : Frames) (spot : Spot) (commands : Commands)
          → CommandsInFrames tree slots p frames commands → CommandsWithin commands
          → CommandsSpelled commands → CommandsHaveAlternates commands → AsMany tree (uses_in spot commands)
          → WalksBy c tree s plain (weight_in w commands) (CommandsCode tree slots owner commands)
      commands_walked frames spot NoCommand names limits spelled some many a b e = walked_none c tree s a b e
      commands_walked frames spot (Then first rest) names limits spelled some many a b (m, code, more) =
          walked_then c tree s (weight_in_command w first) (weight_in w rest) a m b
          (command_walked frames spot first names.0 limits.0 spelled.0 some.0
          (many_first tree (uses_in_command spot first) (uses_in spot rest) many) a m code)
          (commands_walked frames spot rest names.1 limits.1 spelled.1 some.1
          (many_second tree (uses_in_command spot first) (uses_in spot rest) many) m b more)

      body_walked : (frames : Frames) (spot : Spot) (body : Body) → BodyInFrames tree slots p frames body → BodyWithin body
          → BodySpelled body → BodyHasAlternates body → AsMany tree (uses_in_body spot body)
          → WalksBy c tree s plain (weight_in_body w body) (BodyCode tree slots owner body)
      body_walked frames spot (Scope variables commands) names limits spelled some many a b (m, frame, (r, code, drop)) =
          before c tree s plain (weight_in w commands) a m b (frame_walked c tree s plain (frame_words (frame_of variables)) a m frame)
          (behind c tree s plain (weight_in w commands) m r b
          (commands_walked (pushed variables frames) spot commands names limits spelled some many m r code)
          (drop_walked c tree s plain (frame_words (frame_of variables)) r b drop))

      alternates_walked : (frames : Frames) (spot : Spot) (alternates : Alternates) (addresses : List ℕ) (to a b : ℕ) → to ≡ b
          → AlternatesInFrames tree slots p frames alternates → AlternatesWithin alternates → AlternatesSpelled alternates
          → AlternatesHaveAlternates alternates → AsMany tree (uses_in_alternates spot alternates)
          → AlternatesCode tree slots owner alternates addresses to c a b
          → Alternatives c tree s plain (weight_in_alternates w alternates) a b (count_alternates alternates) addresses
          (λ from. 1 ≤ count_alternates alternates)
      alternates_walked frames spot NoAlternate addresses to a b at names limits spelled some many (none, here) =
          no_alternative c tree s plain a b addresses none here
      alternates_walked frames spot (Alternate body others) addresses to a b at names limits spelled some many (more, is, (m, code, rest)) =
          alternative c tree s plain (weight_in_body w body) (weight_in_alternates w others) a m b (count_alternates others) addresses more is
          (body_walked frames spot body names.0 limits.0 spelled.0 some.0
          (many_first tree (uses_in_body spot body) (uses_in_alternates spot others) many) a m code)
          (others_walked frames spot others more to m b at names.1 limits.1 spelled.1 some.1
          (many_second tree (uses_in_body spot body) (uses_in_alternates spot others) many) rest)

      others_walked : (frames : Frames) (spot : Spot) (alternates : Alternates) (addresses : List ℕ) (to a b : ℕ) → to ≡ b
          → AlternatesInFrames tree slots p frames alternates → AlternatesWithin alternates → AlternatesSpelled alternates
          → AlternatesHaveAlternates alternates → AsMany tree (uses_in_alternates spot alternates)
          → OthersCode tree slots owner alternates addresses to c a b
          → Alternatives c tree s plain (weight_in_alternates w alternates) a b (count_alternates alternates) addresses (λ from. Onward c from a)
      others_walked frames spot NoAlternate addresses to a b at names limits spelled some many (none, here) =
          no_other c tree s plain a b addresses none here
      others_walked frames spot (Alternate body others) addresses to a b at names limits spelled some many (d, jump, (more, is, (m, code, rest))) =
          other_alternative c tree s plain (weight_in_body w body) (weight_in_alternates w others) a d m b
          (count_alternates others) to addresses more at jump is
          (body_walked frames spot body names.0 limits.0 spelled.0 some.0
          (many_first tree (uses_in_body spot body) (uses_in_alternates spot others) many) d m code)
          (others_walked frames spot others more to m b at names.1 limits.1 spelled.1 some.1
          (many_second tree (uses_in_body spot body) (uses_in_alternates spot others) many) rest)
