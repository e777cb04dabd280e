-- Tables of all statements, from those of expressions and of simple statements.
use Rattle.std.proofs.Common.{◌≡◌, ℕ, ◌+◌, ◌<◌, ◌≤◌, true, false, List, [], ◌∷◌, slice_get, Option, ap, sym, ◌∙◌, subst, true≢false, arith}
use Rattle.std.proofs.lemmas.List.Sums.{sum_by-cons}
use Rattle.rb_base.specs.declared.limits.TheConstants.{MOST_OPERANDS}
use Rattle.rb_syntax.specs.Tree.{Declaration, Identifier, Expression, Reference, Command, Assignment, Printing, Sending, Receiving, Conditional, Loop, Invocation, Failure, Recovering, Commands, NoCommand, Then, Body, Scope, NoElse, Else, Recovers, Alternates, NoAlternate, Alternate, Tree}
use Rattle.rb_meaning.specs.Environment.{frame_of, frame_words}
use Rattle.rb_meaning.specs.Groups.{channel_number, channels_of, conversation_of as number_joined, groups_of}
use Rattle.rb_meaning.specs.Nesting.{Receives, Spot, inside, joined, uses_in, uses_in_alternates, uses_in_body, uses_in_command}
use Rattle.rb_scope.specs.Frames.{Frames, in_acceptance, pushed, shape_of, shape_words, shapes_words}
use Rattle.rb_scope.specs.InFrames.{AlternatesInFrames, BodyInFrames, CommandInFrames, CommandsInFrames, ExpressionInFrames, IsChannel, IsScalar, ReferenceInFrames}
use Rattle.rb_scope.specs.Limits.{AlternatesWithin, BodyWithin, CommandWithin, CommandsWithin}
use Rattle.rb_scope.specs.declared.slot.Slot.{Slot}
use Rattle.rb_scope.proofs.WithinLimits.{shape_words-frame}
use Rattle.rb_code.specs.Instructions.Plain.{Code}
use Rattle.rb_code.specs.WordMachine.Workspace.{part_of}
use Rattle.rb_code.specs.Agreement.Slots.{channel_in, channel_of}
use Rattle.rb_code.specs.Agreement.Operands.{HasRoom}
use Rattle.rb_code.specs.Agreement.RoomInTree.{AlternatesHaveRoom, BodyHasRoom, CommandHasRoom, CommandsHaveRoom, StoreHasRoom}
use Rattle.rb_code.specs.SoundCode.Sound.{Begun, Changed, Free, Fresh, InnermostIs, IsAbove, IsMain, IsReceiver, MayEnter, MayFrame, MayTake, Mode, OpenBlock, Within, conversation_of}
use Rattle.rb_code.specs.Agreement.Template.{One}
use Rattle.rb_code.specs.Agreement.Forms.{AlternatesCode, AlternatesForm, BlockForm, BodyCode, BodyForm, BranchesForm, CommandCode, CommandForm, CommandsCode, CommandsForm, ExpressionCode, OthersCode, OthersForm, Owner, ReceiptForm, StoreCode}
use Rattle.rb_code.specs.declared.instr.Instr.TheVariants.{Absent, Jump, JumpZero, Take, Turn}
use Rattle.rb_code.proofs.Tables.Tabled.{Around}
use Rattle.rb_code.proofs.Tables.Resting.{resting}
use Rattle.rb_code.proofs.Tables.BranchTables.{Enclosed, Statements, Tested, block_stretch, if_else_stretch, if_stretch, no_statement, receive_else_stretch, then_more, while_stretch}
use Rattle.rb_code.proofs.Tables.BlockTables.{Alternatives, alternative, no_alternative, other_alternative, recovery_stretch}
use Rattle.rb_code.proofs.Tables.StatementPlaces.{KeepRules, StandsAt, may_enter, receives_from, rules_first, rules_second, stands_inside}

-- a statement without statements in it
abbrev pub IsSimple : Command → Type 0
IsSimple (Receiving channel to (Else other)) = ⊥
IsSimple (Conditional test body otherwise) = ⊥
IsSimple (Loop test body) = ⊥
IsSimple (Recovering block) = ⊥
IsSimple command = Unit {0}

module _ (tree : Tree) (slots : List Slot) (c : Code) (owner : Owner) (P : Around) (within : Within) where
  -- What is known where a statement stands: its words are those of its frames, and the open blocks those around it.
  pub record Known (words : ℕ) (blocks : List OpenBlock) (frames : Frames) (spot : Spot) : Type 0 where
    pub above : IsAbove blocks words
    pub running_are : words ≡ shapes_words frames.running
    pub globals_are : (part_of c within.process).words ≡ shape_words frames.globals
    pub none_counted : frames.counters ≡ []
    pub none_quantified : frames.quantified ≡ 0
    pub stands : StandsAt c tree within blocks spot

  -- in an acceptance test the words of the running call are those at the entry of its block
  abbrev pub MayLookBack : List OpenBlock → Frames → Type 0
  MayLookBack blocks frames = frames.in_test ≡ true → InnermostIs blocks (λ block around. shapes_words frames.running ≤ block.words)

  -- the expression of a test
  abbrev pub TestsAreTabled : Type 0
  TestsAreTabled = (words : ℕ) (blocks : List OpenBlock) (frames : Frames) (spot : Spot) (e : Expression) (a b : ℕ) → Known words blocks frames spot
      → MayLookBack blocks frames → ExpressionInFrames slots frames e → HasRoom 0 e → ExpressionCode slots e c a b
      → Tested c (groups_of tree) P within words blocks a b

  -- a statement without statements in it
  abbrev pub SimpleAreTabled : Type 0
  SimpleAreTabled = (words : ℕ) (blocks : List OpenBlock) (frames : Frames) (spot : Spot) (command : Command) (a b : ℕ) → IsSimple command
      → Known words blocks frames spot → KeepRules tree (uses_in_command spot command) → frames.in_test ≡ false
      → CommandInFrames tree slots within.process frames command
      → CommandWithin command → CommandHasRoom command → CommandCode tree slots owner command c a b
      → Statements c (groups_of tree) P within words blocks a b

  -- a message that goes to its place
  abbrev pub TakenIsTabled : Type 0
  TakenIsTabled =
      (words : ℕ) (blocks : List OpenBlock) (frames : Frames) (spot : Spot) (to : Reference) (channel a b : ℕ) → Known words blocks frames spot
      → frames.in_test ≡ false → ReferenceInFrames slots frames (IsScalar slots frames) to → StoreHasRoom to (λ n. n < MOST_OPERANDS)
      → StoreCode slots to (One (Take channel)) c a b → Enclosed c (groups_of tree) P within words blocks (MayTake channel) a b

  known_pushed : (words : ℕ) (blocks : List OpenBlock) (frames : Frames) (spot : Spot) (variables : List Declaration) → Known words blocks frames spot
      → Known (words + frame_words (frame_of variables)) blocks (pushed variables frames) spot
  known_pushed words blocks frames spot variables known = record {
    above = higher blocks known.above;
    running_are =
        omega (
          arith,
          known.running_are,
          sum_by-cons shape_words (shape_of (frame_of variables)) frames.running,
          shape_words-frame (frame_of variables),
        );
    globals_are = known.globals_are;
    none_counted = known.none_counted;
    none_quantified = known.none_quantified;
    stands = known.stands;
  }
    where
      higher : (opened : List OpenBlock) → IsAbove opened words → IsAbove opened (words + frame_words (frame_of variables))
      higher [] h = tt
      higher (block ∷ around) h = omega (arith, h)

  -- in a recovery block that was entered here
  known_inside : (words : ℕ) (blocks : List OpenBlock) (frames : Frames) (spot : Spot) (number : ℕ) (conversation : Option Identifier)
      → conversation_of (slice_get c.blocks number) ≡ number_joined tree conversation → Known words blocks frames spot
      → Known words (record { number = number; words = words } ∷ blocks) frames (inside conversation spot)
  known_inside words blocks frames spot number conversation is known = record {
    above = omega arith;
    running_are = known.running_are;
    globals_are = known.globals_are;
    none_counted = known.none_counted;
    none_quantified = known.none_quantified;
    stands = stands_inside c tree within blocks (record { number = number; words = words }) spot conversation is known.stands;
  }

  known_tested : (words : ℕ) (blocks : List OpenBlock) (frames : Frames) (spot : Spot) → Known words blocks frames spot
      → Known words blocks (in_acceptance frames) spot
  known_tested words blocks frames spot known = record {
    above = known.above;
    running_are = known.running_are;
    globals_are = known.globals_are;
    none_counted = known.none_counted;
    none_quantified = known.none_quantified;
    stands = known.stands;
  }

  no_test : (blocks : List OpenBlock) (frames : Frames) → frames.in_test ≡ false → MayLookBack blocks frames
  no_test blocks frames outside in_it = absurd (true≢false (sym in_it ∙ outside))

  module _ (channels_are : c.channels ≡ channels_of tree) (tests : TestsAreTabled) (simple : SimpleAreTabled) (taken : TakenIsTabled) where
    receiver_here : (blocks : List OpenBlock) (spot : Spot) (channel : Identifier) → StandsAt c tree within blocks spot → IsChannel tree slots channel
        → KeepRules tree (record { name = channel; deed = Receives; spot = spot } ∷ [])
        → IsMain within × IsReceiver (slice_get c.channels (channel_of slots channel.id)) within.process
    receiver_here blocks spot channel at is rules =
        let known = receives_from c tree within blocks spot channel at rules in
        let same : channel_number tree channel.text ≡ channel_of slots channel.id = sym (ap channel_in is.slot) in (
          known.0,
          subst (λ k. IsReceiver (slice_get c.channels k) within.process) same
              (subst (λ channels. IsReceiver (slice_get channels (channel_number tree channel.text)) within.process) (sym channels_are) known.1),
        )

    mutual
      unfolding CommandForm CommandsForm BodyForm ReceiptForm BranchesForm BlockForm AlternatesForm OthersForm

      pub command_tabled : (words : ℕ) (blocks : List OpenBlock) (frames : Frames) (spot : Spot) (command : Command) (a b : ℕ)
          → Known words blocks frames spot
          → frames.in_test ≡ false → KeepRules tree (uses_in_command spot command) → CommandInFrames tree slots within.process frames command
          → CommandWithin command → CommandHasRoom command → CommandCode tree slots owner command c a b
          → Statements c (groups_of tree) P within words blocks a b
      command_tabled words blocks frames spot (Assignment to value) a b known outside rules names limits room code =
          simple words blocks frames spot (Assignment to value) a b tt known rules outside names limits room code
      command_tabled words blocks frames spot (Printing items) a b known outside rules names limits room code =
          simple words blocks frames spot (Printing items) a b tt known rules outside names limits room code
      command_tabled words blocks frames spot (Sending channel value) a b known outside rules names limits room code =
          simple words blocks frames spot (Sending channel value) a b tt known rules outside names limits room code
      command_tabled words blocks frames spot (Receiving channel to NoElse) a b known outside rules names limits room code =
          simple words blocks frames spot (Receiving channel to NoElse) a b tt known rules outside names limits room code
      command_tabled words blocks frames spot (Receiving channel to (Else other)) a b known outside rules names limits room
          (none, (end, (m, turn, (n, absent, (i, place, (e, onward, (e', at_none, (k, other_code, at_end)))))))) =
          let k_end : b ≡ end = at_end.1 ∙ at_end.0 in
          let receives = record { name = channel; deed = Receives; spot = spot } ∷ [] in
          let ends = receiver_here blocks spot channel known.stands names.0 (rules_first tree receives (uses_in_body spot other) rules) in
          receive_else_stretch c (groups_of tree) P within words blocks known.above a m n i e b (channel_of slots channel.id) ends.0 ends.1 turn
          (subst (λ x. One (Absent (channel_of slots channel.id) x) c m n) (sym at_none.0) absent)
          (taken words blocks frames spot to (channel_of slots channel.id) n i known outside names.1 room.0 place)
          (subst (λ x. One (Jump x) c i e) (sym k_end) onward)
          (subst (λ x. Enclosed c (groups_of tree) P within words blocks Free x b) at_none.1
          (subst (λ x. Enclosed c (groups_of tree) P within words blocks Free e' x) (sym at_end.1)
          (body_tabled words blocks frames spot Free other e' k known outside tt
          (rules_second tree receives (uses_in_body spot other) rules) names.2 limits room.1 other_code)))
      command_tabled words blocks frames spot (Conditional test body NoElse) a b known outside rules names limits room
          (end, (m, turn, (n, test_code, (d, jump, (k, body_code, at_end))))) =
          if_stretch c (groups_of tree) P within words blocks known.above a m n d b turn
          (tests words blocks frames spot test m n known (no_test blocks frames outside) names.0 room.0 test_code)
          (subst (λ x. One (JumpZero x) c n d) (sym (at_end.1 ∙ at_end.0)) jump)
          (subst (λ x. Enclosed c (groups_of tree) P within words blocks Free d x) (sym at_end.1)
          (body_tabled words blocks frames spot Free body d k known outside tt
          (rules_first tree (uses_in_body spot body) [] rules) names.1 limits.0 room.1 body_code))
      command_tabled words blocks frames spot (Conditional test body (Else other)) a b known outside rules names limits room
          (fails, (end, (m, turn, (n, test_code, (d, jump, (i, body_code, (e, onward, (e', at_fails, (k, other_code, at_end))))))))) =
          if_else_stretch c (groups_of tree) P within words blocks known.above a m n d i e b turn
          (tests words blocks frames spot test m n known (no_test blocks frames outside) names.0 room.0 test_code)
          (subst (λ x. One (JumpZero x) c n d) (sym at_fails.0) jump)
          (body_tabled words blocks frames spot Free body d i known outside tt
          (rules_first tree (uses_in_body spot body) (uses_in_body spot other) rules) names.1 limits.0 room.1 body_code)
          (subst (λ x. One (Jump x) c i e) (sym (at_end.1 ∙ at_end.0)) onward)
          (subst (λ x. Enclosed c (groups_of tree) P within words blocks Free x b) at_fails.1
          (subst (λ x. Enclosed c (groups_of tree) P within words blocks Free e' x) (sym at_end.1)
          (body_tabled words blocks frames spot Free other e' k known outside tt
          (rules_second tree (uses_in_body spot body) (uses_in_body spot other) rules) names.2 limits.1 room.2 other_code)))
      command_tabled words blocks frames spot (Loop test body) a b known outside rules names limits room
          (loop, (end, (a', at_loop, (m, turn, (n, test_code, (d, jump, (i, body_code, (k, back, at_end)))))))) =
          while_stretch c (groups_of tree) P within words blocks known.above a m n d i b
          (subst (λ x. One Turn c x m) at_loop.1 turn)
          (tests words blocks frames spot test m n known (no_test blocks frames outside) names.0 room.0 test_code)
          (subst (λ x. One (JumpZero x) c n d) (sym (at_end.1 ∙ at_end.0)) jump)
          (body_tabled words blocks frames spot Free body d i known outside tt rules names.1 limits room.1 body_code)
          (subst (λ x. One (Jump x) c i b) (sym at_loop.0) (subst (One (Jump loop) c i) (sym at_end.1) back))
      command_tabled words blocks frames spot (Invocation procedure arguments) a b known outside rules names limits room code =
          simple words blocks frames spot (Invocation procedure arguments) a b tt known rules outside names limits room code
      command_tabled words blocks frames spot Failure a b known outside rules names limits room code =
          simple words blocks frames spot Failure a b tt known rules outside names limits room code
      command_tabled words blocks frames spot
          (Recovering (Recovers number conversation place test bound alternates)) a b known outside rules names limits room (
            block,
            there,
            (
              m0,
              (tells, e0),
              (
                m1,
                turn,
                (
                  m2,
                  enter,
                  (m3, (restart, e3), (m4, again, (m5, start, (m6, tries, (m7, (line, e7), (m8, last, (m9, test_code, accept))))))),
                ),
              ),
            ),
          ) =
          let inner = record { number = number; words = words } ∷ blocks in
          let is : conversation_of (slice_get c.blocks number) ≡ number_joined tree conversation = ap conversation_of there ∙ tells.conversation_is in
          let deeper = known_inside words blocks frames spot number conversation is known in
          let joins = joined conversation alternates spot in
          let others = uses_in_alternates (inside conversation spot) alternates in
          recovery_stretch c (groups_of tree) P within words blocks known.above number a m1 m2 m4 m5 m6 m8 m9 b block there
          (λ t. subst (λ o. MayEnter c (groups_of tree) t o (resting within words blocks Fresh)) (sym tells.conversation_is)
          (may_enter c tree t (resting within words blocks Fresh) spot conversation alternates known.stands (rules_first tree joins others rules)))
          (subst (λ x. One Turn c x m1) e0 turn) enter restart (subst (λ x. One Turn c x m4) e3 again) start
          (alternates_tabled words inner frames (inside conversation spot) alternates block.alternates block.test m5 m6 (sym line) deeper outside
          (rules_second tree joins others rules) names.2 limits.1 room.1 tries)
          (subst (λ x. One Turn c x m8) e7 last)
          (tests words inner (in_acceptance frames) (inside conversation spot) test m8 m9
          (known_tested words inner frames (inside conversation spot) deeper)
          (λ in_it. let r = known.running_are in omega arith) names.1 room.0 test_code) accept

      pub commands_tabled : (words : ℕ) (blocks : List OpenBlock) (frames : Frames) (spot : Spot) (commands : Commands) (a b : ℕ)
          → Known words blocks frames spot
          → frames.in_test ≡ false → KeepRules tree (uses_in spot commands) → CommandsInFrames tree slots within.process frames commands
          → CommandsWithin commands → CommandsHaveRoom commands → CommandsCode tree slots owner commands c a b
          → Statements c (groups_of tree) P within words blocks a b
      commands_tabled words blocks frames spot NoCommand a b known outside rules names limits room code =
          subst (λ x. Statements c (groups_of tree) P within words blocks a x) (sym code) (no_statement c (groups_of tree) P within words blocks a)
      commands_tabled words blocks frames spot (Then first rest) a b known outside rules names limits room (m, code, more) =
          then_more c (groups_of tree) P within words blocks Changed a m b
          (command_tabled words blocks frames spot first a m known outside
          (rules_first tree (uses_in_command spot first) (uses_in spot rest) rules) names.0 limits.0 room.0 code)
          (commands_tabled words blocks frames spot rest m b known outside
          (rules_second tree (uses_in_command spot first) (uses_in spot rest) rules) names.1 limits.1 room.1 more)

      body_tabled : (words : ℕ) (blocks : List OpenBlock) (frames : Frames) (spot : Spot) (mode : Mode) (body : Body) (a b : ℕ)
          → Known words blocks frames spot
          → frames.in_test ≡ false → MayFrame mode → KeepRules tree (uses_in_body spot body) → BodyInFrames tree slots within.process frames body
          → BodyWithin body → BodyHasRoom body → BodyCode tree slots owner body c a b
          → Enclosed c (groups_of tree) P within words blocks mode a b
      body_tabled words blocks frames spot mode (Scope variables commands) a b known outside may rules names limits room (m, frame, (n, code, drop)) =
          block_stretch c (groups_of tree) P within words blocks known.above (frame_words (frame_of variables)) a m n b mode may frame
          (commands_tabled (words + frame_words (frame_of variables)) blocks (pushed variables frames) spot commands m n
          (known_pushed words blocks frames spot variables known) outside rules names limits room code)
          drop

      alternates_tabled : (words : ℕ) (blocks : List OpenBlock) (frames : Frames) (spot : Spot) (alternates : Alternates)
          (addresses : List ℕ) (test a b : ℕ) → test ≡ b
          → Known words blocks frames spot → frames.in_test ≡ false → KeepRules tree (uses_in_alternates spot alternates)
          → AlternatesInFrames tree slots within.process frames alternates → AlternatesWithin alternates → AlternatesHaveRoom alternates
          → AlternatesCode tree slots owner alternates addresses test c a b
          → Alternatives c (groups_of tree) P within words blocks Begun a b addresses
      alternates_tabled words blocks frames spot NoAlternate addresses test a b e known outside rules names limits room (none, here) =
          subst (Alternatives c (groups_of tree) P within words blocks Begun a b) (sym none)
          (subst (λ x. Alternatives c (groups_of tree) P within words blocks Begun a x []) (sym here)
          (no_alternative c (groups_of tree) P within words blocks Begun a))
      alternates_tabled words blocks frames spot
          (Alternate body others) addresses test a b e known outside rules names limits room (more, is, (m, code, rest)) =
          subst (Alternatives c (groups_of tree) P within words blocks Begun a b) (sym is)
          (alternative c (groups_of tree) P within words blocks a m b more
          (body_tabled words blocks frames spot Begun body a m known outside tt
          (rules_first tree (uses_in_body spot body) (uses_in_alternates spot others) rules) names.0 limits.0 room.0 code)
          (others_tabled words blocks frames spot others more test m b e known outside
          (rules_second tree (uses_in_body spot body) (uses_in_alternates spot others) rules) names.1 limits.1 room.1 rest))

      others_tabled : (words : ℕ) (blocks : List OpenBlock) (frames : Frames) (spot : Spot) (alternates : Alternates)
          (addresses : List ℕ) (test a b : ℕ) → test ≡ b
          → Known words blocks frames spot → frames.in_test ≡ false → KeepRules tree (uses_in_alternates spot alternates)
          → AlternatesInFrames tree slots within.process frames alternates → AlternatesWithin alternates → AlternatesHaveRoom alternates
          → OthersCode tree slots owner alternates addresses test c a b
          → Alternatives c (groups_of tree) P within words blocks Changed a b addresses
      others_tabled words blocks frames spot NoAlternate addresses test a b e known outside rules names limits room (none, here) =
          subst (Alternatives c (groups_of tree) P within words blocks Changed a b) (sym none)
          (subst (λ x. Alternatives c (groups_of tree) P within words blocks Changed a x []) (sym here)
          (no_alternative c (groups_of tree) P within words blocks Changed a))
      others_tabled words blocks frames spot
          (Alternate body others) addresses test a b e known outside rules names limits room
          (d, jump, (more, is, (m, code, rest))) =
          subst (Alternatives c (groups_of tree) P within words blocks Changed a b) (sym is)
          (other_alternative c (groups_of tree) P within words blocks a d b (d ∷ more) known.above (subst (λ x. One (Jump x) c a d) e jump)
          (alternative c (groups_of tree) P within words blocks d m b more
          (body_tabled words blocks frames spot Begun body d m known outside tt
          (rules_first tree (uses_in_body spot body) (uses_in_alternates spot others) rules) names.0 limits.0 room.0 code)
          (others_tabled words blocks frames spot others more test m b e known outside
          (rules_second tree (uses_in_body spot body) (uses_in_alternates spot others) rules) names.1 limits.1 room.1 rest)))
