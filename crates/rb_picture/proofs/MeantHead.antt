-- The head of the trace of a code, and what was before its opening, are those of the tree for which it stands.
use Rattle.std.proofs.Common.{◌≡◌, ℕ, ◌+◌, suc, List, [], ◌∷◌, ◌++◌, length, map, slice_get, Some, length-append, refl, sym, ap, ap₂, ◌∙◌, subst, arith}
use Rattle.std.specs.List.{flat_map}
use Rattle.rb_syntax.specs.Tree.{Expression, Reference, Command, Assignment, Printing, Sending, Receiving, Conditional, Loop, Invocation, Failure, Recovering, Commands, NoCommand, Then, Body, Scope, Otherwise, NoElse, Else, RecoveryBlock, Recovers, Alternates, NoAlternate, Alternate, ConversationDeclaration, ProcedureDeclaration, ProcessDeclaration, Tree}
use Rattle.rb_syntax.specs.Numbered.{AlternatesNumbered, BodyNumbered, CommandNumbered, CommandsNumbered, IsNumbered, OtherwiseNumbered, ProceduresNumbered, ProcessesNumbered, RecoveryNumbered, blocks_in, blocks_in_alternates, blocks_in_body, blocks_in_command, blocks_in_otherwise, blocks_in_procedures, blocks_in_process, blocks_in_processes, blocks_in_recovery}
use Rattle.rb_world.specs.Kind.{Ends, Facts}
use Rattle.rb_world.specs.Text.{Naming}
use Rattle.rb_world.specs.Turn.{opening_talks}
use Rattle.rb_world.proofs.ListFacts.{some_same}
use Rattle.rb_meaning.specs.Environment.{frame_of, frame_words}
use Rattle.rb_meaning.specs.Groups.{count_alternates, groups_of, number_or_zero}
use Rattle.rb_meaning.specs.Meaning.{naming_of}
use Rattle.rb_meaning.specs.Nesting.{alternates_of}
use Rattle.rb_meaning.specs.Step.{commands_of}
use Rattle.rb_scope.specs.declared.slot.Slot.{Slot}
use Rattle.rb_code.specs.Instructions.Plain.{Block, Code, Part, Procedure}
use Rattle.rb_code.specs.Agreement.Forms.{AlternatesCode, AlternatesForm, BlockCode, BlockForm, BodyCode, BodyForm, BranchesCode, BranchesForm, CommandCode, CommandForm, CommandsCode, CommandsForm, ExpressionCode, OthersCode, OthersForm, Owner, ProceduresCode, ReceiptCode, ReceiptForm, StoreCode}
use Rattle.rb_code.specs.Agreement.StandsFor.{ProcessesCode, StandsFor}
use Rattle.rb_code.specs.Agreement.Slots.{channel_of}
use Rattle.rb_code.specs.Agreement.Template.{One}
use Rattle.rb_code.specs.declared.instr.Instr.TheVariants.{Take}
use Rattle.rb_code.specs.WordMachine.Turn.{block_facts}
use Rattle.rb_picture.specs.Head.{block_head, facts_head, head_text, head_with, meetings}
use Rattle.rb_picture.specs.Laws.{AreCounts}
use Rattle.rb_picture.specs.Meant.{before_run, blocks_of_alternates, blocks_of_body, blocks_of_command, blocks_of_commands, blocks_of_otherwise, blocks_of_procedures, blocks_of_processes, blocks_of_recovery, counts_from, counts_of, tree_head}
use Rattle.rb_changes.specs.Noted.{ProcessNoted}
use Rattle.rb_changes.specs.Numbered.{numbered}
use Rattle.rb_changes.specs.Shown.{unused}
use Rattle.rb_picture.specs.Trace.{before_opening, fresh_process, process_before}

-- as many recovery blocks are told as are numbered
module _ (tree : Tree) where
  mutual
    command_many : (command : Command) → length (blocks_of_command tree command) ≡ blocks_in_command command
    command_many (Assignment to value) = refl
    command_many (Printing items) = refl
    command_many (Sending channel value) = refl
    command_many (Receiving channel to otherwise) = otherwise_many otherwise
    command_many (Conditional test body otherwise) =
        length-append (blocks_of_body tree body) (blocks_of_otherwise tree otherwise) ∙ ap₂ ◌+◌ (body_many body) (otherwise_many otherwise)
    command_many (Loop test body) = body_many body
    command_many (Invocation procedure arguments) = refl
    command_many Failure = refl
    command_many (Recovering block) = recovery_many block

    commands_many : (commands : Commands) → length (blocks_of_commands tree commands) ≡ blocks_in commands
    commands_many NoCommand = refl
    commands_many (Then first rest) =
        length-append (blocks_of_command tree first) (blocks_of_commands tree rest) ∙ ap₂ ◌+◌ (command_many first) (commands_many rest)

    body_many : (body : Body) → length (blocks_of_body tree body) ≡ blocks_in_body body
    body_many (Scope variables commands) = commands_many commands

    otherwise_many : (otherwise : Otherwise) → length (blocks_of_otherwise tree otherwise) ≡ blocks_in_otherwise otherwise
    otherwise_many NoElse = refl
    otherwise_many (Else body) = body_many body

    recovery_many : (block : RecoveryBlock) → length (blocks_of_recovery tree block) ≡ blocks_in_recovery block
    recovery_many (Recovers number conversation place test bound alternates) =
        let others = alternates_many alternates in omega (arith, others)

    alternates_many : (alternates : Alternates) → length (blocks_of_alternates tree alternates) ≡ blocks_in_alternates alternates
    alternates_many NoAlternate = refl
    alternates_many (Alternate body others) =
        length-append (blocks_of_body tree body) (blocks_of_alternates tree others) ∙ ap₂ ◌+◌ (body_many body) (alternates_many others)

  procedures_many : (procedures : List ProcedureDeclaration) → length (blocks_of_procedures tree procedures) ≡ blocks_in_procedures procedures
  procedures_many [] = refl
  procedures_many (procedure ∷ others) =
      length-append (blocks_of_body tree procedure.body) (blocks_of_procedures tree others) ∙ ap₂ ◌+◌ (body_many procedure.body) (procedures_many others)

  process_many : (process : ProcessDeclaration)
      → length (blocks_of_procedures tree process.procedures ++ blocks_of_commands tree process.commands) ≡ blocks_in_process process
  process_many process =
      length-append (blocks_of_procedures tree process.procedures) (blocks_of_commands tree process.commands)
      ∙ ap₂ ◌+◌ (procedures_many process.procedures) (commands_many process.commands)

  processes_many : (processes : List ProcessDeclaration) → length (blocks_of_processes tree processes) ≡ blocks_in_processes processes
  processes_many [] = refl
  processes_many (process ∷ others) =
      length-append (blocks_of_procedures tree process.procedures ++ blocks_of_commands tree process.commands) (blocks_of_processes tree others)
      ∙ ap₂ ◌+◌ (process_many process) (processes_many others)

-- the list of recovery blocks of a code tells this of block number n
pub record TellsFacts (c : Code) (n : ℕ) (facts : Facts) : Type 0 where
  pub block : Block
  pub there : slice_get c.blocks n ≡ Some block
  pub same : facts ≡ block_facts n block

-- and so of the blocks from number n on
abbrev AreBlocks : Code → ℕ → List Facts → Type 0
AreBlocks c n [] = Unit {0}
AreBlocks c n (facts ∷ others) = TellsFacts c n facts × AreBlocks c (n + 1) others

blocks_joined : (c : Code) (n m : ℕ) (first others : List Facts) → m ≡ n + length first → AreBlocks c n first → AreBlocks c m others
    → AreBlocks c n (first ++ others)
blocks_joined c n m [] others e one other = subst (λ k. AreBlocks c k others) (omega (arith, e)) other
blocks_joined c n m (facts ∷ first) others e one other =
    (one.0, blocks_joined c (n + 1) m first others (omega (arith, e)) one.1 other)

module _ (tree : Tree) (slots : List Slot) (c : Code) where
  module _ (owner : Owner) where
    mutual
      unfolding AlternatesForm OthersForm

      -- each alternate has its address
      alternates_count : (alternates : Alternates) (addresses : List ℕ) (test a b : ℕ) → AlternatesCode tree slots owner alternates addresses test c a b
          → count_alternates alternates ≡ length addresses
      alternates_count NoAlternate addresses test a b code = ap (λ (all : List ℕ). length all) (sym code.0)
      alternates_count (Alternate body others) addresses test a b (more, is, (m, one, rest)) =
          let counted = others_count others more test m b rest in
          omega (arith, counted, ap (λ (all : List ℕ). length all) is)

      others_count : (alternates : Alternates) (addresses : List ℕ) (test a b : ℕ) → OthersCode tree slots owner alternates addresses test c a b
          → count_alternates alternates ≡ length addresses
      others_count NoAlternate addresses test a b code = ap (λ (all : List ℕ). length all) (sym code.0)
      others_count (Alternate body others) addresses test a b (k, jump, (more, is, (m, one, rest))) =
          let counted = others_count others more test m b rest in
          omega (arith, counted, ap (λ (all : List ℕ). length all) is)

    mutual
      unfolding CommandForm CommandsForm BodyForm ReceiptForm BranchesForm BlockForm AlternatesForm OthersForm

      command_told : (command : Command) (n a b : ℕ) → CommandNumbered n command → CommandCode tree slots owner command c a b
          → AreBlocks c n (blocks_of_command tree command)
      command_told (Assignment to value) n a b given code = tt
      command_told (Printing items) n a b given code = tt
      command_told (Sending channel value) n a b given code = tt
      command_told (Receiving channel to otherwise) n a b given code =
          receipt_told otherwise (channel_of slots channel.id) to n a b given code
      command_told (Conditional test body otherwise) n a b given code =
          branches_told body otherwise test n a b (λ m k one. body_told body n m k given.0 one) given.1 code
      command_told (Loop test body) n a b given (loop, (end, (d0, at_loop, (d, begin, (e, test_code, (f, jump_zero, (g, code, more))))))) =
          body_told body n f g given code
      command_told (Invocation procedure arguments) n a b given code = tt
      command_told Failure n a b given code = tt
      command_told (Recovering block) n a b given code = recovery_told block n a b given code

      commands_told : (commands : Commands) (n a b : ℕ) → CommandsNumbered n commands → CommandsCode tree slots owner commands c a b
          → AreBlocks c n (blocks_of_commands tree commands)
      commands_told NoCommand n a b given code = tt
      commands_told (Then first rest) n a b given (m, one, code) =
          blocks_joined c n (n + blocks_in_command first) (blocks_of_command tree first) (blocks_of_commands tree rest)
          (ap (λ k. n + k) (sym (command_many tree first))) (command_told first n a m given.0 one) (commands_told rest _ m b given.1 code)

      body_told : (body : Body) (n a b : ℕ) → BodyNumbered n body → BodyCode tree slots owner body c a b → AreBlocks c n (blocks_of_body tree body)
      body_told (Scope variables commands) n a b given (d, frame, (m, code, drop)) = commands_told commands n d m given code

      receipt_told : (otherwise : Otherwise) (channel : ℕ) (to : Reference) (n a b : ℕ) → OtherwiseNumbered n otherwise
          → ReceiptCode tree slots owner channel (StoreCode slots to (One (Take channel))) otherwise c a b → AreBlocks c n (blocks_of_otherwise tree otherwise)
      receipt_told NoElse channel to n a b given code = tt
      receipt_told (Else other) channel to n a b given (none, (end, (d, begin, (e, absent, (f, take, (g, jump, (h, at_none, (i, code, at_end)))))))) =
          body_told other n h i given code

      -- the branches of an `if`, given what its block tells
      branches_told : (body : Body) (otherwise : Otherwise) (test : Expression) (n a b : ℕ)
          → ((m k : ℕ) → BodyCode tree slots owner body c m k → AreBlocks c n (blocks_of_body tree body))
          → OtherwiseNumbered (n + blocks_in_body body) otherwise
          → BranchesCode tree slots owner (ExpressionCode slots test) (BodyCode tree slots owner body) otherwise c a b
          → AreBlocks c n (blocks_of_body tree body ++ blocks_of_otherwise tree otherwise)
      branches_told body NoElse test n a b one others (end, (d, begin, (e, test_code, (f, jump, (g, code, at_end))))) =
          blocks_joined c n (n + blocks_in_body body) (blocks_of_body tree body) [] (ap (λ k. n + k) (sym (body_many tree body))) (one f g code) tt
      branches_told body (Else other) test n a b one others (fails, (end, (d, begin, (e, test_code, (f, jump_zero, (g, code, (h, jump, (i, at_no, (j, other_code, at_end))))))))) =
          blocks_joined c n (n + blocks_in_body body) (blocks_of_body tree body) (blocks_of_body tree other)
          (ap (λ k. n + k) (sym (body_many tree body))) (one f g code) (body_told other _ i j others other_code)

      recovery_told : (block : RecoveryBlock) (n a b : ℕ) → RecoveryNumbered n block → BlockCode tree slots owner block c a b
          → AreBlocks c n (blocks_of_recovery tree block)
      recovery_told (Recovers number conversation place test bound alternates) n a b given
          (block, there, (d, (tells, here), (e, turn, (f, enter, (g, at_restart, (h, again, (i, start, (j, code, more)))))))) = (
            record {
              block = block;
              there = ap (λ k. slice_get c.blocks k) (sym given.0) ∙ there;
              same = λ k. record {
                number = given.0 k;
                line = sym tells.line_is k;
                conversation = sym tells.conversation_is k;
                bound = sym tells.bound_is k;
                alternates = alternates_count alternates block.alternates block.test i j code k;
              };
            },
            alternates_told alternates (n + 1) block.alternates block.test i j given.1 code,
          )

      alternates_told : (alternates : Alternates) (n : ℕ) (addresses : List ℕ) (test a b : ℕ) → AlternatesNumbered n alternates
          → AlternatesCode tree slots owner alternates addresses test c a b → AreBlocks c n (blocks_of_alternates tree alternates)
      alternates_told NoAlternate n addresses test a b given code = tt
      alternates_told (Alternate body others) n addresses test a b given (more, is, (m, code, rest)) =
          blocks_joined c n (n + blocks_in_body body) (blocks_of_body tree body) (blocks_of_alternates tree others)
          (ap (λ k. n + k) (sym (body_many tree body))) (body_told body n a m given.0 code) (others_told others _ more test m b given.1 rest)

      others_told : (alternates : Alternates) (n : ℕ) (addresses : List ℕ) (test a b : ℕ) → AlternatesNumbered n alternates
          → OthersCode tree slots owner alternates addresses test c a b → AreBlocks c n (blocks_of_alternates tree alternates)
      others_told NoAlternate n addresses test a b given code = tt
      others_told (Alternate body others) n addresses test a b given (k, jump, (more, is, (m, code, rest))) =
          blocks_joined c n (n + blocks_in_body body) (blocks_of_body tree body) (blocks_of_alternates tree others)
          (ap (λ z. n + z) (sym (body_many tree body))) (body_told body n k m given.0 code) (others_told others _ more test m b given.1 rest)

    -- a procedure's block, whose variables its call pushes
    called_told : (body : Body) (n a b : ℕ) → BodyNumbered n body → CommandsCode tree slots owner (commands_of body) c a b
        → AreBlocks c n (blocks_of_body tree body)
    called_told (Scope variables commands) n a b given code = commands_told commands n a b given code

    procedures_told : (procedures : List ProcedureDeclaration) (entries : List Procedure) (n a b : ℕ) → ProceduresNumbered n procedures
        → ProceduresCode tree slots owner procedures entries c a b → AreBlocks c n (blocks_of_procedures tree procedures)
    procedures_told [] entries n a b given code = tt
    procedures_told (procedure ∷ others) entries n a b given (more, is, (m, code, (k, return, rest))) =
        blocks_joined c n (n + blocks_in_body procedure.body) (blocks_of_body tree procedure.body) (blocks_of_procedures tree others)
        (ap (λ z. n + z) (sym (body_many tree procedure.body))) (called_told procedure.body n a m given.0 code)
        (procedures_told others more _ k b given.1 rest)

  processes_told : (p : ℕ) (processes : List ProcessDeclaration) (parts : List Part) (n a b : ℕ) → ProcessesNumbered n processes
      → ProcessesCode tree slots p processes parts c a b → AreBlocks c n (blocks_of_processes tree processes)
  processes_told p [] parts n a b given code = tt
  processes_told p (process ∷ others) parts n a b given (part, more, same, (m, (tells, (k, commands, (l, done, procedures))), rest)) =
      let owner : Owner = record { number = p; procedures = process.procedures } in
      blocks_joined c n (n + blocks_in_process process) (blocks_of_procedures tree process.procedures ++ blocks_of_commands tree process.commands)
      (blocks_of_processes tree others) (ap (λ z. n + z) (sym (process_many tree process)))
      (blocks_joined c n (n + blocks_in_procedures process.procedures) (blocks_of_procedures tree process.procedures)
      (blocks_of_commands tree process.commands) (ap (λ z. n + z) (sym (procedures_many tree process.procedures)))
      (procedures_told owner process.procedures part.procedures n l m given.0.0 procedures)
      (commands_told owner process.commands _ a k given.0.1 commands))
      (processes_told (p + 1) others more _ m b given.1 rest)

  -- the lines of blocks
  lines_same : (names : Naming) (n : ℕ) (blocks : List Block) (all : List Facts)
      → ((i m : ℕ) → m ≡ n + i → slice_get c.blocks m ≡ slice_get blocks i) → length blocks ≡ length all → AreBlocks c n all
      → numbered (block_head names) n blocks ≡ flat_map (facts_head names) all
  lines_same names n [] [] at many told = refl
  lines_same names n [] (facts ∷ all) at many told = absurd (omega (arith, many))
  lines_same names n (block ∷ blocks) [] at many told = absurd (omega (arith, many))
  lines_same names n (block ∷ blocks) (facts ∷ all) at many told =
      ap₂ ◌++◌
      (ap (facts_head names) (sym (told.0.same ∙ ap (block_facts n) (some_same (sym told.0.there ∙ at 0 n (omega arith))))))
      (lines_same names (n + 1) blocks all (λ i m e. at (suc i) m (omega (arith, e))) (omega (arith, many)) told.1)

  pub blocks_same : IsNumbered tree → StandsFor tree slots c → (names : Naming)
      → numbered (block_head names) 0 c.blocks ≡ flat_map (facts_head names) (blocks_of_processes tree tree.processes)
  blocks_same given stands names =
      lines_same names 0 c.blocks (blocks_of_processes tree tree.processes)
      (λ i m e. ap (λ (k : ℕ). slice_get c.blocks k) (omega (arith, e)))
      (stands.one_block_each ∙ given.blocks ∙ sym (processes_many tree tree.processes))
      (processes_told 0 tree.processes c.processes 0 0 (length c.instrs) given.processes stands.instrs_are)

  -- before the opening
  words_before : (p : ℕ) (processes : List ProcessDeclaration) (parts : List Part) (a b : ℕ) → ProcessesCode tree slots p processes parts c a b
      → map process_before parts ≡ map (λ (process : ProcessDeclaration). fresh_process (frame_words (frame_of process.variables))) processes
  words_before p [] parts a b code = ap (map process_before) code.0
  words_before p (process ∷ others) parts a b (part, more, same, (m, (tells, code), rest)) =
      ap (map process_before) same
      ∙ ap₂ (λ (one : ProcessNoted) (all : List ProcessNoted). one ∷ all) (ap fresh_process tells.words_are) (words_before (p + 1) others more m b rest)

  pub before_same : StandsFor tree slots c → before_opening c (groups_of tree) ≡ before_run tree
  before_same stands = λ i. record {
    processes = words_before 0 tree.processes c.processes 0 (length c.instrs) stands.instrs_are i;
    channels = map (λ (ends : Ends). (unused ends.size).numbers) (stands.channels_are i);
    talks = opening_talks (groups_of tree);
  }

-- the numbers of alternates
counts_same : (tree : Tree) (d : ℕ) (conversations : List ConversationDeclaration) (counts : List ℕ) → length counts ≡ length conversations
    → ((i m n : ℕ) → m ≡ d + i → slice_get counts i ≡ Some n → alternates_of tree m ≡ Some n) → counts ≡ counts_from tree d conversations
counts_same tree d [] [] many at = refl
counts_same tree d [] (n ∷ counts) many at = absurd (omega (arith, many))
counts_same tree d (conversation ∷ others) [] many at = absurd (omega (arith, many))
counts_same tree d (conversation ∷ others) (n ∷ counts) many at =
    ap₂ (λ (one : ℕ) (all : List ℕ). one ∷ all) (sym (ap number_or_zero (at 0 d n (omega arith) refl)))
    (counts_same tree (d + 1) others counts (omega (arith, many)) (λ i m k e. at (suc i) m k (omega (arith, e))))

pub all_counts : (tree : Tree) (counts : List ℕ) → AreCounts tree counts → counts ≡ counts_of tree
all_counts tree counts are =
    counts_same tree 0 tree.conversations counts are.as_many
    (λ i m n e there. are.each m n (ap (slice_get counts) (omega (arith, e)) ∙ there))

pub heads_same : (tree : Tree) (slots : List Slot) (c : Code) (counts : List ℕ) (turns : ℕ) → IsNumbered tree → StandsFor tree slots c
    → AreCounts tree counts → head_text c (groups_of tree) counts turns ≡ tree_head tree turns
heads_same tree slots c counts turns given stands are =
    let lines : numbered (block_head c.names) 0 c.blocks ≡ flat_map (facts_head (naming_of tree)) (blocks_of_processes tree tree.processes) =
    ap (λ (names : Naming). numbered (block_head names) 0 c.blocks) stands.names_are ∙ blocks_same tree slots c given stands (naming_of tree) in
    λ i. head_with (stands.edition_is i) (stands.names_are i) (stands.channels_are i) (meetings (groups_of tree) (all_counts tree counts are i))
    (lines i) turns
