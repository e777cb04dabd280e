-- The code of statements determines what it is, and the entries of its recovery blocks.
use Rattle.std.proofs.Common.{◌≡◌, ℕ, ◌+◌, ◌<◌, ◌≤◌, nat_lt, Bool, true, false, List, [], slice_get, Option, Some, refl, ap, sym, ◌∙◌, subst, arith}
use Rattle.rb_syntax.specs.Tree.{Command, Assignment, Printing, Sending, Receiving, Conditional, Loop, Invocation, Failure, Recovering, Commands, NoCommand, Then, Body, Scope, NoElse, Else, Recovers, Alternates, NoAlternate, Alternate, Identifier, Tree}
use Rattle.rb_syntax.specs.Numbered.{AlternatesNumbered, BodyNumbered, CommandNumbered, CommandsNumbered, blocks_in, blocks_in_alternates, blocks_in_body, blocks_in_command}
use Rattle.rb_meaning.specs.Environment.{frame_of, frame_words, natural}
use Rattle.rb_scope.specs.declared.slot.Slot.{Slot}
use Rattle.rb_code.specs.Instructions.Plain.{Block, Code}
use Rattle.rb_code.specs.Agreement.Slots.{channel_of}
use Rattle.rb_code.specs.Agreement.Template.{Template, One, ◌⨾◌, At, Only}
use Rattle.rb_code.specs.Agreement.Forms.{AlternatesCode, AlternatesForm, BlockForm, BodyCode, BodyForm, BranchesForm, CommandCode, CommandForm, CommandsCode, CommandsForm, ExpressionCode, OthersCode, OthersForm, Owner, ReceiptForm, StoreCode, TellsOf}
use Rattle.rb_code.specs.declared.instr.Instr.TheVariants as instr
use Rattle.rb_code.proofs.Alike.AlikeCode.{Fixed, Same, fixed_one, same_at, same_block, same_closed, same_empty, same_listed, same_one, same_only, same_then}
use Rattle.rb_code.proofs.Alike.AlikeForms.{drop_alike, fixed_then, frame_alike, if_alike, if_else_alike, jump_alike, receive_alike, receive_else_alike, while_alike}
use Rattle.rb_code.proofs.Alike.AlikeParts.{SameStarts, call_alike, expression_alike, items_alike, store_alike}

-- what two entries of lists of recovery blocks are told to have in common
record SameTold (one other : Block) : Type 0 where
  line : one.line ≡ other.line
  conversation : one.conversation ≡ other.conversation
  bound : one.bound ≡ other.bound

told_same : (tree : Tree) (conversation : Option Identifier) (line bound : ℕ) (one other : Block) → TellsOf tree conversation line bound one
    → TellsOf tree conversation line bound other → SameTold one other
told_same tree conversation line bound one other e f = record {
  line = e.line_is ∙ sym f.line_is;
  conversation = e.conversation_is ∙ sym f.conversation_is;
  bound = e.bound_is ∙ sym f.bound_is;
}

-- two entries with the same fields are the same
entry : ℕ → Option ℕ → ℕ → ℕ → ℕ → List ℕ → Block
entry line conversation bound restart test alternates =
    record { line = line; conversation = conversation; bound = bound; restart = restart; test = test; alternates = alternates }

block_same : (one other : Block) → SameTold one other → one.restart ≡ other.restart → one.test ≡ other.test → one.alternates ≡ other.alternates
    → one ≡ other
unfolding entry
block_same one other told restart test alternates =
    ap (λ x. entry x one.conversation one.bound one.restart one.test one.alternates) told.line
    ∙ ap (λ x. entry other.line x one.bound one.restart one.test one.alternates) told.conversation
    ∙ ap (λ x. entry other.line other.conversation x one.restart one.test one.alternates) told.bound
    ∙ ap (λ x. entry other.line other.conversation other.bound x one.test one.alternates) restart
    ∙ ap (λ x. entry other.line other.conversation other.bound other.restart x one.alternates) test
    ∙ ap (λ x. entry other.line other.conversation other.bound other.restart other.test x) alternates

module _ (c d : Code) where
  -- the lists of recovery blocks have the same entries from one number up to another
  abbrev pub SameBlocks : ℕ → ℕ → Type 0
  SameBlocks n m = (k : ℕ) → n ≤ k → k < m → slice_get c.blocks k ≡ slice_get d.blocks k

  pub no_blocks : (n m : ℕ) → m ≡ n → SameBlocks n m
  no_blocks n m e k low high = absurd (omega arith)

  pub both_blocks : (n i j : ℕ) → SameBlocks n (n + i) → SameBlocks (n + i) (n + i + j) → SameBlocks n (n + (i + j))
  both_blocks n i j f g k low high = by (nat_lt k (n + i)) refl
    where
      by : (t : Bool) → nat_lt k (n + i) ≡ t → slice_get c.blocks k ≡ slice_get d.blocks k
      by true e = f k low (grind arith)
      by false e = g k (grind arith) (omega arith)

  -- the entry of a recovery block, and those of the blocks inside it
  with_block : (n number i : ℕ) → number ≡ n → slice_get c.blocks number ≡ slice_get d.blocks number → SameBlocks (n + 1) (n + 1 + i)
      → SameBlocks n (n + (1 + i))
  with_block n number i is e f k low high = by (nat_lt k (n + 1)) refl
    where
      by : (t : Bool) → nat_lt k (n + 1) ≡ t → slice_get c.blocks k ≡ slice_get d.blocks k
      by true h =
          let this : number ≡ k = grind arith in
          subst (λ z. slice_get c.blocks z ≡ slice_get d.blocks z) this e
      by false h = f k (grind arith) (omega arith)

  -- code with recovery blocks from n up to m, which calls procedures
  abbrev pub Statement : ℕ → ℕ → Template → Type 0
  Statement n m P = Same c d (SameStarts c d) (SameBlocks n m) P P

  -- code without recovery blocks
  pub plain_statement : (n : ℕ) {P : Template} → Fixed c d P → Statement n (n + 0) P
  plain_statement n f = same_closed c d f (λ starts t. tt) (λ t. no_blocks n (n + 0) (omega arith))

  module _ (tree : Tree) (slots : List Slot) (owner : Owner) where
    abbrev block_parts : ℕ → Option Identifier → ℕ → ℕ → Alternates → Template → Block → Template
    block_parts number conversation line bound alternates test block =
        Only (TellsOf tree conversation line bound block) ⨾ One instr.Turn ⨾ One (instr.Enter number) ⨾ At block.restart ⨾ One instr.Turn
        ⨾ One (instr.Start number) ⨾ AlternatesCode tree slots owner alternates block.alternates block.test ⨾ At block.test ⨾ One instr.Turn
        ⨾ test ⨾ One (instr.Test number)

    -- alternates, whose jumps lead to the acceptance test
    abbrev Tries : ℕ → ℕ → (List ℕ → ℕ → Template) → Type 0
    Tries n m P =
        (addresses others : List ℕ) (test other : ℕ)
        → Same c d ((test ≡ other) × SameStarts c d) ((addresses ≡ others) × SameBlocks n m) (P addresses test) (P others other)

    recovery_alike : (n number : ℕ) (conversation : Option Identifier) (line bound : ℕ) (alternates : Alternates) (test : Template) → number ≡ n
        → Fixed c d test → Tries (n + 1) (n + 1 + blocks_in_alternates alternates) (AlternatesCode tree slots owner alternates)
        → Statement n (n + (1 + blocks_in_alternates alternates))
        (λ e a b. (block : Block) × (slice_get e.blocks number ≡ Some block) × block_parts number conversation line bound alternates test block e a b)
    recovery_alike n number conversation line bound alternates test is f g =
        same_closed c d
        (same_block c d number (block_parts number conversation line bound alternates test) (λ block other.
        same_closed c d
        (same_then c d (same_only c d (TellsOf tree conversation line bound block) (TellsOf tree conversation line bound other)
        (told_same tree conversation line bound block other))
        (same_then c d (fixed_one c d instr.Turn refl)
        (same_then c d (fixed_one c d (instr.Enter number) refl)
        (same_then c d (same_at c d block.restart other.restart)
        (same_then c d (fixed_one c d instr.Turn refl)
        (same_then c d (fixed_one c d (instr.Start number) refl)
        (same_then c d (g block.alternates other.alternates block.test other.test)
        (same_then c d (same_at c d block.test other.test)
        (same_then c d (fixed_one c d instr.Turn refl)
        (same_then c d f
        (fixed_one c d (instr.Test number) refl)))))))))))
        (λ starts (told, (t1, (t2, (restart, (t4, (t5, (tries, (testing, t8)))))))).
        (tt, (tt, (tt, (tt, (tt, (tt, ((testing, starts), (tt, (tt, (tt, tt)))))))))))
        (λ (told, (t1, (t2, (restart, (t4, (t5, (tries, (testing, t8)))))))). (block_same block other told restart testing tries.0, tries.1))))
        (λ starts t. starts)
        (λ (here, inside). with_block n number (blocks_in_alternates alternates) is here inside)

    mutual
      unfolding CommandForm CommandsForm BodyForm ReceiptForm BranchesForm BlockForm AlternatesForm OthersForm

      pub command_alike : (n : ℕ) (command : Command) → CommandNumbered n command
          → Statement n (n + blocks_in_command command) (CommandCode tree slots owner command)
      command_alike n (Assignment to value) numbered =
          plain_statement n (fixed_then c d (fixed_one c d instr.Turn refl)
          (store_alike c d slots to (ExpressionCode slots value) (expression_alike c d slots value)))
      command_alike n (Printing items) numbered =
          plain_statement n (fixed_then c d (fixed_one c d instr.Turn refl)
          (fixed_then c d (items_alike c d slots items) (fixed_one c d instr.Print refl)))
      command_alike n (Sending channel value) numbered =
          plain_statement n (fixed_then c d (fixed_one c d instr.Turn refl)
          (fixed_then c d (fixed_one c d (instr.Room (channel_of slots channel.id)) refl)
          (fixed_then c d (expression_alike c d slots value) (fixed_one c d (instr.Put (channel_of slots channel.id)) refl))))
      command_alike n (Receiving channel to NoElse) numbered =
          let k = channel_of slots channel.id in
          plain_statement n (receive_alike c d k (StoreCode slots to (One (instr.Take k)))
          (store_alike c d slots to (One (instr.Take k)) (fixed_one c d (instr.Take k) refl)))
      command_alike n (Receiving channel to (Else other)) numbered =
          let k = channel_of slots channel.id in
          receive_else_alike c d k (StoreCode slots to (One (instr.Take k))) (BodyCode tree slots owner other)
          (store_alike c d slots to (One (instr.Take k)) (fixed_one c d (instr.Take k) refl)) (body_alike n other numbered)
      command_alike n (Conditional test body NoElse) numbered =
          same_closed c d
          (if_alike c d (ExpressionCode slots test) (BodyCode tree slots owner body) (expression_alike c d slots test) (body_alike n body numbered.0))
          (λ starts t. starts)
          (λ these. both_blocks n (blocks_in_body body) 0 these
          (no_blocks (n + blocks_in_body body) (n + blocks_in_body body + 0) (omega arith)))
      command_alike n (Conditional test body (Else other)) numbered =
          same_closed c d
          (if_else_alike c d (ExpressionCode slots test) (BodyCode tree slots owner body) (BodyCode tree slots owner other)
          (expression_alike c d slots test) (body_alike n body numbered.0) (body_alike (n + blocks_in_body body) other numbered.1))
          (λ starts t. starts) (λ (these, those). both_blocks n (blocks_in_body body) (blocks_in_body other) these those)
      command_alike n (Loop test body) numbered =
          while_alike c d (ExpressionCode slots test) (BodyCode tree slots owner body) (expression_alike c d slots test) (body_alike n body numbered)
      command_alike n (Invocation procedure arguments) numbered =
          same_closed c d (call_alike c d slots owner procedure arguments) (λ starts t. starts) (λ t. no_blocks n (n + 0) (omega arith))
      command_alike n Failure numbered =
          plain_statement n (fixed_then c d (fixed_one c d instr.Turn refl) (fixed_one c d instr.Fail refl))
      command_alike n (Recovering (Recovers number conversation place test bound alternates)) numbered =
          recovery_alike n number conversation place.line (natural bound.value) alternates (ExpressionCode slots test) numbered.0
          (expression_alike c d slots test)
          (λ addresses others first second. alternates_alike (n + 1) alternates numbered.1 addresses others first second)

      pub commands_alike : (n : ℕ) (commands : Commands) → CommandsNumbered n commands
          → Statement n (n + blocks_in commands) (CommandsCode tree slots owner commands)
      commands_alike n NoCommand numbered = plain_statement n (same_empty c d)
      commands_alike n (Then first rest) numbered =
          same_closed c d
          (same_then c d (command_alike n first numbered.0) (commands_alike (n + blocks_in_command first) rest numbered.1))
          (λ starts t. (starts, starts)) (λ (these, those). both_blocks n (blocks_in_command first) (blocks_in rest) these those)

      pub body_alike : (n : ℕ) (body : Body) → BodyNumbered n body → Statement n (n + blocks_in_body body) (BodyCode tree slots owner body)
      body_alike n (Scope variables commands) numbered =
          same_closed c d
          (same_then c d (frame_alike c d (frame_words (frame_of variables)))
          (same_then c d (commands_alike n commands numbered) (drop_alike c d (frame_words (frame_of variables)))))
          (λ starts t. (tt, (starts, tt))) (λ (t0, (these, t2)). these)

      alternates_alike : (n : ℕ) (alternates : Alternates) → AlternatesNumbered n alternates
          → Tries n (n + blocks_in_alternates alternates) (AlternatesCode tree slots owner alternates)
      alternates_alike n NoAlternate numbered addresses others test other =
          same_closed c d (same_only c d (addresses ≡ []) (others ≡ []) (λ e f. e ∙ sym f))
          (λ asked t. tt) (λ e. (e, no_blocks n (n + 0) (omega arith)))
      alternates_alike n (Alternate body rest) numbered addresses others test other =
          same_listed c d addresses others
          (λ more. BodyCode tree slots owner body ⨾ OthersCode tree slots owner rest more test)
          (λ more. BodyCode tree slots owner body ⨾ OthersCode tree slots owner rest more other) (λ more less.
          same_closed c d
          (same_then c d (body_alike n body numbered.0) (others_alike (n + blocks_in_body body) rest numbered.1 more less test other))
          (λ (e, starts) t. (starts, (e, starts)))
          (λ (these, (e, those)). (e, both_blocks n (blocks_in_body body) (blocks_in_alternates rest) these those)))

      others_alike : (n : ℕ) (alternates : Alternates) → AlternatesNumbered n alternates
          → Tries n (n + blocks_in_alternates alternates) (OthersCode tree slots owner alternates)
      others_alike n NoAlternate numbered addresses others test other =
          same_closed c d (same_only c d (addresses ≡ []) (others ≡ []) (λ e f. e ∙ sym f))
          (λ asked t. tt) (λ e. (e, no_blocks n (n + 0) (omega arith)))
      others_alike n (Alternate body rest) numbered addresses others test other =
          same_closed c d
          (same_then c d (same_one c d (instr.Jump test) (instr.Jump other))
          (same_listed c d addresses others
          (λ more. BodyCode tree slots owner body ⨾ OthersCode tree slots owner rest more test)
          (λ more. BodyCode tree slots owner body ⨾ OthersCode tree slots owner rest more other) (λ more less.
          same_closed c d
          (same_then c d (body_alike n body numbered.0) (others_alike (n + blocks_in_body body) rest numbered.1 more less test other))
          (λ (e, starts) t. (starts, (e, starts)))
          (λ (these, (e, those)). (e, both_blocks n (blocks_in_body body) (blocks_in_alternates rest) these those)))))
          (λ (e, starts) t. (jump_alike c d test other e, (e, starts))) (λ (t0, told). told)
