-- The code of a statement, and its entries in the list of recovery blocks, take at most sixteen bytes for each byte that it weighs.
use Rattle.std.proofs.Common.{◌≡◌, ℕ, ◌+◌, ◌*◌, ◌≤◌, List, [], length, slice_get, Option, Some, None, refl, ap, subst, arith}
use Rattle.rb_syntax.specs.Numbered.{AlternatesNumbered, BodyNumbered, CommandNumbered, CommandsNumbered, blocks_in, blocks_in_alternates, blocks_in_body, blocks_in_command}
use Rattle.rb_syntax.specs.Tree.{Identifier, Command, Assignment, Printing, Sending, Receiving, Conditional, Loop, Invocation, Failure, Recovering, Commands, NoCommand, Then, Body, Scope, NoElse, Else, Recovers, Alternates, NoAlternate, Alternate, Tree}
use Rattle.rb_meaning.specs.Environment.{frame_of, frame_words, natural}
use Rattle.rb_meaning.specs.Groups.{conversation_of}
use Rattle.rb_scope.specs.declared.slot.Slot.{Slot}
use Rattle.rb_code.specs.Instructions.Plain.{Code}
use Rattle.rb_code.specs.Agreement.Slots.{channel_of, procedure_of}
use Rattle.rb_code.specs.Agreement.Template.{Template, One, ◌⨾◌, Label, Listed, Only}
use Rattle.rb_code.specs.Agreement.Forms.{AlternatesCode, BodyCode, CommandCode, CommandForm, CommandsCode, OthersCode, Owner, RecoveryForm, TellsOf, procedure_words}
use Rattle.rb_code.specs.declared.instr.Instr.TheVariants as instr
use Rattle.rb_sizes.proofs.Weighing.Sizes.{line_extra}
use Rattle.rb_sizes.proofs.Weighing.Weights.{alternates_weight, body_weight, command_weight, commands_weight, expression_weight, joined_weight}
use Rattle.rb_sizes.proofs.Spending.Spent.{Takes, at, joined_cost, listed, listed_one, nothing, one, spent, ◌then◌}
use Rattle.rb_sizes.proofs.Spending.ExpressionCosts.{arguments_take, called_takes, drop_takes, expression_takes, frame_takes, items_take, store_takes}

-- A template, with the recovery blocks of these numbers, takes k bytes at most, and e beside them.
pub record Costs (c : Code) (n x e k : ℕ) (P : Template) : Type 0 where
  pub fits : (a b : ℕ) → P c a b → e + spent c b + listed c (n + x) ≤ spent c a + listed c n + k

-- with less, and with a number of blocks put otherwise
pub as_much : {c : Code} {n x y e k l : ℕ} {P : Template} → Costs c n x e k P → x ≡ y → k ≤ l → Costs c n y e l P
as_much {c = c} {n = n} t same h = record { fits = λ a b p. (let f = t.fits a b p in let g = ap (λ i. listed c (n + i)) same in omega arith) }

-- a template without recovery blocks
pub plain : {c : Code} {n k : ℕ} {P : Template} → Takes c k P → Costs c n 0 0 k P
plain {c = c} {n = n} t = record {
  fits = λ a b p.
      let f = t.fits a b p in
      let here : n + 0 ≡ n = omega arith in
      let g = ap (listed c) here in
      omega arith;
}

-- one behind another
infixr 5 ◌and◌
pub ◌and◌ : {c : Code} {n x y k l e : ℕ} {P Q : Template} → Costs c n x 0 k P → Costs c (n + x) y e l Q → Costs c n (x + y) e (k + l) (P ⨾ Q)
◌and◌ {c = c} {n = n} {x = x} {y = y} s t = record {
  fits = λ a b (m, p, q).
      let f = s.fits a m p in
      let g = t.fits m b q in
      let more : n + x + y ≡ n + (x + y) = omega arith in
      let h = ap (listed c) more in
      omega arith;
}

infixr 5 ◌before◌
pub ◌before◌ : {c : Code} {n y k l e : ℕ} {P Q : Template} → Takes c k P → Costs c n y e l Q → Costs c n y e (k + l) (P ⨾ Q)
(s before t) = record { fits = λ a b (m, p, q). (let f = s.fits a m p in let g = t.fits m b q in omega arith) }

infixr 5 ◌behind◌
pub ◌behind◌ : {c : Code} {n x k l e : ℕ} {P Q : Template} → Costs c n x e k P → Takes c l Q → Costs c n x e (k + l) (P ⨾ Q)
(s behind t) = record { fits = λ a b (m, p, q). (let f = s.fits a m p in let g = t.fits m b q in omega arith) }

marked : {c : Code} {n x e k : ℕ} {P : ℕ → Template} → ((label : ℕ) → Costs c n x e k (P label)) → Costs c n x e k (Label P)
marked t = record { fits = λ a b (label, p). (t label).fits a b p }

-- an address of a list takes eight bytes
in_list : {c : Code} {n x k : ℕ} {P : List ℕ → Template} (addresses : List ℕ)
    → ((more : List ℕ) → Costs c n x (8 * length more) k (P more)) → Costs c n x (8 * length addresses) (8 + k) (Listed addresses P)
in_list addresses t = record { fits = λ a b (more, is, p). (let f = (t more).fits a b p in let long = ap length is in omega arith) }

none_listed : {c : Code} {n : ℕ} (addresses : List ℕ) → Costs c n 0 (8 * length addresses) 0 (Only (addresses ≡ []))
none_listed {c = c} {n = n} addresses = record {
  fits = λ a b p.
      let none = ap length p.0 in
      let same = ap (spent c) p.1 in
      let here : n + 0 ≡ n = omega arith in
      let g = ap (listed c) here in
      omega arith;
}

-- the conversation of a recovery block that has one
joined_small : (tree : Tree) (conversation : Option Identifier) → joined_cost (conversation_of tree conversation) ≤ 16 * joined_weight conversation
joined_small tree None = omega arith
joined_small tree (Some name) = omega arith

module _ {c : Code} (tree : Tree) (slots : List Slot) where
  recovery_costs : (number n x v w : ℕ) (conversation : Option Identifier) (line bound : ℕ) {alternates : List ℕ → ℕ → Template} {test : Template}
      → number ≡ n → ((addresses : List ℕ) (to : ℕ) → Costs c (n + 1) x (8 * length addresses) (16 * v) (alternates addresses to))
      → Takes c (16 * w + 1) test
      → Costs c n (1 + x) 0 (16 * (5 + line_extra line + joined_weight conversation + w + v))
      (RecoveryForm (One instr.Turn) number (TellsOf tree conversation line bound) alternates test)
  recovery_costs number n x v w conversation line bound is f g = record {
    fits = λ a b (block, there, (m, tells, p)).
        let same = ap (spent c) tells.1 in
        let chain =
        one {c = c} instr.Turn before one (instr.Enter number) before at block.restart before one instr.Turn before one (instr.Start number)
        before f block.alternates block.test
        behind (at block.test then one instr.Turn then g then one (instr.Test number)) in
        let inside = chain.fits m b p in
        let entry = listed_one c n block (subst (λ k. slice_get c.blocks k ≡ Some block) is there) in
        let joined = ap joined_cost tells.0.conversation_is in
        let line_is = ap line_extra tells.0.line_is in
        let small = joined_small tree conversation in
        let more : n + (1 + x) ≡ n + 1 + x = omega arith in
        let last = ap (listed c) more in
        omega arith;
  }

  module _ (owner : Owner) where
    mutual
      unfolding CommandForm

      pub command_costs : (command : Command) (n : ℕ) → CommandNumbered n command
          → Costs c n (blocks_in_command command) 0 (16 * command_weight command) (CommandCode tree slots owner command)
      command_costs (Assignment to value) n h =
          as_much (plain (one instr.Turn then store_takes slots to (expression_takes slots value))) refl (omega arith)
      command_costs (Printing items) n h = as_much (plain (one instr.Turn then items_take slots items then one instr.Print)) refl (omega arith)
      command_costs (Sending channel value) n h =
          as_much (plain (one instr.Turn then one (instr.Room (channel_of slots channel.id)) then expression_takes slots value
          then one (instr.Put (channel_of slots channel.id)))) refl (omega arith)
      command_costs (Receiving channel to NoElse) n h =
          as_much (plain (one instr.Turn then one (instr.There (channel_of slots channel.id))
          then store_takes slots to (one (instr.Take (channel_of slots channel.id))))) refl (omega arith)
      command_costs (Receiving channel to (Else other)) n h =
          marked (λ none. marked (λ end.
          as_much (one instr.Turn before one (instr.Absent (channel_of slots channel.id) none)
          before store_takes slots to (one (instr.Take (channel_of slots channel.id))) before one (instr.Jump end) before at none
          before body_costs other n h behind at end) refl (omega arith)))
      command_costs (Conditional test body NoElse) n h =
          marked (λ end.
          as_much (one instr.Turn before expression_takes slots test before one (instr.JumpZero end) before body_costs body n h.0 behind at end)
          (omega arith) (omega arith))
      command_costs (Conditional test body (Else other)) n h =
          marked (λ no. marked (λ end.
          as_much (one instr.Turn before expression_takes slots test before one (instr.JumpZero no)
          before body_costs body n h.0
          and one (instr.Jump end) before at no before body_costs other (n + blocks_in_body body) h.1 behind at end) refl (omega arith)))
      command_costs (Loop test body) n h =
          marked (λ loop. marked (λ end.
          as_much (at loop before one instr.Turn before expression_takes slots test before one (instr.JumpZero end)
          before body_costs body n h behind (one (instr.Jump loop) then at end)) refl (omega arith)))
      command_costs (Invocation procedure arguments) n h =
          as_much (plain (one instr.Turn then arguments_take slots arguments
          then called_takes owner.number (procedure_of slots procedure.id) (length arguments)
          (procedure_words owner.procedures (procedure_of slots procedure.id)))) refl (omega arith)
      command_costs Failure n h = as_much (plain (one instr.Turn then one instr.Fail)) refl (omega arith)
      command_costs (Recovering (Recovers number conversation place test bound alternates)) n h =
          recovery_costs number n (blocks_in_alternates alternates) (alternates_weight alternates) (expression_weight test) conversation place.line
          (natural bound.value) h.0 (λ addresses to. alternates_cost alternates (n + 1) h.1 addresses to) (expression_takes slots test)

      pub commands_cost : (commands : Commands) (n : ℕ) → CommandsNumbered n commands
          → Costs c n (blocks_in commands) 0 (16 * commands_weight commands) (CommandsCode tree slots owner commands)
      commands_cost NoCommand n h = plain nothing
      commands_cost (Then first rest) n h =
          as_much (command_costs first n h.0 and commands_cost rest (n + blocks_in_command first) h.1) refl (omega arith)

      pub body_costs : (body : Body) (n : ℕ) → BodyNumbered n body
          → Costs c n (blocks_in_body body) 0 (16 * body_weight body) (BodyCode tree slots owner body)
      body_costs (Scope variables commands) n h =
          as_much (frame_takes (frame_words (frame_of variables)) before commands_cost commands n h behind drop_takes (frame_words (frame_of variables)))
          refl (omega arith)

      alternates_cost : (alternates : Alternates) (n : ℕ) → AlternatesNumbered n alternates → (addresses : List ℕ) (test : ℕ)
          → Costs c n (blocks_in_alternates alternates) (8 * length addresses) (16 * alternates_weight alternates)
          (AlternatesCode tree slots owner alternates addresses test)
      alternates_cost NoAlternate n h addresses test = none_listed addresses
      alternates_cost (Alternate body others) n h addresses test =
          as_much (in_list addresses (λ more. body_costs body n h.0 and others_cost others (n + blocks_in_body body) h.1 more test)) refl (omega arith)

      others_cost : (others : Alternates) (n : ℕ) → AlternatesNumbered n others → (addresses : List ℕ) (test : ℕ)
          → Costs c n (blocks_in_alternates others) (8 * length addresses) (16 * alternates_weight others)
          (OthersCode tree slots owner others addresses test)
      others_cost NoAlternate n h addresses test = none_listed addresses
      others_cost (Alternate body others) n h addresses test =
          as_much (one (instr.Jump test)
          before in_list addresses (λ more. body_costs body n h.0 and others_cost others (n + blocks_in_body body) h.1 more test)) refl (omega arith)
