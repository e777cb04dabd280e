-- From one place of the machine to another, without a count of instructions.
use Rattle.std.proofs.Common.{◌≡◌, ℕ, zero, suc, ◌+◌, ℤ, List, Some, refl, sym, ap, ◌∙◌, subst}
use Rattle.rb_code.specs.Instructions.Plain.{Code}
use Rattle.rb_code.specs.WordMachine.Workspace.{Workspace}
use Rattle.rb_code.specs.WordMachine.Act.{Accepts, Going, Outcome, Sight, Stopped, Trapped, Unfinished, act, act_at, execute, move, then_go}
use Rattle.rb_code.specs.Agreement.Template.{One}
use Rattle.rb_code.specs.declared.instr.Instr.{Instr}
use Rattle.std.specs.Prelude.{slice_get}

-- an outcome from which nothing goes on
abbrev pub IsEnd : Outcome → Type 0
IsEnd (Going a operands m) = ⊥
IsEnd (Stopped a m) = Unit {0}
IsEnd (Accepts a m) = Unit {0}
IsEnd (Trapped cause) = Unit {0}
IsEnd Unfinished = ⊥

-- an outcome that is one
abbrev pub IsFinished : Outcome → Type 0
IsFinished Unfinished = ⊥
IsFinished _ = Unit {0}

module _ (c : Code) (see : Sight) where
  -- What is executed from the one place for long enough is what is executed from the other.
  pub record Leads (a : ℕ) (operands : List ℤ) (m : Workspace) (b : ℕ) (others : List ℤ) (n : Workspace) : Type 0 where
    pub by : (k : ℕ) → (j : ℕ) × (execute c see j a operands m ≡ execute c see k b others n)

  -- It comes to this outcome.
  pub record EndsIn (a : ℕ) (operands : List ℤ) (m : Workspace) (outcome : Outcome) : Type 0 where
    pub steps : ℕ
    pub is : execute c see steps a operands m ≡ outcome

  pub stays : (a : ℕ) (operands : List ℤ) (m : Workspace) → Leads a operands m a operands m
  stays a operands m = record { by = λ k. (k, refl) }

  pub leads_on : {a b d : ℕ} {os ps qs : List ℤ} {m n o : Workspace} → Leads a os m b ps n → Leads b ps n d qs o → Leads a os m d qs o
  leads_on x y = record { by = λ k. let r = y.by k in let q = x.by r.0 in (q.0, q.1 ∙ r.1) }

  pub leads_to_end : {a b : ℕ} {os ps : List ℤ} {m n : Workspace} {outcome : Outcome} → Leads a os m b ps n
      → EndsIn b ps n outcome → EndsIn a os m outcome
  leads_to_end x y = let q = x.by y.steps in record { steps = q.0; is = q.1 ∙ y.is }

  -- an instruction by its address
  pub moved : (instr : Instr) (a : ℕ) (os : List ℤ) (m : Workspace) → slice_get c.instrs a ≡ Some instr → move c see a os m ≡ act c see instr a os m
  moved instr a os m h = ap (λ o. act_at c see o a os m) h

  -- one that goes on
  pub goes : (instr : Instr) (a b : ℕ) (os ps : List ℤ) (m n : Workspace) → slice_get c.instrs a ≡ Some instr → act c see instr a os m ≡ Going b ps n
      → Leads a os m b ps n
  goes instr a b os ps m n h e = record { by = λ k. (suc k, ap (λ o. then_go o (execute c see k)) (moved instr a os m h ∙ e)) }

  -- one that goes on to the address behind it
  pub passes : (instr : Instr) (a b : ℕ) (os ps : List ℤ) (m n : Workspace) → One instr c a b → act c see instr a os m ≡ Going (a + 1) ps n
      → Leads a os m b ps n
  passes instr a b os ps m n (h, next) e = subst (λ x. Leads a os m x ps n) (sym next) (goes instr a (a + 1) os ps m n h e)

  -- one that ends it
  pub ends : (instr : Instr) (a : ℕ) (os : List ℤ) (m : Workspace) (outcome : Outcome) → slice_get c.instrs a ≡ Some instr
      → act c see instr a os m ≡ outcome
      → then_go outcome (execute c see zero) ≡ outcome → EndsIn a os m outcome
  ends instr a os m outcome h e same =
      record { steps = 1; is = ap (λ o. then_go o (execute c see zero)) (moved instr a os m h ∙ e) ∙ same }

  -- more steps change nothing, of one place at which it goes on by the recursion
  same_after : (o : Outcome) (j n : ℕ) (end : Outcome) → IsEnd end
      → ((a : ℕ) (os : List ℤ) (m : Workspace) → execute c see j a os m ≡ end → IsFinished (execute c see n a os m) → execute c see n a os m ≡ end)
      → then_go o (execute c see j) ≡ end → IsFinished (then_go o (execute c see n)) → then_go o (execute c see n) ≡ end
  same_after (Going a os m) j n end is next e f = next a os m e f
  same_after (Stopped a m) j n end is next e f = e
  same_after (Accepts a m) j n end is next e f = e
  same_after (Trapped cause) j n end is next e f = e
  same_after Unfinished j n end is next e f = absurd f

  pub same_end : (j n : ℕ) (a : ℕ) (os : List ℤ) (m : Workspace) (end : Outcome) → IsEnd end → execute c see j a os m ≡ end
      → IsFinished (execute c see n a os m)
      → execute c see n a os m ≡ end
  same_end zero n a os m end is e f = absurd (subst IsEnd (sym e) is)
  same_end (suc j) zero a os m end is e f = absurd f
  same_end (suc j) (suc n) a os m end is e f =
      same_after (move c see a os m) j n end is (λ b ps o g h. same_end j n b ps o end is g h) e f

  -- so any number of steps that is enough comes to the same end
  pub enough : (n a : ℕ) (os : List ℤ) (m : Workspace) (end : Outcome) → IsEnd end → EndsIn a os m end → IsFinished (execute c see n a os m)
      → execute c see n a os m ≡ end
  enough n a os m end is h f = same_end h.steps n a os m end is h.is f
