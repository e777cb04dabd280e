-- An acceptance test comes to the same in the meaning and in the machine.
use Rattle.std.proofs.Common.{◌≡◌, ℕ, ◌+◌, ℤ, cond, Bool, true, false, List, [], ◌∷◌, Option, Result, Ok, Err, refl, sym, ap, subst}
use Rattle.rb_base.specs.declared.event.Cause.{Cause}
use Rattle.rb_base.specs.declared.event.Cause.TheVariants.{Test as TestCause}
use Rattle.rb_syntax.specs.Tree.{RecoveryBlock, Recovers, Tree}
use Rattle.rb_meaning.specs.Value.{is_zero, value}
use Rattle.rb_meaning.specs.State.{Item, State, continue_with}
use Rattle.rb_meaning.specs.Step.{test_in}
use Rattle.rb_scope.specs.Frames.{in_acceptance}
use Rattle.rb_scope.specs.declared.slot.Slot.{Slot}
use Rattle.rb_code.specs.Instructions.Plain.{Code}
use Rattle.rb_code.specs.WordMachine.Workspace.{Counting, Workspace, OpenCall, part_of}
use Rattle.rb_code.specs.WordMachine.Act.{Accepts, Sight, Trapped, act}
use Rattle.rb_code.specs.Agreement.Template.{One}
use Rattle.rb_code.specs.Agreement.Forms.{ExpressionCode}
use Rattle.rb_code.specs.declared.instr.Instr.TheVariants.{Test}
use Rattle.rb_code.proofs.Agreeing.Leads.{EndsIn, ends, leads_to_end}
use Rattle.rb_code.proofs.Agreeing.ResultsReached.{Gives, recounted}
use Rattle.rb_code.proofs.InWords.LaidOut.{running, stacks_of}
use Rattle.rb_code.proofs.Agreeing.TextLeft.{Left, TestCode, TestInFrames, own_shape}
use Rattle.rb_code.proofs.Agreeing.StatesMeet.{IsPrior, Meets}
use Rattle.rb_code.proofs.InWords.Environments.{laid_finds}
use Rattle.rb_code.proofs.Agreeing.Expressions.{expression_comes}
use Rattle.rb_code.proofs.InWords.NamesRead.{Finds}
use Rattle.rb_code.proofs.Agreeing.Stores.{finds, frames_of}
use Rattle.rb_code.proofs.Agreeing.StepOutcomes.{HasCursors, InTurn, words_continue}

module _ (tree : Tree) (slots : List Slot) (c : Code) (see : Sight) (has : HasCursors c see.process) (s : State)
    (m : Workspace) (turn : InTurn tree slots c see has s m) where
  -- the variables before the block are found by the same places
  prior_finds : (copy : State) (called : List OpenCall) → IsPrior tree c see.process s m.calls copy see.prior called
      → Finds (part_of c see.process) m.calls (in_acceptance (frames_of tree slots c see has s)) copy.environment see.prior
  prior_finds copy called is =
      let w = is.words_meet in
      subst (λ calls. Finds (part_of c see.process) calls (in_acceptance (frames_of tree slots c see has s)) copy.environment see.prior) is.calls_are
      (laid_finds (part_of c see.process) w.front copy.environment see.prior called w.laid (in_acceptance (frames_of tree slots c see has s))
      (sym w.globals, ap running (sym is.stacks_are)))

  -- A test that held: the machine accepts behind it, with the words as they are, and there what is left stands.
  pub record Accepted (a : ℕ) (rest : List Item) : Type 0 where
    pub to : ℕ
    pub later : List (Option Counting)
    pub ends : EndsIn c see a [] m (Accepts to (recounted later m))
    pub meets : Meets tree slots c see.process (continue_with rest s) to m.words m.calls

  abbrev pub Tested : ℕ → List Item → Bool → Type 0
  Tested a rest true = EndsIn c see a [] m (Trapped TestCause)
  Tested a rest false = Accepted a rest

  abbrev pub Judged : ℕ → List Item → Result ℤ Cause → Type 0
  Judged a rest (Ok v) = Tested a rest (is_zero v)
  Judged a rest (Err cause) = EndsIn c see a [] m (Trapped cause)

  test_ends : (number : ℕ) (rest : List Item) (a d b : ℕ) (o : Result ℤ Cause) → Gives c see 0 a [] m d o → One (Test number) c d b
      → Left tree slots c see.process (stacks_of s.environment.calls) rest m.calls b → Judged a rest o
  test_ends number rest a d b (Err cause) comes code left = comes
  test_ends number rest a d b (Ok v) comes code left = by (is_zero v) refl
    where
      acts : (t : Bool) → is_zero v ≡ t
          → act c see (Test number) d (v ∷ []) (recounted comes.0 m) ≡ cond t (Trapped TestCause) (Accepts (d + 1) (recounted comes.0 m))
      acts t e = ap (λ b. cond b (Trapped TestCause) (Accepts (d + 1) (recounted comes.0 m))) e

      by : (t : Bool) → is_zero v ≡ t → Tested a rest t
      by true e = leads_to_end c see comes.2 (ends c see (Test number) d (v ∷ []) (recounted comes.0 m) (Trapped TestCause) code.0 (acts true e) refl)
      by false e = record {
        to = d + 1;
        later = comes.0;
        ends = leads_to_end c see comes.2
            (ends c see (Test number) d (v ∷ []) (recounted comes.0 m) (Accepts (d + 1) (recounted comes.0 m)) code.0 (acts false e) refl);
        meets = record {
          words_meet = words_continue tree c see.process has s m.words m.calls rest turn.words_meet;
          left = subst (λ z. Left tree slots c see.process (stacks_of s.environment.calls) rest m.calls z) code.1 left;
        };
      }

  pub test_judged : (copy : State) (called : List OpenCall) → IsPrior tree c see.process s m.calls copy see.prior called
      → (block : RecoveryBlock) (rest : List Item) (a b : ℕ) → TestCode tree slots block c a b
      → TestInFrames slots (frames_of tree slots c see has s) block
      → Left tree slots c see.process (stacks_of s.environment.calls) rest m.calls b
      → Judged (a + 1) rest (value s.environment copy.environment [] (test_in block))
  test_judged copy called prior (Recovers number conversation place test bound alternates) rest a b (d, turn1, (e, code, last)) is left =
      let now = finds tree slots c see has s m turn.words_meet in
      let before = prior_finds copy called prior in
      test_ends number rest (a + 1) e b (value s.environment copy.environment [] test)
      (expression_comes c see slots (own_shape tree see.process) (running (stacks_of s.environment.calls)) true s.environment copy.environment m
      (record { found = now.found }) (λ h. record { found = before.found }) test [] 0 [] (a + 1) e m.counters []
      (record { fit = tt; two = turn.two }) is
      (subst (λ z. ExpressionCode slots test c z e) turn1.1 code))
      last left
