-- A block, an `if` and a `while` begin the same in the meaning and in the machine.
use Rattle.std.proofs.Common.{◌≡◌, ◌≤◌, ℕ, ◌+◌, pos, nat_lt, cond, Bool, true, false, List, [], ◌∷◌, ◌++◌, length, replicate, Option, Ok, Err, refl, sym, subst, arith, length-append}
use Rattle.std.proofs.lemmas.List.{length-replicate}
use Rattle.rb_base.specs.declared.event.Cause.TheVariants.{Stack}
use Rattle.rb_base.specs.Limits.{most_words}
use Rattle.rb_cache.proofs.Stamps.{le_from_test}
use Rattle.rb_syntax.specs.Tree.{Body, Scope, Commands, Declaration, Tree}
use Rattle.rb_meaning.specs.Environment.{Environment, frame_of, frame_words, push_frame, words}
use Rattle.rb_meaning.specs.State.{Item, EndBlock, State, continue_with, performed, with_environment}
use Rattle.rb_meaning.specs.Step.{pushes}
use Rattle.rb_scope.specs.Frames.{shape_of}
use Rattle.rb_scope.specs.InFrames.{BodyInFrames, CommandsInFrames}
use Rattle.rb_scope.specs.declared.slot.Slot.{Slot}
use Rattle.rb_scope.proofs.WithinLimits.{shape_words-frame}
use Rattle.rb_code.specs.Instructions.Plain.{Code}
use Rattle.rb_code.specs.WordMachine.Workspace.{Counting, Workspace, framed, part_of, variables_place}
use Rattle.rb_code.specs.WordMachine.Act.{Sight}
use Rattle.rb_code.specs.Agreement.Forms.{CommandForm, DropCode}
use Rattle.rb_code.proofs.Agreeing.Placed.{BodyPlaced, CommandsPlaced}
use Rattle.rb_code.proofs.Agreeing.ResultsReached.{recounted}
use Rattle.rb_code.proofs.InWords.LaidOut.{Laid, running, stacks_of}
use Rattle.rb_code.proofs.Agreeing.StatesMeet.{WordsMeet}
use Rattle.rb_code.proofs.Agreeing.TextLeft.{Left, Onward, frames_at, owner_of}
use Rattle.rb_code.proofs.InWords.Environments.{laid_long}
use Rattle.rb_code.proofs.InWords.FramesPushed.{laid_pushed}
use Rattle.rb_code.proofs.Agreeing.BlocksBegin.{HasMain, commands_left, frame_leads, frame_traps, has_main, push_stacks}
use Rattle.rb_code.proofs.Agreeing.Stores.{frames_of}
use Rattle.rb_code.proofs.Agreeing.StepOutcomes.{HasCursors, InTurn, Took, arrives, took_from, words_again, words_continue}

module _ (tree : Tree) (slots : List Slot) (c : Code) (see : Sight) (has : HasCursors c see.process) where
  -- the memory in which a state stands may have other counters
  pub recounted_turn : (s : State) (m : Workspace) (later : List (Option Counting)) → length later ≡ 2 → InTurn tree slots c see has s m
      → InTurn tree slots c see has s (recounted later m)
  recounted_turn s m later two turn = record { words_meet = turn.words_meet; held = turn.held; two = two }

  pub continued_turn : (s : State) (m : Workspace) (items : List Item) → InTurn tree slots c see has s m
      → InTurn tree slots c see has (continue_with items s) m
  continued_turn s m items turn =
      record { words_meet = words_continue tree c see.process has s m.words m.calls items turn.words_meet; held = turn.held; two = turn.two }

  module _ (s : State) (m : Workspace) (turn : InTurn tree slots c see has s m) where
    -- what is left once a block was begun
    left_pushed : (variables : List Declaration) (commands : Commands) (rest : List Item) (a d b next : ℕ)
        (main : HasMain (stacks_of s.environment.calls))
        → CommandsPlaced tree slots (owner_of tree see.process) commands c a d
        → BodyInFrames tree slots see.process (frames_of tree slots c see has s) (Scope variables commands)
        → DropCode (frame_words (frame_of variables)) c d b → Onward c b next
        → Left tree slots c see.process (stacks_of s.environment.calls) rest m.calls next
        → Left tree slots c see.process (stacks_of (push_frame (frame_of variables) s.environment).calls)
        (performed commands (EndBlock ∷ rest)) m.calls a
    left_pushed variables commands rest a d b next main code is drop on left =
        let shape = shape_of (frame_of variables) in
        let p = see.process in
        subst (λ stacks. Left tree slots c p stacks (performed commands (EndBlock ∷ rest)) m.calls a)
        (sym (push_stacks (frame_of variables) s.environment.calls main.first main.outer main.is))
        (commands_left tree slots c p commands (EndBlock ∷ rest) ((shape ∷ main.first) ∷ main.outer) m.calls a d code
        (subst (λ stacks. CommandsInFrames tree slots p (frames_at tree p (shape ∷ running stacks)) commands) main.is is) (
          b,
          next,
          subst (λ n. DropCode n c d b) (sym (shape_words-frame (frame_of variables))) drop,
          on,
          subst (λ stacks. Left tree slots c p stacks rest m.calls next) main.is left,
        ))

    pub block_took : (body : Body) (rest : List Item) (a b next : ℕ) → BodyPlaced tree slots (owner_of tree see.process) body c a b
        → BodyInFrames tree slots see.process (frames_of tree slots c see has s) body → Onward c b next
        → Left tree slots c see.process (stacks_of s.environment.calls) rest m.calls next
        → Took tree slots c see has a [] m (λ later. m.slots) (pushes c.edition body rest s)
    unfolding CommandForm
    block_took (Scope variables commands) rest a b next (d, frame, (e, code, drop)) is on left =
        by (nat_lt (most_words c.edition) (words env)) refl
      where
        n : ℕ
        n = frame_words (frame_of variables)

        env : Environment
        env = push_frame (frame_of variables) s.environment

        w : WordsMeet tree c see.process s m.words m.calls
        w = turn.words_meet

        laid : Laid (part_of c see.process) w.front env (m.words ++ replicate n (pos 0)) m.calls
        laid = laid_pushed (part_of c see.process) variables s.environment m.words m.calls w.front w.laid

        many : length m.words + n ≡ variables_place (part_of c see.process) + words env
        many =
            let long = laid_long (part_of c see.process) w.front env (m.words ++ replicate n (pos 0)) m.calls laid in
            omega (arith, long, length-append m.words (replicate n (pos 0)), length-replicate n (pos 0))

        limit : length m.words ≤ variables_place (part_of c see.process) + most_words c.edition
        limit =
            let few = w.few in
            omega (arith, few, laid_long (part_of c see.process) w.front s.environment m.words m.calls w.laid)

        by : (t : Bool) → nat_lt (most_words c.edition) (words env) ≡ t
            → Took tree slots c see has a [] m (λ later. m.slots)
            (cond t (Err Stack) (Ok (with_environment env (continue_with (performed commands (EndBlock ∷ rest)) s))))
        by true h = frame_traps c see n a d (words env) m frame many limit h
        by false h =
            took_from tree slots c see has a d [] [] m (framed n m) (λ later. m.slots)
            (Ok (with_environment env (continue_with (performed commands (EndBlock ∷ rest)) s)))
            (frame_leads c see n a d (words env) m frame many h)
            (arrives tree slots c see has (with_environment env (continue_with (performed commands (EndBlock ∷ rest)) s)) d
            (framed n m) (λ later. m.slots)
            (record {
              words_meet =
                  words_continue tree c see.process has (with_environment env s) (framed n m).words m.calls
                  (performed commands (EndBlock ∷ rest))
                  (words_again tree c see.process has s m.words m.calls w env (framed n m).words m.calls laid refl
                  (le_from_test (most_words c.edition) (words env) h));
              held = turn.held;
              two = turn.two;
            })
            (left_pushed variables commands rest d e b next
            (has_main (part_of c see.process) w.front s.environment m.words m.calls w.laid) code is drop on left) refl)
