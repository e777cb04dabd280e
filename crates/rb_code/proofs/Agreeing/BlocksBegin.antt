-- A block that begins: its frame is pushed, or the trap `stack`.
use Rattle.std.proofs.Common.{◌≡◌, ◌≤◌, ℕ, zero, suc, ◌+◌, ℤ, nat_le, nat_lt, cond, true, false, List, [], ◌∷◌, length, refl, sym, ap, subst, arith, append-nil}
use Rattle.std.proofs.lemmas.Bool.Decides.{nat_tests}
use Rattle.rb_base.specs.declared.event.Cause.TheVariants.{Stack}
use Rattle.rb_base.specs.Limits.{most_words}
use Rattle.rb_syntax.specs.Tree.{Commands, NoCommand, Then, Tree}
use Rattle.rb_meaning.specs.Environment.{Environment, Frame, in_running}
use Rattle.rb_meaning.specs.State.{Item, performed}
use Rattle.rb_scope.specs.Frames.{Shape, shape_of}
use Rattle.rb_scope.specs.InFrames.{CommandsInFrames}
use Rattle.rb_scope.specs.declared.slot.Slot.{Slot}
use Rattle.rb_code.specs.Instructions.Plain.{Code, Part}
use Rattle.rb_code.specs.WordMachine.Workspace.{Workspace, OpenCall, body_place, framed, variables_place, with_words}
use Rattle.rb_code.specs.WordMachine.Act.{Going, Sight, Trapped, here}
use Rattle.rb_code.specs.Agreement.Forms.{CommandForm, FrameCode}
use Rattle.rb_code.specs.declared.instr.Instr.TheVariants.{Frame as FrameInstr}
use Rattle.rb_code.proofs.Agreeing.Placed.{CommandsPlaced}
use Rattle.rb_code.proofs.Agreeing.Leads.{EndsIn, Leads, ends, passes, stays}
use Rattle.rb_code.proofs.InWords.LaidOut.{Based, Laid, running, stacks_of}
use Rattle.rb_code.proofs.Agreeing.TextLeft.{Left, frames_at, owner_of}
use Rattle.rb_code.proofs.InWords.FramesPushed.{no_body}

-- the stacks of an environment in which a frame was pushed
pub push_stacks : (frame : Frame) (calls : List (List Frame)) (shapes : List Shape) (outer : List (List Shape)) → stacks_of calls ≡ shapes ∷ outer
    → stacks_of (in_running (λ frames. frame ∷ frames) calls) ≡ (shape_of frame ∷ shapes) ∷ outer
push_stacks frame [] shapes outer e = absurd cc
push_stacks frame (frames ∷ more) shapes outer e = cc

-- there is always the main body
pub record HasMain (stacks : List (List Shape)) : Type 0 where
  pub first : List Shape
  pub outer : List (List Shape)
  pub is : stacks ≡ first ∷ outer

pub has_main : (part : Part) (front : List ℤ) (env : Environment) (all : List ℤ) (calls : List OpenCall)
    → Laid part front env all calls → HasMain (stacks_of env.calls)
has_main part front env all calls l = by (stacks_of env.calls) l.based
  where
    by : (stacks : List (List Shape)) → Based (body_place part) calls stacks → HasMain stacks
    by [] h = absurd (no_body part calls (body_place part) h)
    by (first ∷ outer) h = record { first = first; outer = outer; is = refl }

-- the limit by words of the machine and by those of the meaning
pub fits : (front most all n w : ℕ) → all + n ≡ front + w → nat_lt most w ≡ false → nat_le (all + n) (front + most) ≡ true
fits front most all n w e h = grind (arith, nat_tests)

pub full : (front most all n w : ℕ) → all + n ≡ front + w → nat_lt most w ≡ true → nat_le (all + n) (front + most) ≡ false
full front most all n w e h = grind (arith, nat_tests)

pub not_full : (front most all w : ℕ) → all + 0 ≡ front + w → all ≤ front + most → nat_lt most w ≡ true → ⊥
not_full front most all w e l h = grind (arith, nat_tests)

module _ (c : Code) (see : Sight) where
  -- the words of a frame are pushed, or there are too many
  pub frame_leads : (n a d w : ℕ) (m : Workspace) → FrameCode n c a d → length m.words + n ≡ variables_place (here c see) + w
      → nat_lt (most_words c.edition) w ≡ false → Leads c see a [] m d [] (framed n m)
  frame_leads zero a d w m code e h =
      subst (λ ws. Leads c see a [] m d [] (with_words ws m)) (sym (append-nil m.words))
      (subst (λ x. Leads c see a [] m x [] m) (sym code) (stays c see a [] m))
  frame_leads (suc n) a d w m code e h =
      passes c see (FrameInstr (suc n)) a d [] [] m (framed (suc n) m) code
      (ap (λ b. cond b (Going (a + 1) [] (framed (suc n) m)) (Trapped Stack))
      (fits (variables_place (here c see)) (most_words c.edition) (length m.words) (suc n) w e h))

  pub frame_traps : (n a d w : ℕ) (m : Workspace) → FrameCode n c a d → length m.words + n ≡ variables_place (here c see) + w
      → length m.words ≤ variables_place (here c see) + most_words c.edition → nat_lt (most_words c.edition) w ≡ true
      → EndsIn c see a [] m (Trapped Stack)
  frame_traps zero a d w m code e l h = absurd (not_full (variables_place (here c see)) (most_words c.edition) (length m.words) w e l h)
  frame_traps (suc n) a d w m code e l h =
      ends c see (FrameInstr (suc n)) a [] m (Trapped Stack) code.0
      (ap (λ b. cond b (Going (a + 1) [] (framed (suc n) m)) (Trapped Stack))
      (full (variables_place (here c see)) (most_words c.edition) (length m.words) (suc n) w e h)) refl

module _ (tree : Tree) (slots : List Slot) (c : Code) (p : ℕ) where
  -- statements stand before what is left
  pub commands_left : (commands : Commands) (rest : List Item) (stacks : List (List Shape)) (calls : List OpenCall) (a b : ℕ)
      → CommandsPlaced tree slots (owner_of tree p) commands c a b → CommandsInFrames tree slots p (frames_at tree p (running stacks)) commands
      → Left tree slots c p stacks rest calls b → Left tree slots c p stacks (performed commands rest) calls a
  unfolding CommandForm
  commands_left NoCommand rest stacks calls a b code is left = subst (λ x. Left tree slots c p stacks rest calls x) code left
  commands_left (Then first more) rest stacks calls a b (d, code, others) is left =
      (d, code, is.0, commands_left more rest stacks calls d b others is.1 left)
