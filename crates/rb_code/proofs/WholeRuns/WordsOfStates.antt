-- What the words of a process are of a state: its variables, its mail, its held length; and what changes leave of it.
use Rattle.std.proofs.Common.{◌≡◌, ◌⊎◌, inl, inr, ◌<◌, ℕ, ℤ, pos, List, [], ◌∷◌, ◌++◌, length, take, drop, slice_get, slice_set, Some, refl, sym, ap, ◌∙◌, subst, arith, length-append}
use Rattle.std.specs.List.{flat_map}
use Rattle.std.proofs.Math.Seq.{drop-append_seam, take-append_seam}
use Rattle.rb_syntax.specs.Tree.{Tree}
use Rattle.rb_meaning.specs.Environment.{Frame, global_words}
use Rattle.rb_meaning.specs.State.{Item, Perform, StartOf, TestOf, EndBlock, EndCall, State, with_held, with_kept}
use Rattle.rb_scope.specs.Frames.{Shape}
use Rattle.rb_scope.specs.declared.slot.Slot.{Slot}
use Rattle.rb_code.specs.Instructions.Plain.{Code}
use Rattle.rb_code.specs.WordMachine.Workspace.{OpenCall, body_place, held_place, part_of, variables_place}
use Rattle.rb_code.specs.WordMachine.Turn.{Standing}
use Rattle.rb_code.specs.WordMachine.WordRun.{variable_words}
use Rattle.rb_code.specs.declared.instr.Instr.TheVariants.{Done, Turn}
use Rattle.rb_code.proofs.InWords.Fronts.{laid_written, word_other, word_set}
use Rattle.rb_code.proofs.InWords.LaidOut.{Based, flat, flat_calls, flat_frame, stacks_of}
use Rattle.rb_code.proofs.Agreeing.TextLeft.{IsSettled, Left, owner_of}
use Rattle.rb_code.proofs.InWords.VariablesInWords.{frame_long}
use Rattle.rb_code.proofs.Agreeing.StatesMeet.{IsPrior, Meets, WordsMeet}
use Rattle.rb_code.proofs.Agreeing.Settles.{command_turn, start_turn, test_turn}

-- the words of a frame, said another way
frame_words_are : (frame : Frame) → flat_map (λ stored. stored.values) frame ≡ flat_frame frame
frame_words_are [] = refl
frame_words_are (stored ∷ frame) = ap (λ (others : List ℤ). stored.values ++ others) (frame_words_are frame)

first_words : (n k : ℕ) (front own others : List ℤ) → length front ≡ n → length own ≡ k → take k (drop n (front ++ (own ++ others))) ≡ own
first_words n k front own others fn on =
    ap (λ i. take k (drop i (front ++ (own ++ others)))) (sym fn)
    ∙ ap (take k) (drop-append_seam front (own ++ others))
    ∙ ap (λ i. take i (own ++ others)) (sym on)
    ∙ take-append_seam own others

-- its variables
pub variables_are : (tree : Tree) (c : Code) (s : State) (u : Standing) → WordsMeet tree c u.process s u.words u.calls
    → variable_words c u ≡ global_words s.environment
variables_are tree c s u w =
    let own : length (flat_frame s.environment.globals) ≡ (part_of c u.process).words = frame_long s.environment.globals ∙ w.laid.globals in
    ap (λ all. take (part_of c u.process).words (drop (variables_place (part_of c u.process)) all)) w.laid.is
    ∙ first_words (variables_place (part_of c u.process)) (part_of c u.process).words w.front
    (flat_frame s.environment.globals) (flat_calls s.environment.calls) w.laid.long own
    ∙ sym (frame_words_are s.environment.globals)

module _ (tree : Tree) (slots : List Slot) (c : Code) (p : ℕ) where
  -- kept turns are not among them
  pub kept_meets : (s : State) (at : ℕ) (all : List ℤ) (calls : List OpenCall) (kept : List (ℕ × ℕ)) → Meets tree slots c p s at all calls
      → Meets tree slots c p (with_kept kept s) at all calls
  kept_meets s at all calls kept meets =
      let w = meets.words_meet in
      record {
        words_meet = record { front = w.front; laid = w.laid; globals = w.globals; few = w.few; held = w.held; sent = w.sent; taken = w.taken };
        left = meets.left;
      }

  -- no line is held any more
  released_words : (s : State) (all : List ℤ) (calls : List OpenCall) (w : WordsMeet tree c p s all calls) → 0 < length all
      → WordsMeet tree c p (with_held [] s) (slice_set all held_place (pos 0)) calls
  released_words s all calls w some = record {
    front = slice_set w.front held_place (pos 0);
    laid = laid_written (part_of c p) w.front s.environment all calls held_place (pos 0) w.laid (omega arith);
    globals = w.globals;
    few = w.few;
    held = word_set all held_place (pos 0) some;
    sent = λ channel ends declared own. word_other all held_place _ (pos 0) (λ e. absurd (omega (arith, e))) ∙ w.sent channel ends declared own;
    taken = λ channel ends declared own. word_other all held_place _ (pos 0) (λ e. absurd (omega (arith, e))) ∙ w.taken channel ends declared own;
  }

  some_words : (s : State) (all : List ℤ) (calls : List OpenCall) (w : WordsMeet tree c p s all calls) → 0 < length all
  some_words s all calls w =
      omega (arith, ap (λ (ws : List ℤ). length ws) w.laid.is, length-append w.front (flat s.environment), w.laid.long)

  pub released_meets : (s : State) (at : ℕ) (all : List ℤ) (calls : List OpenCall) → Meets tree slots c p s at all calls
      → Meets tree slots c p (with_held [] s) at (slice_set all held_place (pos 0)) calls
  released_meets s at all calls meets =
      record { words_meet = released_words s all calls meets.words_meet (some_words s all calls meets.words_meet); left = meets.left }

  -- where no end stands first the machine is at rest
  pub left_at_rest : (stacks : List (List Shape)) (items : List Item) (calls : List OpenCall) (a : ℕ)
      → Left tree slots c p stacks items calls a → IsSettled items
      → (slice_get c.instrs a ≡ Some Turn) ⊎ (slice_get c.instrs a ≡ Some Done)
  left_at_rest stacks [] calls a left settled = inr left.0
  left_at_rest stacks (Perform command ∷ rest) calls a (b, code, inside, more) settled =
      inl (command_turn tree slots (owner_of tree p) c command a b code).0
  left_at_rest stacks (StartOf block ∷ rest) calls a (b, code, inside, more) settled = inl (start_turn tree slots (owner_of tree p) c block a b code).0
  left_at_rest stacks (TestOf block ∷ rest) calls a (b, code, inside, more) settled = inl (test_turn tree slots (owner_of tree p) c block a b code).0
  left_at_rest stacks (EndBlock ∷ rest) calls a left settled = absurd settled
  left_at_rest stacks (EndCall ∷ rest) calls a left settled = absurd settled

  -- a copy in the frames of a state, told by the calls of the state
  pub is_prior : (s copy : State) (all words : List ℤ) (calls called : List OpenCall) → WordsMeet tree c p s all calls
      → WordsMeet tree c p copy words called
      → stacks_of copy.environment.calls ≡ stacks_of s.environment.calls → IsPrior tree c p s calls copy words calls
  is_prior s copy all words calls called w v same = record {
    words_meet = record {
      front = v.front;
      laid = record {
        long = v.laid.long;
        is = v.laid.is;
        globals = v.laid.globals;
        based = subst (Based (body_place (part_of c p)) calls) (sym same) w.laid.based;
      };
      globals = v.globals;
      few = v.few;
      held = v.held;
      sent = v.sent;
      taken = v.taken;
    };
    calls_are = refl;
    stacks_are = same;
  }
