-- A `print` does the same in the meaning and in the machine: its pieces are joined to its line, which is held.
use Rattle.std.proofs.Common.{◌≡◌, ◌<◌, ℕ, ◌+◌, pos, nat_lt, cond, Bool, true, false, List, [], ◌∷◌, ◌++◌, length, slice_set, Option, Result, Ok, Err, refl, sym, ap, ◌∙◌, subst, arith, append_assoc, append-nil}
use Rattle.std.specs.List.{All}
use Rattle.std.specs.Fmt.{signed_decimal}
use Rattle.std.proofs.lemmas.List.Elements.{All-head, All-tail}
use Rattle.std.proofs.lemmas.List.Sums.{sum_by_push}
use Rattle.rb_base.specs.declared.event.Cause.{Cause}
use Rattle.rb_base.specs.declared.event.Cause.TheVariants.{Hold}
use Rattle.rb_syntax.specs.Tree.{Printing, Printed, Words, Amount, PrintItem, Tree}
use Rattle.rb_meaning.specs.Environment.{Environment, natural}
use Rattle.rb_meaning.specs.Value.{and_then}
use Rattle.rb_meaning.specs.State.{Item, State, continue_with, with_held}
use Rattle.rb_meaning.specs.Step.{after_blank, held_bytes, held_with, line_from, most_held, performs, present_value, printed}
use Rattle.rb_scope.specs.InFrames.{CommandInFrames, PrintedInFrames}
use Rattle.rb_scope.specs.declared.slot.Slot.{Slot}
use Rattle.rb_code.specs.Instructions.Plain.{Code}
use Rattle.rb_code.specs.WordMachine.Workspace.{Counting, Workspace, held_place, part_of, word_at}
use Rattle.rb_code.specs.WordMachine.Act.{Going, Sight, Trapped, act, if_there, joined_pieces, line_held, printed as prints_line}
use Rattle.rb_code.specs.Agreement.Template.{One}
use Rattle.rb_code.specs.Agreement.Forms.{CommandForm, ItemsCode, PrintedCode}
use Rattle.rb_code.specs.declared.instr.Instr.TheVariants.{Item as ItemInstr, Print, Text}
use Rattle.rb_code.proofs.Agreeing.Placed.{CommandPlaced}
use Rattle.rb_code.proofs.Agreeing.Leads.{Leads, ends, passes, stays}
use Rattle.rb_code.proofs.Agreeing.ResultsReached.{Comes, comes_on, kept_here, recounted}
use Rattle.rb_code.proofs.InWords.LaidOut.{stacks_of}
use Rattle.rb_code.proofs.Agreeing.TextLeft.{Left, owner_of}
use Rattle.rb_code.proofs.Agreeing.StatesMeet.{WordsMeet}
use Rattle.rb_code.proofs.InWords.Environments.{laid_long}
use Rattle.rb_code.proofs.InWords.Fronts.{laid_written, word_other, word_set}
use Rattle.rb_code.proofs.Agreeing.Stores.{and_then_same, frames_of, plain_comes, then_then}
use Rattle.rb_code.proofs.Agreeing.StepOutcomes.{HasCursors, InTurn, Took, arrives, same_took, took_from, took_on}

-- the texts of items
abbrev texts_of : Environment → List PrintItem → Result (List (List ℕ)) Cause
texts_of env [] = Ok []
texts_of env (item ∷ items) = and_then (printed env item.what) (λ text. and_then (texts_of env items) (λ others. Ok (text ∷ others)))

-- texts behind a blank each, but for the first of all
abbrev line_of : Bool → List (List ℕ) → List ℕ
line_of first [] = []
line_of first (text ∷ others) = after_blank text first ++ line_of false others

line_from_texts : (env : Environment) (first : Bool) (items : List PrintItem)
    → line_from env first items ≡ and_then (texts_of env items) (λ texts. Ok (line_of first texts))
line_from_texts env first [] = refl
line_from_texts env first (item ∷ items) =
    and_then_same {B = List ℕ} (printed env item.what) _ _
    (λ text. ap (λ o. and_then o (λ rest. Ok (after_blank text first ++ rest))) (line_from_texts env false items)
    ∙ then_then (texts_of env items) (λ texts. Ok (line_of false texts)) (λ rest. Ok (after_blank text first ++ rest))
    ∙ sym (then_then (texts_of env items) (λ others. Ok (text ∷ others)) (λ texts. Ok (line_of first texts))))
    ∙ sym (then_then (printed env item.what) (λ text. and_then (texts_of env items) (λ others. Ok (text ∷ others)))
    (λ texts. Ok (line_of first texts)))

pieces_behind : (text : List ℕ) (others : List (List ℕ)) → joined_pieces (text ∷ others) ≡ text ++ line_of false others
pieces_behind text [] = sym (append-nil text)
pieces_behind text (other ∷ others) = ap (λ z. text ++ 32 ∷ z) (pieces_behind other others)

pieces_are : (texts : List (List ℕ)) → joined_pieces texts ≡ line_of true texts
pieces_are [] = refl
pieces_are (text ∷ others) = pieces_behind text others

-- the pieces of a memory
abbrev with_pieces : List (List ℕ) → Workspace → Workspace
with_pieces pieces m = record m { pieces = pieces }

module _ (tree : Tree) (slots : List Slot) (c : Code) (see : Sight) (has : HasCursors c see.process) (s : State)
    (m : Workspace) (turn : InTurn tree slots c see has s m) where
  abbrev IsInFrames : PrintItem → Type 0
  IsInFrames item = PrintedInFrames slots (frames_of tree slots c see has s) item.what

  -- an item adds its text
  item_comes : (what : Printed) (a b : ℕ) (set : List (Option Counting)) (pieces : List (List ℕ)) → length set ≡ 2 → PrintedCode slots what c a b
      → PrintedInFrames slots (frames_of tree slots c see has s) what
      → Comes c see 0 a [] (recounted set (with_pieces pieces m)) b (λ text. [])
      (λ text. with_pieces (pieces ++ text ∷ []) m) (printed s.environment what)
  item_comes (Words text) a b set pieces two (k, there, one) is = (
    set,
    kept_here 0 set,
    passes c see (Text k) a b [] [] (recounted set (with_pieces pieces m)) (recounted set (with_pieces (pieces ++ text ∷ []) m)) one
        (ap (λ o. if_there o (λ text. Going (a + 1) [] (recounted set (with_pieces (pieces ++ text ∷ []) m)))) there),
  )
  item_comes (Amount value) a b set pieces two (d, code, one) is =
      comes_on c see 0 a d b [] (recounted set (with_pieces pieces m)) (λ v. v ∷ []) (λ v. with_pieces pieces m)
      (λ text. []) (λ text. with_pieces (pieces ++ text ∷ []) m)
      (present_value s.environment value) (λ v. Ok (signed_decimal v))
      (plain_comes tree slots c see has s (with_pieces pieces m)
      (record { words_meet = turn.words_meet; held = turn.held; two = turn.two }) value is a d set [] two code)
      (λ v later kept. (
        later,
        kept_here 0 later,
        passes c see ItemInstr d b (v ∷ []) [] (recounted later (with_pieces pieces m))
            (recounted later (with_pieces (pieces ++ signed_decimal v ∷ []) m)) one refl,
      ))

  items_come : (items : List PrintItem) (a b : ℕ) (set : List (Option Counting)) (pieces : List (List ℕ)) → length set ≡ 2
      → ItemsCode slots items c a b
      → All IsInFrames items
      → Comes c see 0 a [] (recounted set (with_pieces pieces m)) b (λ texts. []) (λ texts. with_pieces (pieces ++ texts) m)
      (texts_of s.environment items)
  items_come [] a b set pieces two code is = (
    set,
    kept_here 0 set,
    subst (λ ps. Leads c see a [] (recounted set (with_pieces pieces m)) b [] (recounted set (with_pieces ps m))) (sym (append-nil pieces))
        (subst (λ x. Leads c see a [] (recounted set (with_pieces pieces m)) x [] (recounted set (with_pieces pieces m))) (sym code)
        (stays c see a [] (recounted set (with_pieces pieces m)))),
  )
  items_come (item ∷ items) a b set pieces two (d, code, more) is =
      comes_on c see 0 a d b [] (recounted set (with_pieces pieces m)) (λ text. []) (λ text. with_pieces (pieces ++ text ∷ []) m) (λ texts. [])
      (λ texts. with_pieces (pieces ++ texts) m) (printed s.environment item.what)
      (λ text. and_then (texts_of s.environment items) (λ others. Ok (text ∷ others)))
      (item_comes item.what a d set pieces two code (All-head IsInFrames item items is))
      (λ text later kept. rest text later (texts_of s.environment items)
      (items_come items d b later (pieces ++ text ∷ []) (kept.many ∙ two) more (All-tail IsInFrames item items is)))
    where
      rest : (text : List ℕ) (later : List (Option Counting)) (o : Result (List (List ℕ)) Cause)
          → Comes c see 0 d [] (recounted later (with_pieces (pieces ++ text ∷ []) m)) b (λ texts. [])
          (λ texts. with_pieces ((pieces ++ text ∷ []) ++ texts) m) o
          → Comes c see 0 d [] (recounted later (with_pieces (pieces ++ text ∷ []) m)) b (λ texts. []) (λ texts. with_pieces (pieces ++ texts) m)
          (and_then o (λ others. Ok (text ∷ others)))
      rest text later (Ok others) r =
          let grouped : (pieces ++ text ∷ []) ++ others ≡ pieces ++ text ∷ others = append_assoc pieces (text ∷ []) others in (
            r.0,
            r.1,
            subst
                (λ ps. Leads c see d [] (recounted later (with_pieces (pieces ++ text ∷ []) m)) b []
                (recounted r.0 (with_pieces ps m))) grouped r.2,
          )
      rest text later (Err cause) r = r

  -- the line is held
  abbrev held_state : List ℕ → List Item → State
  held_state line rest = with_held (s.held ++ line ∷ []) (continue_with rest s)

  words_held : (line : List ℕ) (rest : List Item)
      → WordsMeet tree c see.process (held_state line rest) (slice_set m.words held_place (pos (held_bytes s.held + (length line + 1)))) m.calls
  words_held line rest =
      let w = turn.words_meet in
      let part = part_of c see.process in
      let bytes = held_bytes s.held + (length line + 1) in
      let long = laid_long part w.front s.environment m.words m.calls w.laid in
      let there : held_place < length m.words = omega (arith, long) in
      record {
        front = slice_set w.front held_place (pos bytes);
        laid = laid_written part w.front s.environment m.words m.calls held_place (pos bytes) w.laid (omega arith);
        globals = w.globals;
        few = w.few;
        held = word_set m.words held_place (pos bytes) there ∙ ap (λ n. pos n) (sym (sum_by_push (λ (one : List ℕ). length one + 1) s.held line));
        sent = λ channel ends e is. word_other m.words held_place _ (pos bytes) (λ f. absurd (omega (arith, f))) ∙ w.sent channel ends e is;
        taken = λ channel ends e is. word_other m.words held_place _ (pos bytes) (λ f. absurd (omega (arith, f))) ∙ w.taken channel ends e is;
      }

  hold_took : (texts : List (List ℕ)) (later : List (Option Counting)) (rest : List Item) (a b : ℕ) → length later ≡ 2 → One Print c a b
      → Left tree slots c see.process (stacks_of s.environment.calls) rest m.calls b
      → Took tree slots c see has a [] (recounted later (with_pieces texts m)) (λ later. m.slots)
      (held_with (continue_with rest s) (joined_pieces texts))
  hold_took texts later rest a b two code left = by (nat_lt most_held bytes) refl
    where
      line : List ℕ
      line = joined_pieces texts

      bytes : ℕ
      bytes = held_bytes s.held + (length line + 1)

      n : Workspace
      n = recounted later (with_pieces texts m)

      counted : natural (word_at m.words held_place) + (length line + 1) ≡ bytes
      counted = ap (λ w. natural w + (length line + 1)) turn.words_meet.held

      acts : (t : Bool) → nat_lt most_held bytes ≡ t
          → act c see Print a [] n ≡ cond t (Trapped Hold) (Going (a + 1) [] (line_held bytes line n))
      acts t e =
          ap (λ k. prints_line k line n (λ later. Going (a + 1) [] later)) counted
          ∙ ap (λ b. cond b (Trapped Hold) (Going (a + 1) [] (line_held bytes line n))) e

      by : (t : Bool) → nat_lt most_held bytes ≡ t
          → Took tree slots c see has a [] n (λ later. m.slots) (cond t (Err Hold) (Ok (held_state line rest)))
      by true e = ends c see Print a [] n (Trapped Hold) code.0 (acts true e) refl
      by false e =
          took_from tree slots c see has a b [] [] n (line_held bytes line n) (λ later. m.slots) (Ok (held_state line rest))
          (passes c see Print a b [] [] n (line_held bytes line n) code (acts false e))
          (arrives tree slots c see has (held_state line rest) b (line_held bytes line n) (λ later. m.slots)
          (record { words_meet = words_held line rest; held = ap (λ lines. lines ++ line ∷ []) turn.held; two = two }) left refl)

  pub printing_took : m.pieces ≡ [] → (items : List PrintItem) (rest : List Item) (a b : ℕ)
      → CommandPlaced tree slots (owner_of tree see.process) (Printing items) c a b
      → CommandInFrames tree slots see.process (frames_of tree slots c see has s) (Printing items)
      → Left tree slots c see.process (stacks_of s.environment.calls) rest m.calls b
      → Took tree slots c see has (a + 1) [] m (λ later. m.slots) (performs tree see.message s rest (Printing items))
  unfolding CommandForm
  printing_took none items rest a b (d, begin, (e, code, print)) is left =
      let hold : List ℕ → Result State Cause = held_with (continue_with rest s) in
      same_took tree slots c see has (a + 1) [] m (λ later. m.slots) (and_then (texts_of s.environment items) (λ texts. hold (joined_pieces texts))) _
      (and_then_same {B = State} (texts_of s.environment items) _ _ (λ texts. ap hold (pieces_are texts))
      ∙ sym (ap (λ o. and_then o hold) (line_from_texts s.environment true items)
      ∙ then_then (texts_of s.environment items) (λ texts. Ok (line_of true texts)) hold))
      (took_on tree slots c see has (a + 1) e [] m (λ texts. []) (λ texts. with_pieces texts m) (λ later. m.slots) (texts_of s.environment items) _
      (subst
      (λ ps. Comes c see 0 (a + 1) [] (with_pieces ps m) e (λ texts. []) (λ texts. with_pieces texts m) (texts_of s.environment items))
      (sym none)
      (items_come items (a + 1) e m.counters [] turn.two (subst (λ z. ItemsCode slots items c z e) begin.1 code) is))
      (λ texts later at many. hold_took texts later rest e b (many ∙ turn.two) print left))
