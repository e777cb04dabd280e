-- Tables of the code of `print` and of calls.
use Rattle.std.proofs.Common.{◌≡◌, ℕ, ◌+◌, ◌<◌, ◌≤◌, Bool, List, [], ◌∷◌, length, Option, None, refl, sym, subst, arith}
use Rattle.std.specs.List.{All}
use Rattle.std.proofs.lemmas.List.Elements.{All-head, All-tail}
use Rattle.std.proofs.lemmas.Option.{slice_get_within}
use Rattle.rb_base.specs.declared.limits.TheConstants.{MOST_ITEMS}
use Rattle.rb_syntax.specs.Tree.{Expression, Printed, Words, Amount, PrintItem}
use Rattle.rb_scope.specs.Frames.{Frames, Shape}
use Rattle.rb_scope.specs.InFrames.{ExpressionInFrames, PrintedInFrames}
use Rattle.rb_scope.specs.declared.slot.Slot.{Slot}
use Rattle.rb_world.specs.Kind.{Membership}
use Rattle.rb_code.specs.Instructions.Plain.{Code}
use Rattle.rb_code.specs.WordMachine.Workspace.{part_of}
use Rattle.rb_code.specs.Agreement.RoomInTree.{ArgumentsHaveRoom, PrintedHasRoom}
use Rattle.rb_code.specs.SoundCode.Sound.{BeginsAs, Mode, Fresh, Free, Changed, Entry, IsProcedureAt, LeadsTo, Table}
use Rattle.rb_code.specs.Agreement.Template.{One, ◌⨾◌}
use Rattle.rb_code.specs.Agreement.Forms.{ArgumentsCode, ItemsCode, PrintedCode}
use Rattle.rb_code.specs.declared.instr.Instr.TheVariants as instr
use Rattle.rb_code.proofs.Tables.ExpressionTables.{HasWords}
use Rattle.rb_code.proofs.Tables.PlainTables.{Quiet, point, quiet, quiet_on, step_tabled}
use Rattle.rb_code.proofs.Tables.StatementTables.{around, turn_tabled, value_tabled}
use Rattle.rb_code.proofs.Tables.Tabled.{Around, TabledFirst, joined_first}

-- the entry with so many pieces of a line
abbrev pub with_pieces : ℕ → Entry → Entry
with_pieces n e = record e { pieces = n }

module _ (c : Code) (groups : List Membership) (slots : List Slot) (globals : Shape) (shapes : List Shape) (in_test : Bool) where
  words_with_pieces : (n : ℕ) (e : Entry) → HasWords c groups slots globals shapes in_test e
      → HasWords c groups slots globals shapes in_test (with_pieces n e)
  words_with_pieces n e w = record { above = w.above; running = w.running; own = w.own; before = w.before }

  module _ (e : Entry) (words : HasWords c groups slots globals shapes in_test e) where
    -- the frames around a statement
    abbrev pub frames : Frames
    frames = around c groups slots globals shapes in_test e words

    -- an item of a line
    item_tabled : (what : Printed) (n : ℕ) (R : Around) (a b : ℕ) (mode after : Mode) → Quiet mode after → PrintedInFrames slots frames what
        → PrintedHasRoom what → n < MOST_ITEMS → PrintedCode slots what c a b
        → ((t : Table) → R t → LeadsTo c groups t b (point (with_pieces (n + 1) e) [] [] after))
        → TabledFirst c groups R a b (point (with_pieces n e) [] [] mode)
    item_tabled (Words text) n R a b mode after begun known room few (k, is, one) next =
        step_tabled c groups R (instr.Text k) a b (point (with_pieces n e) [] [] mode)
        (point (with_pieces (n + 1) e) [] [] after) one refl words.above
        (λ t r leads. (
          slice_get_within c.texts k text is,
          few,
          subst (λ m. LeadsTo c groups t (a + 1) (point (with_pieces (n + 1) e) [] [] m)) (sym begun.is) leads,
        )) next
    item_tabled (Amount value) n R a b mode after begun known room few (m, code, one) next =
        let first = point (with_pieces n e) (None ∷ []) [] after in
        joined_first c groups R a m b (point (with_pieces n e) [] [] mode) first
        (value_tabled c groups slots globals shapes in_test (with_pieces n e) (words_with_pieces n e words) value
        (λ t. LeadsTo c groups t m first × R t) a m [] mode after begun known room code (λ t r. r.0))
        (step_tabled c groups R instr.Item m b first (point (with_pieces (n + 1) e) [] [] after) one refl words.above
        (λ t r leads. (few, subst (λ o. LeadsTo c groups t (m + 1) (point (with_pieces (n + 1) e) [] [] o)) (sym begun.stays) leads)) next).whole

    -- items of a line, and its end
    items_tabled : (items : List PrintItem) (n : ℕ) (R : Around) (a b : ℕ) (mode after : Mode) → Quiet mode after
        → All (λ item. PrintedInFrames slots frames item.what) items → All (λ item. PrintedHasRoom item.what) items → n + length items ≤ MOST_ITEMS
        → (ItemsCode slots items ⨾ One instr.Print) c a b
        → ((t : Table) → R t → LeadsTo c groups t b (point (with_pieces 0 e) [] [] Changed))
        → TabledFirst c groups R a b (point (with_pieces n e) [] [] mode)
    items_tabled [] n R a b mode after begun known room few (m, none, one) next =
        step_tabled c groups R instr.Print a b (point (with_pieces n e) [] [] mode) (point (with_pieces 0 e) [] [] Changed)
        (subst (λ x. One instr.Print c x b) none one) refl words.above (λ t r leads. (begun.traps, leads)) next
    items_tabled (item ∷ items) n R a b mode after begun known room few (m, (p, code, more), one) next =
        joined_first c groups R a p b (point (with_pieces n e) [] [] mode) (point (with_pieces (n + 1) e) [] [] after)
        (item_tabled item.what n (λ t. LeadsTo c groups t p (point (with_pieces (n + 1) e) [] [] after) × R t) a p mode after begun
        (All-head (λ (each : PrintItem). PrintedInFrames slots frames each.what) item items known)
        (All-head (λ (each : PrintItem). PrintedHasRoom each.what) item items room) (omega (arith, few)) code (λ t r. r.0))
        (items_tabled items (n + 1) R p b after after (quiet_on mode after begun)
        (All-tail (λ (each : PrintItem). PrintedInFrames slots frames each.what) item items known)
        (All-tail (λ (each : PrintItem). PrintedHasRoom each.what) item items room) (omega (arith, few)) (m, more, one) next).whole

    -- `print`
    pub print_tabled : (items : List PrintItem) (R : Around) (a b : ℕ) (mode : Mode) → e.pieces ≡ 0
        → All (λ item. PrintedInFrames slots frames item.what) items → All (λ item. PrintedHasRoom item.what) items → length items ≤ MOST_ITEMS
        → (One instr.Turn ⨾ ItemsCode slots items ⨾ One instr.Print) c a b
        → ((t : Table) → R t → LeadsTo c groups t b (point e [] [] Changed)) → TabledFirst c groups R a b (point e [] [] mode)
    print_tabled items R a b mode pieces known room few (m, turn, code) next =
        joined_first c groups R a m b (point e [] [] mode) (point e [] [] Fresh)
        (turn_tabled c groups slots globals shapes in_test e words
        (λ t. LeadsTo c groups t m (point e [] [] Fresh) × R t) a m mode pieces turn (λ t r. r.0))
        (subst (λ n. TabledFirst c groups R m b (point (with_pieces n e) [] [] Fresh)) (sym pieces)
        (items_tabled items 0 R m b Fresh Free (quiet Fresh tt) known room (omega (arith, few)) code
        (λ t r. subst (λ n. LeadsTo c groups t b (point (with_pieces n e) [] [] Changed)) pieces (next t r)))).whole

    -- arguments on operands, and the call
    module _ (to p n : ℕ) (R : Around) (b : ℕ) (pieces : e.pieces ≡ 0)
        (there : (t : Table) → R t → IsProcedureAt (part_of c e.within.process).procedures to)
        (enters : (t : Table) → R t → BeginsAs (t to) e.within.process to (p + n))
        (next : (t : Table) → R t → LeadsTo c groups t b (point e [] [] Changed)) where
      arguments_tabled : (arguments : List Expression) (a : ℕ) (os : List (Option ℕ)) (mode after : Mode) → Quiet mode after
          → All (ExpressionInFrames slots frames) arguments → ArgumentsHaveRoom (length os) arguments → length os + length arguments ≡ p
          → (ArgumentsCode slots arguments ⨾ One (instr.Call to p n)) c a b → TabledFirst c groups R a b (point e os [] mode)
      arguments_tabled [] a os mode after begun known room long (m, none, one) =
          step_tabled c groups R (instr.Call to p n) a b (point e os [] mode) (point e [] [] Changed)
          (subst (λ x. One (instr.Call to p n) c x b) none one) refl words.above
          (λ t r leads. (begun.traps, omega (arith, long), pieces, refl, there t r, enters t r, leads)) next
      arguments_tabled (argument ∷ arguments) a os mode after begun known room long (m, (d, code, more), one) =
          joined_first c groups R a d b (point e os [] mode) (point e (None ∷ os) [] after)
          (value_tabled c groups slots globals shapes in_test e words argument
          (λ t. LeadsTo c groups t d (point e (None ∷ os) [] after) × R t) a d os mode after
          begun (All-head (ExpressionInFrames slots frames) argument arguments known) room.0 code (λ t r. r.0))
          (arguments_tabled arguments d (None ∷ os) after after (quiet_on mode after begun)
          (All-tail (ExpressionInFrames slots frames) argument arguments known) room.1 (omega (arith, long)) (m, more, one)).whole

      -- a call
      pub call_tabled : (arguments : List Expression) (a : ℕ) (mode : Mode) → All (ExpressionInFrames slots frames) arguments
          → ArgumentsHaveRoom 0 arguments → length arguments ≡ p → (One instr.Turn ⨾ ArgumentsCode slots arguments ⨾ One (instr.Call to p n)) c a b
          → TabledFirst c groups R a b (point e [] [] mode)
      call_tabled arguments a mode known room long (m, turn, code) =
          joined_first c groups R a m b (point e [] [] mode) (point e [] [] Fresh)
          (turn_tabled c groups slots globals shapes in_test e words
          (λ t. LeadsTo c groups t m (point e [] [] Fresh) × R t) a m mode pieces turn (λ t r. r.0))
          (arguments_tabled arguments m [] Fresh Free (quiet Fresh tt) known room (omega (arith, long)) code).whole
