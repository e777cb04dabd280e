-- Tables of the code of assignments, sends, receives and `fail`.
use Rattle.std.proofs.Common.{◌≡◌, ℕ, ◌<◌, Bool, List, [], ◌∷◌, length, slice_get, Option, Some, None, refl, sym, subst}
use Rattle.rb_base.specs.declared.limits.TheConstants.{MOST_OPERANDS}
use Rattle.rb_syntax.specs.Tree.{Expression, Reference, Refer, Scalar, Element}
use Rattle.rb_scope.specs.Frames.{Frames, Shape}
use Rattle.rb_scope.specs.InFrames.{ExpressionInFrames, IsScalar, ReferenceInFrames}
use Rattle.rb_scope.specs.declared.slot.Slot.{Slot}
use Rattle.rb_world.specs.Kind.{Membership}
use Rattle.rb_code.specs.Instructions.Plain.{Code}
use Rattle.rb_code.specs.WordMachine.Workspace.{part_of}
use Rattle.rb_code.specs.Agreement.Operands.{HasRoom}
use Rattle.rb_code.specs.Agreement.RoomInTree.{StoreHasRoom}
use Rattle.rb_code.specs.Agreement.Slots.{elements_of, spot_of}
use Rattle.rb_code.specs.SoundCode.Sound.{Mode, Fresh, MayPut, MayTake, Free, Changed, Entry, Has, IsMain, IsReceiver, IsSender, IsWeaker, LeadsTo, Table, WeakerMode, at_address}
use Rattle.rb_code.specs.Agreement.Template.{Template, One, ◌⨾◌}
use Rattle.rb_code.specs.Agreement.Forms.{ExpressionCode, StoreCode}
use Rattle.rb_code.specs.declared.instr.Instr.TheVariants as instr
use Rattle.rb_code.proofs.Tables.ExpressionTables.{HasWords, array_range, expression_tabled, frames_with, none_set, scalar_range}
use Rattle.rb_code.proofs.Tables.PlainTables.{Cover, Quiet, plain_tabled, point, quiet, quiet_on, step_tabled}
use Rattle.rb_code.proofs.Tables.Tabled.{Around, TabledFirst, joined_first}
use Rattle.rb_code.proofs.Executing.Weaker.{weaker_changed}

-- where it is known that something was changed, any mode may lead
pub weaker_from_changed : (e g : Entry) (mode : Mode) → IsWeaker (record e { mode = Changed }) g → IsWeaker (record e { mode = mode }) g
weaker_from_changed e g mode w = record {
  within = w.within;
  operands = w.operands;
  words = w.words;
  blocks = w.blocks;
  loops = w.loops;
  pieces = w.pieces;
  mode = subst (WeakerMode mode) (sym (weaker_changed g.mode w.mode)) tt;
}

pub leads_from_changed : (c : Code) (groups : List Membership) (t : Table) (a : ℕ) (e : Entry) (mode : Mode)
    → LeadsTo c groups t a (record e { mode = Changed }) → LeadsTo c groups t a (record e { mode = mode })
leads_from_changed c groups t a e mode h = by (t a) h
  where
    by : (o : Option Entry) → Has o (at_address a (record e { mode = Changed })) → Has o (at_address a (record e { mode = mode }))
    by None w = absurd w
    by (Some g) w = weaker_from_changed (at_address a e) g mode w

-- no loop lies anywhere
pub no_cover : (a b : ℕ) → Cover a b []
no_cover a b x low high = refl

module _ (c : Code) (groups : List Membership) (slots : List Slot) (globals : Shape) (shapes : List Shape) (in_test : Bool) (e : Entry)
    (words : HasWords c groups slots globals shapes in_test e) where
  -- the frames around a statement
  abbrev pub around : Frames
  around = frames_with c groups slots globals shapes in_test [] 0

  -- an expression that stands in no other
  pub value_tabled : (x : Expression) (R : Around) (a b : ℕ) (os : List (Option ℕ)) (mode after : Mode) → Quiet mode after
      → ExpressionInFrames slots around x → HasRoom (length os) x → ExpressionCode slots x c a b
      → ((t : Table) → R t → LeadsTo c groups t b (point e (None ∷ os) [] after)) → TabledFirst c groups R a b (point e os [] mode)
  value_tabled x R a b os mode after begun is room code next =
      expression_tabled c groups slots globals shapes in_test e words x [] 0 R a b os [] mode after begun none_set is room (no_cover a b) code next

  -- the `turn` before a statement
  pub turn_tabled : (R : Around) (a b : ℕ) (mode : Mode) → e.pieces ≡ 0 → One instr.Turn c a b
      → ((t : Table) → R t → LeadsTo c groups t b (point e [] [] Fresh)) → TabledFirst c groups R a b (point e [] [] mode)
  turn_tabled R a b mode pieces one next =
      step_tabled c groups R instr.Turn a b (point e [] [] mode) (point e [] [] Fresh) one refl words.above
      (λ t r leads. (refl, pieces, refl, leads)) next

  -- a value, which some code pushes, goes to a place
  module _ (R : Around) (V : Template) (Room : ℕ → Type 0) (mode after done : Mode) (begun : Quiet mode after)
      (alone : (S : Around) (d f : ℕ) → Room 0 → V c d f → ((t : Table) → S t → LeadsTo c groups t f (point e (None ∷ []) [] done))
      → TabledFirst c groups S d f (point e [] [] mode))
      (behind : (n : ℕ) (S : Around) (d f : ℕ) → Room 1 → V c d f → ((t : Table) → S t → LeadsTo c groups t f (point e (None ∷ Some n ∷ []) [] done))
      → TabledFirst c groups S d f (point e (Some n ∷ []) [] after)) where
    pub store_tabled : (to : Reference) (a b : ℕ) → ReferenceInFrames slots around (IsScalar slots around) to → StoreHasRoom to Room
        → StoreCode slots to V c a b → ((t : Table) → R t → LeadsTo c groups t b (point e [] [] Changed))
        → TabledFirst c groups R a b (point e [] [] mode)
    store_tabled (Refer name Scalar) a b is room (m, code, one) next =
        joined_first c groups R a m b (point e [] [] mode) (point e (None ∷ []) [] done)
        (alone (λ t. LeadsTo c groups t m (point e (None ∷ []) [] done) × R t) a m room code (λ t r. r.0))
        (step_tabled c groups R (instr.Store (spot_of slots name.id)) m b (point e (None ∷ []) [] done) (point e [] [] Changed) one refl words.above
        (λ t r leads. (
          scalar_range c groups slots globals shapes in_test e.words
              (part_of c e.within.process).words name [] 0 words.own words.running is,
          leads,
        ))
        next).whole
    store_tabled (Refer name (Element index)) a b is room (m, code, (d, bound, (f, value, one))) next =
        let n = elements_of slots name.id in
        let first = point e (None ∷ []) [] after in
        let second = point e (Some n ∷ []) [] after in
        let third = point e (None ∷ Some n ∷ []) [] done in
        let R1 : Around = λ t. LeadsTo c groups t f third × R t in
        let R2 : Around = λ t. LeadsTo c groups t d second × R1 t in
        joined_first c groups R a f b (point e [] [] mode) third
        (joined_first c groups R1 a d f (point e [] [] mode) second
        (joined_first c groups R2 a m d (point e [] [] mode) first
        (value_tabled index (λ t. LeadsTo c groups t m first × R2 t) a m [] mode after begun is.1 room.0 code (λ t r. r.0))
        (plain_tabled c groups e words.above [] after after (quiet_on mode after begun) R2 (instr.Bound n) m d (None ∷ []) (Some n ∷ []) bound refl
        (λ t r leads. (begun.traps_after, leads)) (λ t r. r.0)).whole)
        (behind n R1 d f room.1 value (λ t r. r.0)).whole)
        (step_tabled c groups R (instr.StoreAt (spot_of slots name.id)) f b third (point e [] [] Changed) one refl words.above
        (λ t r leads. (
          array_range c groups slots globals shapes in_test e.words
              (part_of c e.within.process).words name [] 0 words.own words.running is.0,
          leads,
        ))
        next).whole

  -- an assignment
  pub assignment_tabled : (R : Around) (to : Reference) (value : Expression) (a b : ℕ) (mode : Mode) → e.pieces ≡ 0
      → ReferenceInFrames slots around (IsScalar slots around) to → ExpressionInFrames slots around value
      → StoreHasRoom to (λ n. HasRoom n value) → (One instr.Turn ⨾ StoreCode slots to (ExpressionCode slots value)) c a b
      → ((t : Table) → R t → LeadsTo c groups t b (point e [] [] Changed)) → TabledFirst c groups R a b (point e [] [] mode)
  assignment_tabled R to value a b mode pieces is known room (m, turn, code) next =
      joined_first c groups R a m b (point e [] [] mode) (point e [] [] Fresh)
      (turn_tabled (λ t. LeadsTo c groups t m (point e [] [] Fresh) × R t) a m mode pieces turn (λ t r. r.0))
      (store_tabled R (ExpressionCode slots value) (λ n. HasRoom n value) Fresh Free Free (quiet Fresh tt)
      (λ S d f fits code1 next1. value_tabled value S d f [] Fresh Free (quiet Fresh tt) known fits code1 next1)
      (λ n S d f fits code1 next1. value_tabled value S d f (Some n ∷ []) Free Free (quiet Free tt) known fits code1 next1) to m b is room code
      next).whole

  -- `fail`
  pub fail_tabled : (R : Around) (a b : ℕ) (mode : Mode) → e.pieces ≡ 0 → (One instr.Turn ⨾ One instr.Fail) c a b
      → ((t : Table) → R t → LeadsTo c groups t b (point e [] [] Changed)) → TabledFirst c groups R a b (point e [] [] mode)
  fail_tabled R a b mode pieces (m, turn, one) next =
      joined_first c groups R a m b (point e [] [] mode) (point e [] [] Fresh)
      (turn_tabled (λ t. LeadsTo c groups t m (point e [] [] Fresh) × R t) a m mode pieces turn (λ t r. r.0))
      (step_tabled c groups R instr.Fail m b (point e [] [] Fresh) (point e [] [] Fresh) one refl words.above (λ t r leads. (tt, leads))
      (λ t r. leads_from_changed c groups t b (point e [] [] Changed) Fresh (next t r))).whole

  module _ (channel : ℕ) where
    -- `send`
    pub send_tabled : (R : Around) (value : Expression) (a b : ℕ) (mode : Mode) → e.pieces ≡ 0 → IsMain e.within
        → IsSender (slice_get c.channels channel) e.within.process → ExpressionInFrames slots around value → HasRoom 0 value
        → (One instr.Turn ⨾ One (instr.Room channel) ⨾ ExpressionCode slots value ⨾ One (instr.Put channel)) c a b
        → ((t : Table) → R t → LeadsTo c groups t b (point e [] [] Changed)) → TabledFirst c groups R a b (point e [] [] mode)
    send_tabled R value a b mode pieces main sender known room (m, turn, (d, asks, (f, code, put))) next =
        let ready = point e [] [] (MayPut channel) in
        let full = point e (None ∷ []) [] (MayPut channel) in
        let R1 : Around = λ t. LeadsTo c groups t f full × R t in
        let R2 : Around = λ t. LeadsTo c groups t d ready × R1 t in
        joined_first c groups R a f b (point e [] [] mode) full
        (joined_first c groups R1 a d f (point e [] [] mode) ready
        (joined_first c groups R2 a m d (point e [] [] mode) (point e [] [] Fresh)
        (turn_tabled (λ t. LeadsTo c groups t m (point e [] [] Fresh) × R2 t) a m mode pieces turn (λ t r. r.0))
        (step_tabled c groups R2 (instr.Room channel) m d (point e [] [] Fresh) ready asks refl words.above
        (λ t r leads. (refl, main, sender, leads)) (λ t r. r.0)).whole)
        (value_tabled value R1 d f [] (MayPut channel) (MayPut channel) (quiet (MayPut channel) tt) known room code (λ t r. r.0)).whole)
        (step_tabled c groups R (instr.Put channel) f b full (point e [] [] Changed) put refl words.above (λ t r leads. (refl, leads)) next).whole

    -- a message that is there is taken, and goes to a place
    pub taken_tabled : (R : Around) (to : Reference) (a b : ℕ) → ReferenceInFrames slots around (IsScalar slots around) to
        → StoreHasRoom to (λ n. n < MOST_OPERANDS)
        → StoreCode slots to (One (instr.Take channel)) c a b
        → ((t : Table) → R t → LeadsTo c groups t b (point e [] [] Changed)) → TabledFirst c groups R a b (point e [] [] (MayTake channel))
    taken_tabled R to a b is room code next =
        store_tabled R (One (instr.Take channel)) (λ n. n < MOST_OPERANDS) (MayTake channel) (MayTake channel) Changed (quiet (MayTake channel) tt)
        (λ S d f fits take next1. step_tabled c groups S (instr.Take channel) d f (point e [] [] (MayTake channel)) (point e (None ∷ []) [] Changed)
        take refl words.above (λ t r leads. (refl, fits, leads)) next1)
        (λ n S d f fits take next1. step_tabled c groups S (instr.Take channel) d f (point e (Some n ∷ []) [] (MayTake channel))
        (point e (None ∷ Some n ∷ []) [] Changed) take refl words.above (λ t r leads. (refl, fits, leads)) next1) to a b is room code next

    -- `receive`
    pub receive_tabled : (R : Around) (to : Reference) (a b : ℕ) (mode : Mode) → e.pieces ≡ 0 → IsMain e.within
        → IsReceiver (slice_get c.channels channel) e.within.process
        → ReferenceInFrames slots around (IsScalar slots around) to → StoreHasRoom to (λ n. n < MOST_OPERANDS)
        → (One instr.Turn ⨾ One (instr.There channel) ⨾ StoreCode slots to (One (instr.Take channel))) c a b
        → ((t : Table) → R t → LeadsTo c groups t b (point e [] [] Changed)) → TabledFirst c groups R a b (point e [] [] mode)
    receive_tabled R to a b mode pieces main receiver is room (m, turn, (d, there, code)) next =
        let ready = point e [] [] (MayTake channel) in
        let R1 : Around = λ t. LeadsTo c groups t d ready × R t in
        joined_first c groups R a d b (point e [] [] mode) ready
        (joined_first c groups R1 a m d (point e [] [] mode) (point e [] [] Fresh)
        (turn_tabled (λ t. LeadsTo c groups t m (point e [] [] Fresh) × R1 t) a m mode pieces turn (λ t r. r.0))
        (step_tabled c groups R1 (instr.There channel) m d (point e [] [] Fresh) ready there refl words.above
        (λ t r leads. (refl, main, receiver, leads)) (λ t r. r.0)).whole)
        (taken_tabled R to d b is room code next).whole
