-- Instructions are linked one after another.
use Rattle.std.proofs.Common.{◌≡◌, ℕ, ◌+◌, ◌<◌, ◌≤◌, List, [], ◌∷◌, Some, length, refl, sym, ap, ◌∙◌, subst, arith, below_more}
use Rattle.std.specs.Prelude.{slice_get, slice_set, option_map}
use Rattle.rb_code.specs.declared.instr.Instr.{Instr}
use Rattle.rb_code.specs.declared.instr.Instr.TheVariants.{Call}
use Rattle.rb_code.specs.Instructions.Plain.{Procedure}
use Rattle.rb_code.specs.Agreement.StandsFor.{text_numbers}
use Rattle.rb_code.proofs.Agreeing.CountersSet.{get_set_same}
use Rattle.rb_draft.specs.Output.{Output, linked_to, patched}
use Rattle.rb_gen.specs.Writes.{IsLinked}
use Rattle.rb_draft.proofs.Growing.{get_other, same_length, texts-same}

-- those from an address up to another are linked, and no others
pub record IsLinkedTo (procedures : List Procedure) (from to : ℕ) (old new : Output) : Type 0 where
  pub long : length new.instrs ≡ length old.instrs
  pub rises : from ≤ to
  pub before : (i : ℕ) → i < from → slice_get new.instrs i ≡ slice_get old.instrs i
  pub done : (i : ℕ) → i < to → from ≤ i → slice_get new.instrs i ≡ option_map (linked_to procedures) (slice_get old.instrs i)
  pub left : (i : ℕ) → to ≤ i → slice_get new.instrs i ≡ slice_get old.instrs i
  pub numbers : text_numbers new.instrs ≡ text_numbers old.instrs
  pub texts : new.texts ≡ old.texts
  pub blocks : new.blocks ≡ old.blocks

pub linked_init : (procedures : List Procedure) (from : ℕ) (o : Output) → IsLinkedTo procedures from from o o
linked_init procedures from o = record {
  long = refl;
  rises = omega arith;
  before = λ i h. refl;
  done = λ i h k. absurd (omega arith);
  left = λ i h. refl;
  numbers = refl;
  texts = refl;
  blocks = refl;
}

same_texts : (procedures : List Procedure) (x : Instr) → text_numbers (linked_to procedures x ∷ []) ≡ text_numbers (x ∷ [])
same_texts procedures (Call number arguments words) = refl
same_texts procedures x = refl

-- one more
pub linked_step : (procedures : List Procedure) (from at : ℕ) (x : Instr) {o c d : Output} → at < length c.instrs → slice_get c.instrs at ≡ Some x
    → d ≡ patched c at (linked_to procedures x) → IsLinkedTo procedures from at o c → IsLinkedTo procedures from (at + 1) o d
linked_step procedures from at x {o = o} {c = c} {d = d} inside there is h =
    subst (λ e. IsLinkedTo procedures from (at + 1) o e) (sym is) (record {
      long = same_length c.instrs at y ∙ h.long;
      rises = omega (arith, h.rises);
      before = λ i k. get_other c.instrs at i y (λ e. absurd (omega (arith, h.rises))) ∙ h.before i k;
      done = below_more (λ i. from ≤ i → slice_get (slice_set c.instrs at y) i ≡ option_map (linked_to procedures) (slice_get o.instrs i)) at
          (λ i k l. get_other c.instrs at i y (λ e. absurd (omega arith)) ∙ h.done i k l)
          (λ l. get_set_same c.instrs at y inside ∙ ap (option_map (linked_to procedures)) (sym there ∙ h.left at (omega arith)));
      left = λ i k. get_other c.instrs at i y (λ e. absurd (omega arith)) ∙ h.left i (omega arith);
      numbers = texts-same c.instrs at y x there (same_texts procedures x) ∙ h.numbers;
      texts = h.texts;
      blocks = h.blocks;
    })
  where
    y : Instr
    y = linked_to procedures x

pub linked_all : (procedures : List Procedure) (from to : ℕ) {o d : Output} → length o.instrs ≤ to
    → IsLinkedTo procedures from to o d → IsLinked procedures from o d
linked_all procedures from to many h = record {
  long = h.long;
  before = h.before;
  behind = λ i k l. h.done i (omega arith) k;
  numbers = h.numbers;
  texts = h.texts;
  blocks = h.blocks;
}
