use Rattle.std.proofs.Common.{◌≡◌, ℕ, Option, Some, slice_get, refl, ap, ◌∙◌}
use Rattle.std.specs.Option.{unwrap_or}
use Rattle.rb_scope.specs.declared.slot.Slot.{Slot}
use Rattle.rb_scope.specs.declared.slot.Slot.TheVariants as slot
use Rattle.rb_code.specs.Agreement.Slots.{counter_in, quantified_in}
use Rattle.rb_draft.proofs.lookups.quantified_of.Goals as goal

counter_or_none : (o : Option Slot) → unwrap_or (counter_in o) 0 ≡ quantified_in o
counter_or_none (Some (slot.Counter k)) = refl
counter_or_none o = refl

pub returns : goal.returns
returns c =
    c.unwrap_or.ensures ∙ ap (λ (k : Option ℕ). unwrap_or k 0) c.counter_of.ensures
    ∙ counter_or_none (slice_get c.args.slots.now c.args.id)
