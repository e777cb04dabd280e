-- Faults that are noted one after another.
use Rattle.std.proofs.Common.{◌≡◌, List, ◌++◌, Option, sym, ap, ◌∙◌}
use Rattle.rb_base.specs.declared.fault.SourceFault.{SourceFault}
use Rattle.rb_scope.specs.Finding.{first_after}
use Rattle.rb_uses.proofs.After.{after_append}

-- some faults, and then the others
pub then_noted : (first now last : Option SourceFault) (xs ys : List SourceFault) → now ≡ first_after first xs → last ≡ first_after now ys
    → last ≡ first_after first (xs ++ ys)
then_noted first now last xs ys e f = f ∙ ap (λ n. first_after n ys) e ∙ sym (after_append first xs ys)
