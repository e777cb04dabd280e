-- The reason of a refusal for the fault of a line.
use Rattle.std.proofs.Common.{◌≡◌, ◌∙◌, List, ℕ, Option, sym, ap, subst}
use Rattle.rb_base.specs.declared.fault.TextFault.{TextFault}
use Rattle.rb_base.specs.declared.names.Names.{Names}
use Rattle.rb_commands.specs.declared.why.Why.{Why}
use Rattle.rb_hall.specs.declared.fault.Fault.{Fault}
use Rattle.rb_hall.specs.declared.fault.Fault.TheVariants as of
use Rattle.rb_hall.specs.declared.outcome.Refusal.{Refusal}
use Rattle.rb_why.specs.Text.{text_told}
use Rattle.rb_tell.specs.Reasons.{IsReasonFor, IsReasonOf, names_of}

pub told_of_line : (file : List ℕ) (refusal : Refusal Why) (fault : TextFault) (names : Option Names) (told : List ℕ)
    → refusal.fault ≡ of.Text fault → names ≡ names_of refusal.why → told ≡ text_told file refusal.text.now names fault
    → IsReasonFor file refusal told
told_of_line file refusal fault names told is known h =
    subst (λ (f : Fault). IsReasonOf file f refusal.text.now refusal.why told) (sym is)
    (h ∙ ap (λ (n : Option Names). text_told file refusal.text.now n fault) known)
