-- The text of a run is that of the meaning.
use Rattle.std.proofs.Common.{◌≡◌, ℕ, List, Option, Result, ap, ◌∙◌}
use Rattle.rb_outside.specs.Outside.{Faults}
use Rattle.rb_outside.specs.Puts.{Puts}
use Rattle.rb_outside.proofs.Puts.{puts_same}
use Rattle.rb_world.specs.Kind.{Membership}
use Rattle.rb_meaning.specs.Meaning.{run_text}
use Rattle.rb_code.specs.Instructions.Plain.{Code}
use Rattle.rb_code.specs.WordMachine.WordRun.{word_text}
use Rattle.rb_prepare.proofs.AcceptedSources.{accepted_code_agrees}
use Rattle.rb_run.specs.Sources.{OfItsSource}

pub text_as_meant : (c : Code) (groups : List Membership) (turns : List ℕ)
    → OfItsSource c groups (λ tree. word_text c groups turns ≡ run_text tree turns)
text_as_meant c groups turns source tree slots accepted resolved stands same =
    ap (λ (all : List Membership). word_text c all turns) same
    ∙ (accepted_code_agrees source tree slots c accepted resolved stands turns).text

-- so what is written of it
pub written_as_meant : {D : Type 0} (c : Code) (groups : List Membership) (turns : List ℕ) (w0 w1 : Option (List ℕ)) (f0 f1 : Faults)
    (r : Result (Unit {0}) D) → Puts (word_text c groups turns) w0 w1 f0 f1 r
    → OfItsSource c groups (λ tree. Puts (run_text tree turns) w0 w1 f0 f1 r)
written_as_meant c groups turns w0 w1 f0 f1 r wrote source tree slots accepted resolved stands same =
    puts_same (word_text c groups turns) (run_text tree turns) w0 w1 f0 f1 r
    (text_as_meant c groups turns source tree slots accepted resolved stands same) wrote
