-- A turn with no lines has no text.
use Rattle.std.proofs.Common.{◌≡◌, ℕ, zero, suc, ◌+◌, List, [], ◌++◌, length, replicate, refl, ap, sym, ◌∙◌}
use Rattle.rb_base.specs.declared.event.Report.{Report}
use Rattle.rb_base.specs.declared.event.Event.{Event}
use Rattle.rb_base.specs.declared.event.TurnKind.{TurnKind}
use Rattle.rb_trace.specs.Report.{told_of}
use Rattle.rb_world.specs.Text.{Naming, out_lines, told_text}
use Rattle.rb_machine.specs.Machine.{Seen}
use Rattle.rb_run.specs.Running.{HasNoLines}

no_outs : (names : Naming) (t p n : ℕ) → out_lines names t p (replicate n []) ≡ []
no_outs names t p zero = refl
no_outs names t p (suc n) = no_outs names t (p + 1) n

-- a turn that tells and releases nothing has no text
pub no_lines_told : (names : Naming) (t : ℕ) (kind : TurnKind) (n : ℕ) → told_text names t (told_of kind [] (replicate n [])) ≡ []
no_lines_told names t kind n = ap (λ (bytes : List ℕ). bytes ++ []) (no_outs names t 0 n)

module _ (report : Report) (m : Seen) (none : HasNoLines report m) where
  pub no_text : (names : Naming) (t : ℕ) → [] ≡ told_text names t (told_of report.kind report.events.items m.waiting)
  no_text names t =
      sym (ap (λ (events : List Event). told_text names t (told_of report.kind events m.waiting)) none.events
      ∙ (ap (λ (waiting : List (List (List ℕ))). told_text names t (told_of report.kind [] waiting)) none.waits
      ∙ no_lines_told names t report.kind (length m.world.processes)))
