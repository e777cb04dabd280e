-- What `judge` answers.
use Rattle.std.specs.Prelude.{◌≡◌, ℕ, List}
use Rattle.rb_base.specs.declared.fault.Refusal.{Refusal}
use Rattle.rb_base.specs.declared.fault.Refusal.TheVariants.{Fault, Memory}
use Rattle.rb_syntax.specs.Plain.{tree}
use Rattle.rb_meaning.specs.Meaning.{naming_of}
use Rattle.rb_trace.specs.Naming.{naming}
use Rattle.rb_scope.specs.Resolved.{IsResolved}
use Rattle.rb_scope.specs.InFrames.{Resolved}
use Rattle.rb_nest.specs.Nest.{IsNest}
use Rattle.rb_judge.specs.Verdict.{IsAccepted, IsRefusedFor}
use Rattle.rb_judge.specs.declared.judging.Judged.{Judged}

-- An accepted source with its tree, the slots of its names, its conversations, and the names that lines and schedules speak of.
pub record IsJudged (source : List ℕ) (judged : Judged) : Type 0 where
  pub accepted : IsAccepted source (tree judged.checked.program)
  pub resolved : IsResolved (tree judged.checked.program) judged.checked.slots.items
  pub frames : Resolved (tree judged.checked.program) judged.checked.slots.items
  pub conversations : IsNest (tree judged.checked.program) judged.nested
  pub names : naming judged.names ≡ naming_of (tree judged.checked.program)

-- A source is refused for this fault; or memory was short, whatever the source.
abbrev pub IsRefusal : List ℕ → Refusal → Type 0
IsRefusal source (Fault fault) = IsRefusedFor source fault
IsRefusal source Memory = Unit {0}
