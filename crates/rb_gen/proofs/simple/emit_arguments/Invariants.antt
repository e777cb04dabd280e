use Rattle.std.proofs.Common.{length, map}
use Rattle.rb_syntax.specs.Plain.{expression}
use Rattle.rb_code.specs.Agreement.Forms.{ArgumentsCode}
use Rattle.rb_draft.specs.Output.{Output, output}
use Rattle.rb_draft.specs.Emits.{Adds}
use Rattle.rb_gen.proofs.simple.emit_arguments.Given as goal

-- whatever stands for the rest completes it
abbrev pub invariant-arguments : goal.invariant-arguments
invariant-arguments l =
    (after : Output) → Adds (ArgumentsCode l.slots (map expression l.rest)) (output l.draft) after
    → Adds (ArgumentsCode l.slots (map expression l.fn.arguments)) (output l.fn.draft) after

abbrev pub decreases-arguments : goal.decreases-arguments
decreases-arguments l = length l.rest
