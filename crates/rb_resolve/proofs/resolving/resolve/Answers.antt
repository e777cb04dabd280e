use Rattle.rb_syntax.specs.Plain.{tree}
use Rattle.rb_scope.proofs.Answer.{found_none, found_first}
use Rattle.rb_scope.proofs.ResolvedInFrames.{resolved_in_frames}
use Rattle.rb_resolve.proofs.resolving.resolve.Goals as goal

pub returns-in-Ok-slots-clause-resolved : goal.returns-in-Ok-slots-clause-resolved
returns-in-Ok-slots-clause-resolved c =
    found_none (tree c.args.program) c.in-Ok.finder c.in-Ok-slots.slots.items c.requires c.in-Ok.ensures c.in-Ok-slots.ensures.ok.0 c.in-Ok-slots.ensures.ok.1

pub returns-in-Ok-slots-clause-frames : goal.returns-in-Ok-slots-clause-frames
returns-in-Ok-slots-clause-frames c =
    resolved_in_frames (tree c.args.program) c.in-Ok-slots.slots.items
    (found_none (tree c.args.program) c.in-Ok.finder c.in-Ok-slots.slots.items c.requires c.in-Ok.ensures c.in-Ok-slots.ensures.ok.0 c.in-Ok-slots.ensures.ok.1)

pub returns-clause-refused : goal.returns-clause-refused
returns-clause-refused c =
    found_first (tree c.args.program) c.in-Ok.finder c.in-Err-slots.fault c.in-Ok.ensures c.in-Err-slots.ensures.err
