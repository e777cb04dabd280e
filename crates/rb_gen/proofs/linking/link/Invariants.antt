use Rattle.std.proofs.Common.{map}
use Rattle.rb_code.specs.Instructions.Plain.{procedure}
use Rattle.rb_draft.specs.Output.{output}
use Rattle.rb_gen.proofs.LinkSteps.{IsLinkedTo}
use Rattle.rb_gen.proofs.linking.link.Given as goal

abbrev pub invariant-instrs : goal.invariant-instrs
invariant-instrs l = IsLinkedTo (map procedure l.procedures) l.from l.at (output l.fn.draft) (output l.draft)
