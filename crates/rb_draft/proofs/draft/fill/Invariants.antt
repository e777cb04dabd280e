use Rattle.std.proofs.Common.{◌≡◌, drop}
use Rattle.rb_draft.specs.Output.{output, filled_with}
use Rattle.rb_draft.proofs.draft.fill.Given as goal

-- what is left to write makes of the draft what all would have made of the first
abbrev pub invariant-places : goal.invariant-places
invariant-places l = filled_with (drop l.place-index l.places) l.instr (output l.draft) ≡ filled_with l.places l.instr (output l.fn.draft)
