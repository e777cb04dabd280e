-- The procedures before these have another name.
use Rattle.std.proofs.Common.{◌≡◌, length}
use Rattle.std.specs.List.{find}
use Rattle.rb_meaning.specs.Environment.{same_name}
use Rattle.rb_walk.proofs.blocks.procedure_among.Given as goal

abbrev pub invariant-loop-rest : goal.invariant-loop-rest
invariant-loop-rest l =
    find (λ procedure. same_name procedure.name.text.now l.name) l.rest
    ≡ find (λ procedure. same_name procedure.name.text.now l.name) l.procedures

abbrev pub decreases-loop-rest : goal.decreases-loop-rest
decreases-loop-rest l = length l.rest
