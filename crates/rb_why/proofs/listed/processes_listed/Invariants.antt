use Rattle.std.proofs.Common.{◌≡◌, [], length, map}
use Rattle.rb_base.specs.Naming.{process_names}
use Rattle.rb_base.specs.declared.names.ProcessNames.{ProcessNames}
use Rattle.rb_why.specs.Listed.{listed}
use Rattle.rb_why.proofs.listed.processes_listed.Given as goal

-- the list so far with those that are left is that of all
abbrev pub invariant-loop-rest : goal.invariant-loop-rest
invariant-loop-rest l = listed (map (λ (p : ProcessNames). p.name) l.rest) l.told.items ≡ listed (process_names l.names) []

abbrev pub decreases-loop-rest : goal.decreases-loop-rest
decreases-loop-rest l = length l.rest
