use Rattle.std.proofs.Common.{◌≡◌, ◌++◌, Bor, List, ℕ, length, map}
use Rattle.rb_base.specs.Naming.{process_names}
use Rattle.rb_base.specs.declared.names.ProcessNames.{ProcessNames}
use Rattle.rb_why.proofs.listed.process_texts.Given as goal

-- the names so far and those that are left are all
abbrev pub invariant-loop-rest : goal.invariant-loop-rest
invariant-loop-rest l =
    map (λ (text : Bor (List ℕ)). text.now) l.texts.items ++ map (λ (p : ProcessNames). p.name) l.rest ≡ process_names l.names

abbrev pub decreases-loop-rest : goal.decreases-loop-rest
decreases-loop-rest l = length l.rest
