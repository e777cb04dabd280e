use Rattle.std.proofs.Common.{◌≡◌, drop, map}
use Rattle.rb_syntax.specs.Plain.{identifier}
use Rattle.rb_scope.specs.Sites.{member_sites}
use Rattle.rb_faults.specs.Finding.{visited}
use Rattle.rb_faults.specs.Memory.{spot_of}
use Rattle.rb_faults.proofs.program.visit_members.Given as goal

-- what is found, and then behind the other members
abbrev pub invariant-loop-name : goal.invariant-loop-name
invariant-loop-name l =
    visited l.finder (member_sites (spot_of l.spot) (map identifier (drop l.name-index l.members)))
    ≡ visited l.fn.finder (member_sites (spot_of l.spot) (map identifier l.members))
