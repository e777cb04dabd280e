use Rattle.std.proofs.Common.{◌≡◌, drop}
use Rattle.rb_syntax.specs.Plain.{links_of}
use Rattle.rb_scope.specs.Sites.{links_sites}
use Rattle.rb_faults.specs.Finding.{visited}
use Rattle.rb_faults.specs.Memory.{spot_of}
use Rattle.rb_faults.proofs.expression.+expression.Given as goal

-- what is found, and then behind the other operands
abbrev pub invariant-visit_links-loop-link : goal.invariant-visit_links-loop-link
invariant-visit_links-loop-link l =
    visited l.finder (links_sites (spot_of l.spot) (links_of (drop l.link-index l.links)))
    ≡ visited l.fn.finder (links_sites (spot_of l.spot) (links_of l.links))
